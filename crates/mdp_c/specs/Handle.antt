-- What a handle owns.
use Rattle.std.specs.Prelude.{Option, None, Some}
use Rattle.std.specs.Box.Ownership.{box_owns}
use Rattle.std.specs.declared.alloc.Global.{Global}
use Rattle.std.specs.contracts.impls.GlobalAllocator.TheImpl.{ghosts}
use base.Fml.{Fml, feq, fex}
use denote.RawPtr.{Ptr, null_ptr}
use Rattle.mdp_engine.specs.Engine.{View}
use Rattle.mdp_session.specs.contracts.session.Session.{the_row}

-- a session of this view in a block of the heap at this address, and the right to free it
abbrev pub owns_block : Ptr → View → Global → Fml
owns_block p v a = box_owns (ghosts.dealloc_token a) the_row p v

-- closed it is null and owns nothing; open it owns a session
abbrev pub owns_session : Ptr → Option View → Fml
owns_session p None = feq Ptr p null_ptr
owns_session p (Some v) = fex Global (owns_block p v)
