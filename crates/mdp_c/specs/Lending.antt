-- What a handle owns once the session that it lent comes back.
use base.Fml.{Fml}
use denote.Follow.{follows}
use denote.Ref.{MutBor}
use Rattle.std.specs.Prelude.{Some}
use Rattle.mdp_engine.specs.Engine.{View}
use Rattle.mdp_session.specs.contracts.session.Session as session
use Rattle.mdp_c.specs.contracts.handle.Handle as handle
use Rattle.mdp_c.specs.declared.handle.Handle.{Handle}

-- the same handle with this session in its block
abbrev pub with_session : Handle → View → Handle
with_session h v = record { address = h.address; held = Some v }

-- when the loan of the session ends, the handle has the last value that the loan had
abbrev pub regains : MutBor Handle → MutBor View → Fml
regains h loan = follows handle.the_row session.the_row h.ghost_name loan.ghost_name (with_session h.now)
