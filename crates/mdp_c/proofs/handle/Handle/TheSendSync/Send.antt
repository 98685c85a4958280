-- Another thread may take a handle over: a session may change threads, and so may the right to free its block.
use base.Shift.{Keyless}
use denote.Memory.{lone}
use denote.Param.Send.{IsSend, AllSend, owning_send, struct_send, sendable}
use denote.RawPtr.{Ptr}
use denote.Struct.Owning.{shape, fields, to}
use denote.Struct.Struct.{exits_of}
use mir.Raw.{raw as bare}
use Rattle.std.specs.Prelude.{Option, None, Some}
use Rattle.std.proofs.Crossing as heap
use Rattle.std_alloc.proofs.SendSync.{quiet, lies}
use Rattle.mdp_engine.specs.Engine.{View}
use Rattle.mdp_session.specs.contracts.session.Session as session
use Rattle.mdp_session.proofs.session.Session.TheSendSync.{the_send as session_crosses}
use Rattle.mdp_c.specs.Handle.{owns_session}
use Rattle.mdp_c.specs.contracts.handle.Handle.{the_row, the_type}

-- what is owned at an address is tied to no thread
crosses : (p : Ptr) (x : Option View) → Keyless (owns_session p x)
crosses p None = tt
crosses p (Some v) = λ a. (lies session.the_row session_crosses p v, heap.frees.frees a (bare (lone session.the_row.mir)) p)

pub send : IsSend the_row
send =
    let parts : AllSend (fields the_type) = (search sendable, tt) in
    owning_send the_type parts (λ h. crosses h.address h.held) (λ k. quiet (to the_type) (exits_of k (fields the_type)) ((struct_send (shape the_type) parts).leaving k))
