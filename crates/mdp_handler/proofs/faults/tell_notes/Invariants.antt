use Rattle.std.proofs.Common.{take}
use Rattle.mdp_handler.specs.Faults.{Tells, note_lines}
use Rattle.mdp_handler.proofs.faults.tell_notes.Given as goal

-- the notes so far are told, unless a write failed
abbrev pub invariant-loop-note : goal.invariant-loop-note
invariant-loop-note g l =
    Tells g.F.CountedWrite.failed g.F.CountedWrite.taken l.initial.faults l.faults (note_lines l.place (take l.note-index l.notes))
