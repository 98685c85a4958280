use Rattle.std.proofs.Common.{take, subst}
use Rattle.mdp_handler.specs.Faults.{Tells, note_lines}
use Rattle.mdp_handler.proofs.Telling.{notes_on, tells_both}
use Rattle.mdp_handler.proofs.faults.tell_notes.Goals as goal

pub loop-note-preserved : goal.loop-note-preserved
loop-note-preserved g c =
    let notes = c.args.notes.now in
    let n = c.loop-note.note-index in
    subst (Tells g.F.CountedWrite.failed g.F.CountedWrite.taken c.args.faults.now c.tell_note.new.faults)
    (notes_on c.args.place notes n _ c.loop-note-test.true)
    (tells_both g.F.CountedWrite.failed g.F.CountedWrite.taken c.args.faults.now c.loop-note.faults c.tell_note.new.faults (note_lines c.args.place (take n notes)) _ c.loop-note.invariant c.tell_note.ensures)
