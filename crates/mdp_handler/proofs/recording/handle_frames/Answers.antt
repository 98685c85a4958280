use Rattle.std.proofs.Common.{◌≡◌, ◌++◌, List, ℕ, take, ap, subst, ◌∙◌}
use Rattle.std.proofs.lemmas.Result.{err_from_is_err_and}
use Rattle.mdp_pipeline.specs.declared.note.Note.{Note}
use Rattle.mdp_handler.specs.Faults.{Tells, note_lines}
use Rattle.mdp_handler.specs.declared.faults.Place.TheVariants.{Frame}
use Rattle.mdp_handler.proofs.Frames.{frames_cut, frames_handled, frames_lost}
use Rattle.mdp_handler.proofs.recording.handle_frames.Goals as goal

-- it was taken in, and went out
pub returns-clause-handled : goal.returns-clause-handled
returns-clause-handled g c =
    frames_handled g.F.CountedWrite.failed g.F.CountedWrite.taken c.args.piece.now c.args.run.now c.take_piece.new.self c.clear.new.self
    (g.O.CountedWrite.taken c.args.output.now) (g.O.CountedWrite.taken c.hand_on.new.writer) c.args.faults.now c.tell_notes.new.faults
    c.in-Ok.ensures c.clear.ensures
    (c.in_ok-hand_on.ensures.taken ∙ ap (λ (t : List ℕ). g.O.CountedWrite.taken c.args.output.now ++ t) c.text.ensures)
    (subst (λ (notes : List Note). Tells g.F.CountedWrite.failed g.F.CountedWrite.taken c.args.faults.now c.tell_notes.new.faults (note_lines Frame notes)) c.notes.ensures c.tell_notes.ensures)

-- a write failed
pub returns-in_err-hand_on-clause-begun : goal.returns-in_err-hand_on-clause-begun
returns-in_err-hand_on-clause-begun g c =
    let fault = err_from_is_err_and c.from_residual.result c.from_residual.ensures.1 in
    let front = c.in_err-hand_on.ensures.begins in
    rw fault.1 (frames_cut g.F.CountedWrite.failed g.F.CountedWrite.taken c.args.piece.now c.args.run.now c.take_piece.new.self
    (g.O.CountedWrite.taken c.args.output.now) (g.O.CountedWrite.taken c.hand_on.new.writer) front.0 c.args.faults.now c.tell_notes.new.faults
    c.in-Ok.ensures
    (front.1 ∙ ap (λ (t : List ℕ). g.O.CountedWrite.taken c.args.output.now ++ take front.0 t) c.text.ensures)
    (subst (λ (notes : List Note). Tells g.F.CountedWrite.failed g.F.CountedWrite.taken c.args.faults.now c.tell_notes.new.faults (note_lines Frame notes)) c.notes.ensures c.tell_notes.ensures))

-- memory ran out
pub returns-in_default-clause-begun : goal.returns-in_default-clause-begun
returns-in_default-clause-begun g c =
    frames_lost g.F.CountedWrite.failed g.F.CountedWrite.taken c.args.piece.now c.args.run.now (g.O.CountedWrite.taken c.args.output.now) c.args.faults.now
