use Rattle.std.proofs.Common.{◌++◌, List, ℕ, take, ap, subst, ◌∙◌}
use Rattle.std.proofs.lemmas.Result.{err_from_is_err_and}
use Rattle.mdp_pipeline.specs.declared.note.Note.{Note}
use Rattle.mdp_handler.specs.Faults.{Tells, note_lines}
use Rattle.mdp_handler.specs.declared.faults.Place.TheVariants.{Line}
use Rattle.mdp_handler.proofs.live.hand_on_all.Goals as goal

pub returns-clause-told : goal.returns-clause-told
returns-clause-told g c =
    subst (λ (notes : List Note). Tells g.F.CountedWrite.failed g.F.CountedWrite.taken c.args.faults.now c.tell_notes.new.faults (note_lines Line notes)) c.notes.ensures c.tell_notes.ensures

pub returns-clause-shown : goal.returns-clause-shown
returns-clause-shown g c = c.in_ok-hand_on.ensures.taken ∙ ap (λ (t : List ℕ). g.O.CountedWrite.taken c.args.output.now ++ t) c.text.ensures

pub returns-in_err-hand_on-clause-told : goal.returns-in_err-hand_on-clause-told
returns-in_err-hand_on-clause-told g c =
    subst (λ (notes : List Note). Tells g.F.CountedWrite.failed g.F.CountedWrite.taken c.args.faults.now c.tell_notes.new.faults (note_lines Line notes)) c.notes.ensures c.tell_notes.ensures

pub returns-in_err-hand_on-clause-begins : goal.returns-in_err-hand_on-clause-begins
returns-in_err-hand_on-clause-begins g c =
    let fault = err_from_is_err_and c.from_residual.result c.from_residual.ensures.1 in
    let front = c.in_err-hand_on.ensures.begins in
    rw fault.1 (front.0, front.1 ∙ ap (λ (t : List ℕ). g.O.CountedWrite.taken c.args.output.now ++ take front.0 t) c.text.ensures)
