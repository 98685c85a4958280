use Rattle.std.proofs.Common.{◌++◌, ℕ, List, take, refl, sym, ap, ◌∙◌}
use Rattle.std.proofs.lemmas.List.{append-nil}
use Rattle.std.proofs.lemmas.Result.{err_from_is_err_and}
use Rattle.mdp_lanes.specs.declared.step.Step.{Step}
use Rattle.mdp_crew.specs.Collecting.CutShort.{in_text, in_steps}
use Rattle.mdp_crew.specs.Publishing.{published_on}
use Rattle.mdp_crew.proofs.collector.Collecting.show.Goals as goal

-- memory ran out before a write
pub returns-in_default-clause-begins : goal.returns-in_default-clause-begins
returns-in_default-clause-begins g c = in_text 0 (sym (append-nil (g.W.CountedWrite.taken c.args.writer.now))) refl

-- a write failed after so many bytes
pub returns-in_err-hand_on-clause-begins : goal.returns-in_err-hand_on-clause-begins
returns-in_err-hand_on-clause-begins g c =
    let fault = err_from_is_err_and c.from_residual.result c.from_residual.ensures.1 in
    let some = c.in_err-hand_on.ensures.begins in
    let text = c.deref.ensures.value ∙ c.in-Ok.ensures.text in
    rw fault.1 (in_text some.0 (some.1 ∙ ap (λ (t : List ℕ). g.W.CountedWrite.taken c.args.writer.now ++ take some.0 t) text) refl)

pub returns-in_err-hand_on-clause-told : goal.returns-in_err-hand_on-clause-told
returns-in_err-hand_on-clause-told g c =
    let fault = err_from_is_err_and c.from_residual.result c.from_residual.ensures.1 in
    rw (fault.1, fault.2) c.in_err-hand_on.ensures.told

pub returns-in_err-hand_on-clause-failed : goal.returns-in_err-hand_on-clause-failed
returns-in_err-hand_on-clause-failed g c =
    let fault = err_from_is_err_and c.from_residual.result c.from_residual.ensures.1 in
    rw (fault.1, fault.2) c.in_err-hand_on.ensures.failed

-- memory ran out where steps were published
pub returns-in-Err-clause-begins : goal.returns-in-Err-clause-begins
returns-in-Err-clause-begins g c =
    let some = c.in-Err.ensures.some in
    let whole = c.in_ok-hand_on.ensures.taken ∙ ap (λ (t : List ℕ). g.W.CountedWrite.taken c.args.writer.now ++ t) (c.deref.ensures.value ∙ c.in-Ok.ensures.text) in
    in_steps some.0 whole (some.1 ∙ ap (λ (l : List Step). published_on c.args.board.now (take some.0 l)) c.in-Ok.ensures.steps)
