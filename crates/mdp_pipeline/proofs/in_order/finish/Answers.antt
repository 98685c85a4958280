use Rattle.std.proofs.Common.{◌++◌, List, ℕ, take, ap, sym, subst, ◌∙◌}
use Rattle.std.proofs.lemmas.Result.{err_from_is_err_and}
use Rattle.mdp_arbiter.specs.declared.arbiter.Standing.{Standing}
use Rattle.mdp_crew.specs.Arbitrating.{IsNextNumber}
use Rattle.mdp_pipeline.proofs.Ending.{early_here, early_of, ends_of, tells_both}
use Rattle.mdp_pipeline.proofs.Joining.{map_ok}
use Rattle.mdp_pipeline.specs.Running.{joined_texts}
use Rattle.mdp_pipeline.proofs.in_order.finish.Goals as goal

-- the text went out, and then the refusals with the last line
pub returns-clause-text : goal.returns-clause-text
returns-clause-text g c =
    ends_of (g.W.CountedWrite.taken c.args.writer.now) (g.W.CountedWrite.taken c.hand_on.new.writer) (g.W.CountedWrite.taken c.write_end.new.writer) c.args.run.handler c.args.run.refusals _
    c.write_end.result (tells_both c.args.run.handler c.next.result c.lost.result c.next.ensures.stands c.lost.ensures.stands) (c.in_ok-hand_on.ensures.taken ∙ ap (λ (t : List ℕ). g.W.CountedWrite.taken c.args.writer.now ++ t) c.lines.ensures) c.write_end.ensures.stands c.write_end.ensures.text

pub returns-clause-begins : goal.returns-clause-begins
returns-clause-begins g c =
    early_of (g.W.CountedWrite.taken c.args.writer.now) (g.W.CountedWrite.taken c.hand_on.new.writer) (g.W.CountedWrite.taken c.write_end.new.writer) c.args.run.handler c.args.run.refusals _
    c.write_end.result (tells_both c.args.run.handler c.next.result c.lost.result c.next.ensures.stands c.lost.ensures.stands) (c.in_ok-hand_on.ensures.taken ∙ ap (λ (t : List ℕ). g.W.CountedWrite.taken c.args.writer.now ++ t) c.lines.ensures) c.write_end.ensures.begins

-- a write of the text failed
pub returns-in_err-hand_on-clause-begins : goal.returns-in_err-hand_on-clause-begins
returns-in_err-hand_on-clause-begins g c =
    let fault = err_from_is_err_and c.from_residual.result c.from_residual.ensures.1 in
    rw fault.1 (λ channel events start so_far.
    let front = c.in_err-hand_on.ensures.begins in
    early_here channel events (joined_texts c.args.run.refusals) start (g.W.CountedWrite.taken c.args.writer.now) (g.W.CountedWrite.taken c.hand_on.new.writer) c.args.run.handler front.0
    (front.1 ∙ ap (λ (t : List ℕ). g.W.CountedWrite.taken c.args.writer.now ++ take front.0 t) c.lines.ensures) so_far)

pub returns-in_err-hand_on-clause-told : goal.returns-in_err-hand_on-clause-told
returns-in_err-hand_on-clause-told g c =
    let fault = err_from_is_err_and c.from_residual.result c.from_residual.ensures.1 in
    rw (fault.1, fault.2) c.in_err-hand_on.ensures.told

pub returns-clause-range : goal.returns-clause-range
returns-clause-range g c = map_ok c.write_end.result _ _ (λ summary tells. subst (λ (s : Standing). IsNextNumber s.next) (sym tells) (c.next.ensures.least, c.next.ensures.most)) c.write_end.ensures.stands
