use Rattle.std.proofs.Common.{◌++◌, List, ℕ, take, refl, ap, ◌∙◌}
use Rattle.std.proofs.lemmas.Result.{err_from_is_err_and}
use Rattle.mdp_engine.specs.Engine.{View}
use Rattle.mdp_pipeline.proofs.Going.{hands_on_nothing, sent_on}
use Rattle.mdp_pipeline.proofs.in_order.hand_on_pieces.Goals as goal

-- the lines are a piece
pub returns-clause-hands_on : goal.returns-clause-hands_on
returns-clause-hands_on g c = record {
  sent = c.args.run.now.handler.held;
  went = c.in_ok-hand_on.ensures.taken ∙ ap (λ (t : List ℕ). g.W.CountedWrite.taken c.args.writer.now ++ t) c.lines-2.ensures;
  stands = λ listed events before. sent_on listed events before c.args.run.now.handler c.clear_lines.new.self c.clear_lines.ensures.stands (ap (λ (v : View). v.keeps_lines) c.clear_lines.ensures.cleared);
  channel = ap (λ (v : View). v.arbiter.channel) c.clear_lines.ensures.cleared;
  refusals = refl;
}

pub returns-in_err-hand_on-clause-begins : goal.returns-in_err-hand_on-clause-begins
returns-in_err-hand_on-clause-begins g c =
    let fault = err_from_is_err_and c.from_residual.result c.from_residual.ensures.1 in
    let front = c.in_err-hand_on.ensures.begins in
    rw fault.1 (front.0, front.1 ∙ ap (λ (t : List ℕ). g.W.CountedWrite.taken c.args.writer.now ++ take front.0 t) c.lines-2.ensures)

pub returns-in_err-hand_on-clause-told : goal.returns-in_err-hand_on-clause-told
returns-in_err-hand_on-clause-told g c =
    let fault = err_from_is_err_and c.from_residual.result c.from_residual.ensures.1 in
    rw (fault.1, fault.2) c.in_err-hand_on.ensures.told

pub returns-in_err-hand_on-clause-failed : goal.returns-in_err-hand_on-clause-failed
returns-in_err-hand_on-clause-failed g c =
    let fault = err_from_is_err_and c.from_residual.result c.from_residual.ensures.1 in
    rw (fault.1, fault.2) c.in_err-hand_on.ensures.failed

-- they are not a piece yet
pub returns-then-lines-lt-PIECE-clause-hands_on : goal.returns-then-lines-lt-PIECE-clause-hands_on
returns-then-lines-lt-PIECE-clause-hands_on g c = hands_on_nothing (g.W.CountedWrite.taken c.args.writer.now) c.args.run.now
