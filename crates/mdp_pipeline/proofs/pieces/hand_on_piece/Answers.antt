use Rattle.std.proofs.Common.{◌++◌, List, ℕ, drop, take, sym, ap, subst, ◌∙◌}
use Rattle.std.proofs.lemmas.Result.{err_from_is_err_and}
use Rattle.mdp_pipeline.specs.Sending.{SendsFront}
use Rattle.mdp_pipeline.proofs.Sending.{sends_all, sends_nothing, sends_some}
use Rattle.mdp_pipeline.proofs.pieces.hand_on_piece.Goals as goal

-- it is not a piece yet
pub returns-then-len-lt-PIECE-clause-sends : goal.returns-then-len-lt-PIECE-clause-sends
returns-then-len-lt-PIECE-clause-sends g c = sends_nothing c.args.held.now.items (g.W.CountedWrite.taken c.args.writer.now)

-- a write failed
pub returns-in_err-hand_on-clause-begins : goal.returns-in_err-hand_on-clause-begins
returns-in_err-hand_on-clause-begins g c =
    let fault = err_from_is_err_and c.from_residual.result c.from_residual.ensures.1 in
    let held = c.args.held.now.items in
    let start = g.W.CountedWrite.taken c.args.writer.now in
    let some = c.in_err-hand_on.ensures.begins in
    rw fault.1
    (drop some.0 held, sends_some held start (g.W.CountedWrite.taken c.hand_on.new.writer) some.0 (some.1 ∙ ap (λ (t : List ℕ). start ++ take some.0 t) c.as_slice.ensures.value))

pub returns-in_err-hand_on-clause-told : goal.returns-in_err-hand_on-clause-told
returns-in_err-hand_on-clause-told g c =
    let fault = err_from_is_err_and c.from_residual.result c.from_residual.ensures.1 in
    rw (fault.1, fault.2) c.in_err-hand_on.ensures.told

pub returns-in_err-hand_on-clause-failed : goal.returns-in_err-hand_on-clause-failed
returns-in_err-hand_on-clause-failed g c =
    let fault = err_from_is_err_and c.from_residual.result c.from_residual.ensures.1 in
    rw (fault.1, fault.2) c.in_err-hand_on.ensures.failed

-- it is a piece, and went out
pub returns-clause-sends : goal.returns-clause-sends
returns-clause-sends g c =
    let held = c.args.held.now.items in
    let start = g.W.CountedWrite.taken c.args.writer.now in
    let taken = g.W.CountedWrite.taken c.hand_on.new.writer in
    subst (SendsFront held start taken) (sym c.clear.ensures.items) (sends_all held start taken (c.in_ok-hand_on.ensures.taken ∙ ap (λ (t : List ℕ). start ++ t) c.as_slice.ensures.value))
