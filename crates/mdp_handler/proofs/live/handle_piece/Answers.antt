use Rattle.std.proofs.Common.{◌≡◌, ℕ, List, ◌++◌, ap, sym, subst, append_assoc, refl, arith}
use Rattle.std.proofs.lemmas.Result.{err_from_is_err_and}
use Rattle.mdp_crew.specs.Faults.{written_before}
use Rattle.mdp_handler.specs.Faults.{Tells}
use Rattle.mdp_handler.specs.Live.{HasBegunLines, went}
use Rattle.mdp_handler.proofs.GoingOut.{piece_cut, piece_cut_refused, piece_handled, piece_refused, stays_there}
use Rattle.mdp_handler.proofs.live.handle_piece.Goals as goal

pub returns-in_ok-hand_on_all-in-Ok-clause-handled : goal.returns-in_ok-hand_on_all-in-Ok-clause-handled
returns-in_ok-hand_on_all-in-Ok-clause-handled g c =
    piece_handled g.F.CountedWrite.failed g.F.CountedWrite.taken c.args.piece.now c.args.run.now c.take_piece.new.self c.hand_on_all.new.run
    (g.O.CountedWrite.taken c.args.output.now) (g.O.CountedWrite.taken c.hand_on_all.new.output) c.args.faults.now c.hand_on_all.new.faults
    c.in-Ok.ensures.taken c.hand_on_all.ensures.cutter c.in_ok-hand_on_all-in-Ok.ensures.gone c.in_ok-hand_on_all-in-Ok.ensures.shown c.hand_on_all.ensures.told

-- a write failed
pub returns-in_err-hand_on_all-in-Ok-clause-ended : goal.returns-in_err-hand_on_all-in-Ok-clause-ended
returns-in_err-hand_on_all-in-Ok-clause-ended g c =
    let p = err_from_is_err_and c.from_residual.result c.from_residual.ensures.1 in
    let front = c.in_err-hand_on_all-in-Ok.ensures.begins in
    rw (p.1, p.2) (piece_cut g.F.CountedWrite.failed g.F.CountedWrite.taken c.args.piece.now c.args.run.now c.take_piece.new.self
    (g.O.CountedWrite.taken c.args.output.now) (g.O.CountedWrite.taken c.hand_on_all.new.output) front.0 c.args.faults.now c.hand_on_all.new.faults
    c.in-Ok.ensures.taken front.1 c.hand_on_all.ensures.told)

-- a line refuses the run
pub returns-in_ok-hand_on_all-in-Err-Refused-clause-ended : goal.returns-in_ok-hand_on_all-in-Err-Refused-clause-ended
returns-in_ok-hand_on_all-in-Err-Refused-clause-ended g c =
    let stops = rw c.in-Err-Refused.field-0-is at c.in-Err-Refused.ensures.refused in
    let handed = c.in_ok-hand_on_all-in-Err-Refused.ensures in
    piece_refused g.F.CountedWrite.failed g.F.CountedWrite.taken c.args.piece.now (record { line = c.in-Err-Refused.line; refusal = c.in-Err-Refused.refusal }) c.args.run.now c.take_piece.new.self c.hand_on_all-in-Err-Refused.new.run
    (g.O.CountedWrite.taken c.args.output.now) (g.O.CountedWrite.taken c.hand_on_all-in-Err-Refused.new.output) c.args.faults.now c.hand_on_all-in-Err-Refused.new.faults
    stops handed.gone handed.shown handed.told

pub returns-in_err-hand_on_all-in-Err-Refused-clause-ended : goal.returns-in_err-hand_on_all-in-Err-Refused-clause-ended
returns-in_err-hand_on_all-in-Err-Refused-clause-ended g c =
    let p = err_from_is_err_and c.from_residual-in_err-hand_on_all-in-Err-Refused.result c.from_residual-in_err-hand_on_all-in-Err-Refused.ensures.1 in
    let stops = rw c.in-Err-Refused.field-0-is at c.in-Err-Refused.ensures.refused in
    let handed = c.in_err-hand_on_all-in-Err-Refused.ensures in
    rw (p.1, p.2) (piece_cut_refused g.F.CountedWrite.failed g.F.CountedWrite.taken c.args.piece.now (record { line = c.in-Err-Refused.line; refusal = c.in-Err-Refused.refusal }) c.args.run.now c.take_piece.new.self
    (g.O.CountedWrite.taken c.args.output.now) (g.O.CountedWrite.taken c.hand_on_all-in-Err-Refused.new.output) handed.begins.0 c.args.faults.now c.hand_on_all-in-Err-Refused.new.faults
    stops handed.begins.1 handed.told)

-- memory ran out
pub returns-in-Err : goal.returns-in-Err
returns-in-Err g c = record {
  handled = tt;
  ended = λ setup text more start first so_far.
      subst (λ (whole : List ℕ). HasBegunLines setup whole (went start (g.O.CountedWrite.taken c.args.output.now) (Tells g.F.CountedWrite.failed g.F.CountedWrite.taken first c.args.faults.now)))
      (sym (append_assoc text c.args.piece.now more))
      (stays_there g.F.CountedWrite.failed g.F.CountedWrite.taken setup text (c.args.piece.now ++ more) start (g.O.CountedWrite.taken c.args.output.now) c.args.faults.now first c.args.run.now so_far);
  counted = ap written_before c.out_of_memory.ensures;
  failed = rw c.out_of_memory.ensures (omega arith);
  unread = refl;
}
