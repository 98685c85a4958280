use Rattle.std.proofs.Common.{◌≡◌, ap, refl, arith}
use Rattle.std.proofs.lemmas.Result.{err_from_is_err_and}
use Rattle.mdp_crew.specs.Faults.{written_before}
use Rattle.mdp_handler.proofs.GoingOut.{end_cut, end_cut_refused, end_handled, end_refused, stays_so_far}
use Rattle.mdp_handler.proofs.live.handle_last_line.Goals as goal

pub returns-in_ok-hand_on_all-in-Ok-clause-handled : goal.returns-in_ok-hand_on_all-in-Ok-clause-handled
returns-in_ok-hand_on_all-in-Ok-clause-handled g c =
    end_handled g.F.CountedWrite.failed g.F.CountedWrite.taken c.args.run.now c.take_end.new.self c.hand_on_all.new.run
    (g.O.CountedWrite.taken c.args.output.now) (g.O.CountedWrite.taken c.hand_on_all.new.output) c.args.faults.now c.hand_on_all.new.faults
    c.in-Ok.ensures.taken c.in_ok-hand_on_all-in-Ok.ensures.gone c.in_ok-hand_on_all-in-Ok.ensures.shown c.hand_on_all.ensures.told

-- a write failed
pub returns-in_err-hand_on_all-in-Ok-clause-ended : goal.returns-in_err-hand_on_all-in-Ok-clause-ended
returns-in_err-hand_on_all-in-Ok-clause-ended g c =
    let p = err_from_is_err_and c.from_residual.result c.from_residual.ensures.1 in
    let front = c.in_err-hand_on_all-in-Ok.ensures.begins in
    rw (p.1, p.2) (end_cut g.F.CountedWrite.failed g.F.CountedWrite.taken c.args.run.now c.take_end.new.self
    (g.O.CountedWrite.taken c.args.output.now) (g.O.CountedWrite.taken c.hand_on_all.new.output) front.0 c.args.faults.now c.hand_on_all.new.faults
    c.in-Ok.ensures.taken front.1 c.hand_on_all.ensures.told)

-- the last line refuses the run
pub returns-in_ok-hand_on_all-in-Err-Refused-clause-ended : goal.returns-in_ok-hand_on_all-in-Err-Refused-clause-ended
returns-in_ok-hand_on_all-in-Err-Refused-clause-ended g c =
    let stops = rw c.in-Err-Refused.field-0-is at c.in-Err-Refused.ensures.refused in
    let handed = c.in_ok-hand_on_all-in-Err-Refused.ensures in
    end_refused g.F.CountedWrite.failed g.F.CountedWrite.taken (record { line = c.in-Err-Refused.line; refusal = c.in-Err-Refused.refusal }) c.args.run.now c.take_end.new.self c.hand_on_all-in-Err-Refused.new.run
    (g.O.CountedWrite.taken c.args.output.now) (g.O.CountedWrite.taken c.hand_on_all-in-Err-Refused.new.output) c.args.faults.now c.hand_on_all-in-Err-Refused.new.faults
    stops handed.gone handed.shown handed.told

pub returns-in_err-hand_on_all-in-Err-Refused-clause-ended : goal.returns-in_err-hand_on_all-in-Err-Refused-clause-ended
returns-in_err-hand_on_all-in-Err-Refused-clause-ended g c =
    let p = err_from_is_err_and c.from_residual-in_err-hand_on_all-in-Err-Refused.result c.from_residual-in_err-hand_on_all-in-Err-Refused.ensures.1 in
    let stops = rw c.in-Err-Refused.field-0-is at c.in-Err-Refused.ensures.refused in
    let handed = c.in_err-hand_on_all-in-Err-Refused.ensures in
    rw (p.1, p.2) (end_cut_refused g.F.CountedWrite.failed g.F.CountedWrite.taken (record { line = c.in-Err-Refused.line; refusal = c.in-Err-Refused.refusal }) c.args.run.now c.take_end.new.self
    (g.O.CountedWrite.taken c.args.output.now) (g.O.CountedWrite.taken c.hand_on_all-in-Err-Refused.new.output) handed.begins.0 c.args.faults.now c.hand_on_all-in-Err-Refused.new.faults
    stops handed.begins.1 handed.told)

-- memory ran out
pub returns-in-Err : goal.returns-in-Err
returns-in-Err g c = record {
  handled = tt;
  ended = λ setup text start first so_far. stays_so_far g.F.CountedWrite.failed g.F.CountedWrite.taken setup text start (g.O.CountedWrite.taken c.args.output.now) c.args.faults.now first c.args.run.now so_far;
  counted = ap written_before c.out_of_memory.ensures;
  failed = rw c.out_of_memory.ensures (omega arith);
  unread = refl;
}
