use Rattle.std.proofs.Common.{◌≡◌, ap, refl, arith}
use Rattle.std.proofs.lemmas.Result.{err_from_is_err_and}
use Rattle.mdp_crew.specs.Faults.{written_before}
use Rattle.mdp_pipeline.specs.Output.{standing_in}
use Rattle.mdp_handler.proofs.GoingOut.{ended_early, has_ended, lacks_instrument, stays_at_end}
use Rattle.mdp_handler.proofs.live.finish.Goals as goal

pub returns-in_err-finish-in-Ok-clause-ended : goal.returns-in_err-finish-in-Ok-clause-ended
returns-in_err-finish-in-Ok-clause-ended g c =
    let p = err_from_is_err_and c.from_residual.result c.from_residual.ensures.1 in
    rw (p.1, p.2) (λ setup text start first at.
    ended_early g.F.CountedWrite.failed g.F.CountedWrite.taken setup text start (g.O.CountedWrite.taken c.args.output.now) (g.O.CountedWrite.taken c.finish.new.writer) c.args.faults.now first
    c.args.run c.in-Ok.ended c.in-Ok.ensures.ended c.in_err-finish-in-Ok.ensures.begins at)

pub returns-in_ok-finish-in-Ok-clause-done : goal.returns-in_ok-finish-in-Ok-clause-done
returns-in_ok-finish-in-Ok-clause-done g c = λ setup text start first at.
    has_ended g.F.CountedWrite.failed g.F.CountedWrite.taken setup text start (g.O.CountedWrite.taken c.args.output.now) (g.O.CountedWrite.taken c.finish.new.writer) c.args.faults.now c.tell_end.new.faults first
    c.args.run c.in-Ok.ended c.note-note.result (standing_in c.in_ok-finish-in-Ok.field-0) c.in-Ok.ensures.ended c.in_ok-finish-in-Ok.ensures.text c.note-note.ensures c.tell_end.ensures at

pub returns-in-Err-Refused-clause-ended : goal.returns-in-Err-Refused-clause-ended
returns-in-Err-Refused-clause-ended g c =
    let lacks = rw c.in-Err-Refused.field-0-is at c.in-Err-Refused.ensures.refused in
    rw (c.in-Err-Refused.line-is, c.in-Err-Refused.refusal-is) (λ setup text start first there.
    lacks_instrument g.F.CountedWrite.failed g.F.CountedWrite.taken setup text start (g.O.CountedWrite.taken c.args.output.now) c.args.faults.now first c.args.run
    (record { line = c.in-Err-Refused.line; refusal = c.in-Err-Refused.refusal }) lacks there)

pub returns-in-Err : goal.returns-in-Err
returns-in-Err g c = record {
  done = tt;
  ended = λ setup text start first at. stays_at_end g.F.CountedWrite.failed g.F.CountedWrite.taken setup text start (g.O.CountedWrite.taken c.args.output.now) c.args.faults.now first c.args.run at;
  counted = ap written_before c.out_of_memory.ensures;
  failed = rw c.out_of_memory.ensures (omega arith);
  unread = refl;
}
