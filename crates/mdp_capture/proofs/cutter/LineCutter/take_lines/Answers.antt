use Rattle.std.proofs.Common.{◌+◌, length, length-drop, Fits, w64, arith, rules, ap}
use Rattle.std.proofs.lemmas.List.{take_rest}
use Rattle.std.proofs.lemmas.Result.{err_from_is_err_and}
use Rattle.mdp_capture.proofs.LinesCut.{none_cut, one_cut, stops_there}
use Rattle.mdp_capture.proofs.Splits.{free_of}
use Rattle.mdp_capture.proofs.cutter.LineCutter.take_lines.Goals as goal

pub returns-in_err-take_line-clause-refused : goal.returns-in_err-take_line-clause-refused
returns-in_err-take_line-clause-refused g c =
    let p = err_from_is_err_and c.from_residual.result c.from_residual.ensures.1 in
    let at = c.loop-end in
    let t = g.L.TakesLines in
    let laws = g.met.L.TakesLines in
    let left = rw c.without_carriage_return-text.ensures at c.in_err-take_line.ensures.refused in
    rw (p.1, p.2) (stops_there t.takes laws.takes_none laws.takes_more (t.refuses c.take_line.new.self) c.args.taker.now at.taker c.take_line.new.self c.args.piece.now at.rest.now c.in-Some.end _ c.in-Some.ensures at.invariant.cut left)

pub loop-end-init : goal.loop-end-init
loop-end-init g c =
    let t = g.L.TakesLines in
    let laws = g.met.L.TakesLines in
    record {
      cut = none_cut t.takes laws.takes_none laws.takes_more c.args.taker.now c.args.piece.now;
      none = c.requires;
      last = λ some. absurd (omega (arith, some));
      short = omega arith;
    }

pub loop-end-preserved : goal.loop-end-preserved
loop-end-preserved g c =
    let at = c.loop-end in
    let t = g.L.TakesLines in
    let laws = g.met.L.TakesLines in
    let rest = at.rest.now in
    let k = c.in-Some.end in
    let behind = take_rest rest (k + 1) in
    let step = rw c.without_carriage_return-text.ensures at c.in_ok-take_line.ensures.taken in
    record {
      cut = rw behind (one_cut t.takes laws.takes_none laws.takes_more c.args.taker.now at.taker c.take_line.new.self c.args.piece.now rest k c.in-Some.ensures at.invariant.cut step);
      none = at.invariant.none;
      last = λ some. c.in_ok-take_line.ensures.last;
      short = omega (arith, ap length behind, length-drop (k + 1) rest, at.invariant.short);
    }

pub hold-requires-clause-unfinished : goal.hold-requires-clause-unfinished
hold-requires-clause-unfinished g c = free_of 10 c.loop-end.rest.now c.in_default.ensures

pub returns-clause-taken : goal.returns-clause-taken
returns-clause-taken g c = rw c.in_ok-hold.ensures c.loop-end.invariant.cut

pub overflow_add-rest : goal.overflow_add-rest
overflow_add-rest g c =
    let high = c.in-Some.ensures.0.high in
    let fits : Fits w64 (length c.args.piece.now) = search rules in
    grind (arith, high, fits, c.loop-end.invariant.short)
