use Rattle.std.proofs.Common.{◌≡◌, ◌<◌, length, ap, ◌∙◌, refl, arith}
use Rattle.std.proofs.lemmas.List.{length-map, length-set, get_or-set_same}
use Rattle.mdp_desks.specs.declared.desk.Desk.{Desk}
use Rattle.mdp_desks.proofs.Waiting.{clear_due, due_marked}
use Rattle.mdp_desks.proofs.Passing.{settled_more, settled_end, marks_put}
use Rattle.mdp_desks.proofs.desks.settle_all.Goals as goal

pub loop-n-preserved : goal.loop-n-preserved
loop-n-preserved g c =
    let ds = c.loop-n.desks in
    let n = c.in-Some.n in
    let here = c.settle.new.self in
    let marks = c.loop-n.invariant.marks in
    let long : length c.loop-n.marked ≡ length ds = ap length marks ∙ simp length-map refl in
    let first = c.in-Some.ensures.some in
    let less : n < length ds = omega (arith, first.inside, long) in
    let due = due_marked c.args.packet ds c.loop-n.marked marks in
    let clear = clear_due c.args.packet ds c.loop-n.marked c.loop-n.from n due first.before in
    let many = length-set ds n here in
    let mark = ap (λ (d : Desk). d.marked) (get_or-set_same ds n here c.index-desks-n-in-Some.result less) in
    record {
      inside = omega (arith, less, many);
      desks = settled_more c.args.packet ds _ c.loop-n.from n here _ first.behind less clear c.settle.ensures c.loop-n.invariant.desks;
      marks = marks_put ds _ _ n here _ marks c.put.ensures mark;
    }

pub returns-clause-desks : goal.returns-clause-desks
returns-clause-desks g c =
    let ds = c.loop-n.desks in
    let marks = c.loop-n.invariant.marks in
    let long : length c.loop-n.marked ≡ length ds = ap length marks ∙ simp length-map refl in
    let none = c.in_default.ensures.none in
    let due = due_marked c.args.packet ds c.loop-n.marked marks in
    let clear = clear_due c.args.packet ds c.loop-n.marked c.loop-n.from (length ds) due (λ i from under. none i from (omega (arith, under, long))) in
    settled_end c.args.packet ds _ c.loop-n.from c.loop-n.invariant.inside clear c.loop-n.invariant.desks
