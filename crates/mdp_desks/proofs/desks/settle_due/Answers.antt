use Rattle.std.proofs.Common.{◌<◌, length, sym, ap, ◌∙◌, arith}
use Rattle.std.proofs.lemmas.List.{length-set, get_or-set_same}
use Rattle.mdp_desks.specs.declared.desk.Desk.{Desk}
use Rattle.mdp_desks.proofs.Passing.{settled_more, settled_end, marks_put}
use Rattle.mdp_desks.proofs.Waiting.{clear_due, due_put}
use Rattle.mdp_desks.proofs.desks.settle_due.Goals as goal

pub loop-slot-preserved : goal.loop-slot-preserved
loop-slot-preserved g c =
    let ds = c.loop-slot.desks in
    let n = c.in-Some.slot in
    let here = c.settle.new.self in
    let was = c.loop-slot.invariant in
    let due = was.due c.args.packet c.requires.due in
    let long = was.many in
    let first = c.in-Some.ensures.some in
    let less : n < length ds = omega (arith, first.inside, long) in
    let clear = clear_due c.args.packet ds c.loop-slot.due c.loop-slot.from n due first.before in
    let many = length-set ds n here in
    let mark = ap (λ (d : Desk). d.marked) (get_or-set_same ds n here c.index-desks-slot-in-Some.result less) in
    let due_mark = ap (λ (d : Desk). d.marked) (get_or-set_same ds n here c.index-desks-slot-in-Some-2.result less) in
    record {
      inside = omega (arith, less, many);
      desks = settled_more c.args.packet ds _ c.loop-slot.from n here _ first.behind less clear c.settle.ensures was.desks;
      many = ap length c.put-in-Some.ensures ∙ length-set c.loop-slot.due n _ ∙ long ∙ sym many;
      marks = marks_put ds _ _ n here _ was.marks c.put.ensures mark;
      due = λ k at_first. due_put k ds c.loop-slot.due c.put-in-Some.new.self n here _ (was.due k at_first) less c.put-in-Some.ensures due_mark;
    }

pub returns-clause-desks : goal.returns-clause-desks
returns-clause-desks g c =
    let ds = c.loop-slot.desks in
    let due = c.loop-slot.invariant.due c.args.packet c.requires.due in
    let long = due.many in
    let none = c.in_default.ensures.none in
    let clear = clear_due c.args.packet ds c.loop-slot.due c.loop-slot.from (length ds) due (λ i from under. none i from (omega (arith, under, long))) in
    settled_end c.args.packet ds _ c.loop-slot.from c.loop-slot.invariant.inside clear c.loop-slot.invariant.desks
