use Rattle.std.proofs.Common.{◌<◌, length, sym, ap, ◌∙◌, arith}
use Rattle.mdp_desks.specs.Beside.{all_due_at}
use Rattle.mdp_desks.specs.Changed.{with_marks}
use Rattle.mdp_desks.proofs.Waiting.{clear_due}
use Rattle.mdp_desks.proofs.Printing.{due_there, marked_all, marked_more, marked_none, printed_all}
use Rattle.mdp_desks.proofs.desks.mark_due_printed.Goals as goal

pub loop-n-init : goal.loop-n-init
loop-n-init g c = record { inside = omega arith; marked = marked_none c.args.changed.now (all_due_at c.args.packet c.args.desks.now) }

pub loop-n-preserved : goal.loop-n-preserved
loop-n-preserved g c =
    let ds = c.args.desks.now in
    let n = c.in-Some.n in
    let first = c.in-Some.ensures.some in
    let less : n < length ds = omega (arith, first.inside, c.requires.many) in
    let clear = clear_due c.args.packet ds _ c.loop-n.from n c.requires first.before in
    let here = due_there c.args.packet ds n c.index-desks-n.result less c.index-desks-n.is (c.requires.only n first.is_set) in
    record {
      inside = omega (arith, less);
      marked = marked_more c.args.changed.now c.loop-n.changed c.mark_one_printed.new.changed (all_due_at c.args.packet ds) c.loop-n.from n _ first.behind clear here c.mark_one_printed.ensures c.loop-n.invariant.marked;
    }

pub returns : goal.returns
returns g c =
    let ds = c.args.desks.now in
    let clear = clear_due c.args.packet ds _ c.loop-n.from (length ds) c.requires (λ i from under. c.in_default.ensures.none i from (omega (arith, under, c.requires.many))) in
    marked_all c.args.changed.now c.loop-n.changed c.args.packet ds c.loop-n.from clear c.loop-n.invariant.marked
    ∙ ap (with_marks c.args.changed.now) (sym (printed_all c.args.packet ds))
