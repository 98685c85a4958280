use Rattle.std.proofs.Common.{◌<◌, List, length, sym, ap, ◌∙◌, refl, arith}
use Rattle.mdp_desks.specs.Beside.{marks_of}
use Rattle.mdp_desks.specs.Reports.{Told}
use Rattle.mdp_desks.proofs.Passing.{mark_at}
use Rattle.mdp_desks.proofs.Waiting.{clear_due}
use Rattle.mdp_reports.specs.Reporting.{reports_with_all}
use Rattle.mdp_reports.proofs.Telling.{told_between, told_end, tell_more}
use Rattle.mdp_reports.proofs.event_end.tell_marked.Goals as goal

pub tell_due-requires : goal.tell_due-requires
tell_due-requires g c =
    let long = c.requires.marks.many in
    let first = c.in-Some.ensures.some in
    let less : c.in-Some.n < length c.args.desks.now = omega (arith, long, first.inside) in
    sym (mark_at c.args.desks.now (marks_of c.args.desks.now) c.in-Some.n _ refl less c.index-desks-n.is) ∙ c.requires.marks.only c.in-Some.n first.is_set

pub loop-n-preserved : goal.loop-n-preserved
loop-n-preserved g c =
    let ds = c.args.desks.now in
    let n = c.in-Some.n in
    let many = c.requires.many in
    let long = c.requires.marks.many in
    let first = c.in-Some.ensures.some in
    let less : n < length ds = omega (arith, long, first.inside) in
    let clear = clear_due c.args.end.packet ds c.args.marked.now c.loop-n.from n c.requires.marks first.before in
    record {
      inside = omega (arith, less);
      told =
          tell_more c.args.end c.args.slots.now ds n 0 _ _ _ c.loop-n.out c.tell_due.new.out (omega (arith, less, many)) less refl c.index-desks-n.is c.in_ok-tell_due.ensures
          ∙ ap (λ (t : List Told). reports_with_all t c.loop-n.out) (told_between c.args.end c.args.slots.now ds c.loop-n.from n many first.behind clear)
          ∙ c.loop-n.invariant.told;
    }

pub returns : goal.returns
returns g c =
    let ds = c.args.desks.now in
    let long = c.requires.marks.many in
    let none = c.in_default.ensures.none in
    let clear = clear_due c.args.end.packet ds c.args.marked.now c.loop-n.from (length ds) c.requires.marks (λ i from under. none i from (omega (arith, under, long))) in
    ap (λ (t : List Told). reports_with_all t c.loop-n.out) (sym (told_end c.args.end c.args.slots.now ds c.loop-n.from c.requires.many c.loop-n.invariant.inside clear)) ∙ c.loop-n.invariant.told
