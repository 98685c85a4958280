use Rattle.std.proofs.Common.{◌≢◌, ◌<◌, ◌++◌, false, length, get_or, ap, ◌∙◌, arith}
use Rattle.std.specs.List.{flat_map}
use Rattle.std.proofs.lemmas.List.{length-set, get_or-set_other}
use Rattle.mdp_engine.proofs.Auditing.{one_under}
use Rattle.mdp_engine.proofs.Noting.{all_silent, line_more, line_end}
use Rattle.mdp_reports.specs.Taking.{marked_line}
use Rattle.mdp_reports.proofs.Marking.{marks_silent}
use Rattle.mdp_reports.proofs.audits.put_audits.Goals as goal

pub put_marked-requires : goal.put_marked-requires
put_marked-requires g c =
    let long = c.loop-n.invariant.long in
    let less : c.in-Some.n < length c.args.spreads.now = omega (arith, c.in-Some.ensures.some.inside, long, c.requires.many) in
    one_under (length c.args.marks.now) c.args.spreads.now c.in-Some.n _ c.requires.under less

pub loop-n-preserved : goal.loop-n-preserved
loop-n-preserved g c =
    let n = c.in-Some.n in
    let due = c.loop-n.due in
    let marks = c.args.marks.now in
    let spreads = c.args.spreads.now in
    let kept = c.args.kept.now in
    let line = marked_line c.args.end c.args.listed.now marks kept in
    let first = c.in-Some.ensures.some in
    let was = c.loop-n.invariant in
    let long = was.long in
    let put = ap length c.put.ensures ∙ length-set due n false in
    let less : n < length spreads = omega (arith, first.inside, long, c.requires.many) in
    record {
      inside = omega (arith, less);
      long = put ∙ long;
      due = λ k from.
          let other : k ≢ n = λ same. omega (arith, same, from) in
          ap (λ ms. get_or ms k false) c.put.ensures ∙ get_or-set_other due n k false false other ∙ was.due k (omega (arith, from, first.behind));
      text = line_more line spreads c.args.due.now due c.loop-n.from n _ c.loop-n.out.items c.put_marked.new.out.items _ (all_silent line spreads marks c.args.due.now (marks_silent c.args.end c.args.listed.now marks kept) c.requires.quiet) was.due first.behind less first.before c.in_ok-put_marked.ensures was.text;
    }

pub returns-clause-text : goal.returns-clause-text
returns-clause-text g c =
    let marks = c.args.marks.now in
    let spreads = c.args.spreads.now in
    let kept = c.args.kept.now in
    let line = marked_line c.args.end c.args.listed.now marks kept in
    let was = c.loop-n.invariant in
    let long = was.long in
    line_end line spreads c.args.due.now c.loop-n.due c.loop-n.from c.loop-n.out.items (c.args.out.now.items ++ flat_map line spreads) (all_silent line spreads marks c.args.due.now (marks_silent c.args.end c.args.listed.now marks kept) c.requires.quiet) was.due was.inside
    (λ i from under. c.in_default.ensures.none i from (omega (arith, under, long, c.requires.many))) was.text
