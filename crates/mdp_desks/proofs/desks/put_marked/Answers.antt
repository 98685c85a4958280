use Rattle.std.proofs.Common.{rules, ◌<◌, ℕ, length, refl, sym, arith, subst}
use Rattle.std.specs.Prelude.{List}
use Rattle.mdp_print.specs.Pieces.{BeginsWith, BreaksOff}
use Rattle.mdp_print.proofs.Fronts.{begins_more, breaks_within}
use Rattle.mdp_desks.proofs.Waiting.{clear_due}
use Rattle.mdp_desks.proofs.Passing.{lines_more, lines_end}
use Rattle.mdp_desks.proofs.desks.put_marked.Goals as goal

pub loop-n-preserved : goal.loop-n-preserved
loop-n-preserved g c =
    let ds = c.args.desks.now in
    let n = c.in-Some.n in
    let long = c.requires.many in
    let first = c.in-Some.ensures.some in
    let less : n < length ds = omega (arith, first.inside, long) in
    let clear = clear_due c.args.end.packet ds _ c.loop-n.from n c.requires first.before in
    record {
      inside = omega (arith, less);
      text = lines_more c.args.end ds c.loop-n.from n _ c.loop-n.out.items c.put.new.out.items _ first.behind less clear c.index-desks-n.is c.in_ok-put.ensures.ok c.loop-n.invariant.text;
      front = subst (λ (ys : List ℕ). BeginsWith ys c.args.out.now.items) (sym c.in_ok-put.ensures.ok) (begins_more c.args.out.now.items c.loop-n.out.items _ c.loop-n.invariant.front);
    }

pub returns-clause-ok : goal.returns-clause-ok
returns-clause-ok g c =
    let ds = c.args.desks.now in
    let long = c.requires.many in
    let none = c.in_default.ensures.none in
    let clear = clear_due c.args.end.packet ds _ c.loop-n.from (length ds) c.requires (λ i from under. none i from (omega (arith, under, long))) in
    lines_end c.args.end ds c.loop-n.from c.loop-n.out.items _ c.loop-n.invariant.inside clear c.loop-n.invariant.text

pub returns-in_err-put-clause-err : goal.returns-in_err-put-clause-err
returns-in_err-put-clause-err g c =
    let ds = c.args.desks.now in
    let n = c.in-Some.n in
    let long = c.requires.many in
    let first = c.in-Some.ensures.some in
    let less : n < length ds = omega (arith, first.inside, long) in
    let clear = clear_due c.args.end.packet ds _ c.loop-n.from n c.requires first.before in
    let text = lines_more c.args.end ds c.loop-n.from n _ c.loop-n.out.items _ _ first.behind less clear c.index-desks-n.is refl c.loop-n.invariant.text in
    let off : BreaksOff _ c.args.out.now.items c.put.new.out.items = breaks_within _ c.args.out.now.items c.loop-n.out.items _ _ c.put.new.out.items c.loop-n.invariant.front text c.in_err-put.ensures.err in
    search rules
