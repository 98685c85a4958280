use Rattle.std.proofs.Common.{rules, ◌≢◌, ◌<◌, ◌++◌, ℕ, List, false, length, get_or, refl, sym, ap, subst, ◌∙◌, arith}
use Rattle.std.specs.List.{flat_map}
use Rattle.std.proofs.lemmas.List.{length-set, get_or-set_other}
use Rattle.mdp_print.specs.Pieces.{BeginsWith, BreaksOff}
use Rattle.mdp_print.proofs.Fronts.{begins_more, breaks_nowhere, breaks_within}
use Rattle.mdp_engine.specs.declared.spreads.Spread.{Spread}
use Rattle.mdp_engine.specs.Spreads.{spread_line}
use Rattle.mdp_engine.proofs.Auditing.{audits_are, under_there}
use Rattle.mdp_engine.proofs.Noting.{line_more, line_end}
use Rattle.mdp_engine.proofs.audits.put_audits.Goals as goal

pub put_audit_at-requires-clause-under : goal.put_audit_at-requires-clause-under
put_audit_at-requires-clause-under g c =
    let long = c.loop-n.invariant.long in
    let less : c.in-Some.n < length c.args.spreads.now = omega (arith, c.in-Some.ensures.some.inside, long, c.requires.many) in
    under_there c.args.desks.now c.args.spreads.now c.in-Some.n _ c.requires.spreads.spreads_are less

pub loop-n-preserved : goal.loop-n-preserved
loop-n-preserved g c =
    let n = c.in-Some.n in
    let due = c.loop-n.due in
    let now = c.put.new.self in
    let first = c.in-Some.ensures.some in
    let was = c.loop-n.invariant in
    let long = was.long in
    let put = ap length c.put.ensures ∙ length-set due n false in
    let less : n < length c.args.spreads.now = omega (arith, first.inside, long, c.requires.many) in
    record {
      inside = omega (arith, less);
      long = put ∙ long;
      marks = λ k from.
          let other : k ≢ n = λ same. omega (arith, same, from) in
          ap (λ ms. get_or ms k false) c.put.ensures ∙ get_or-set_other due n k false false other ∙ was.marks k (omega (arith, from, first.behind));
      text = line_more (spread_line c.args.event.now c.args.desks.now) c.args.spreads.now c.args.due.now due c.loop-n.from n _ c.loop-n.out.items c.put_audit_at.new.out.items _ c.requires.silent was.marks first.behind less first.before c.in_ok-put_audit_at.ensures.ok was.text;
      front = subst (λ (ys : List ℕ). BeginsWith ys c.args.out.now.items) (sym c.in_ok-put_audit_at.ensures.ok) (begins_more c.args.out.now.items c.loop-n.out.items _ was.front);
    }

pub returns-clause-text : goal.returns-clause-text
returns-clause-text g c =
    let ds = c.args.desks.now in
    let spreads = c.args.spreads.now in
    let line = spread_line c.args.event.now ds in
    let was = c.loop-n.invariant in
    let long = was.long in
    let none = c.in_default.ensures.none in
    let whole = audits_are c.args.event.now ds spreads c.requires.spreads.differ c.requires.spreads.spreads_are in
    line_end line spreads c.args.due.now c.loop-n.due c.loop-n.from c.loop-n.out.items (c.args.out.now.items ++ flat_map line spreads) c.requires.silent was.marks was.inside
    (λ i from under. none i from (omega (arith, under, long, c.requires.many))) was.text
    ∙ ap (λ (t : List ℕ). c.args.out.now.items ++ t) (sym whole)

pub returns-in_err-put_audit_at-clause-err : goal.returns-in_err-put_audit_at-clause-err
returns-in_err-put_audit_at-clause-err g c =
    let ds = c.args.desks.now in
    let spreads = c.args.spreads.now in
    let line = spread_line c.args.event.now ds in
    let n = c.in-Some.n in
    let first = c.in-Some.ensures.some in
    let was = c.loop-n.invariant in
    let long = was.long in
    let less : n < length spreads = omega (arith, first.inside, long, c.requires.many) in
    let before = c.args.out.now.items in
    let none : Spread = record { slot = 0; leg1 = 0; leg2 = 0 } in
    let text = line_more line spreads c.args.due.now c.loop-n.due c.loop-n.from n none c.loop-n.out.items _ (before ++ flat_map line spreads) c.requires.silent was.marks first.behind less first.before refl was.text in
    let whole = audits_are c.args.event.now ds spreads c.requires.spreads.differ c.requires.spreads.spreads_are in
    let off : BreaksOff _ before c.put_audit_at.new.out.items =
    breaks_within _ before c.loop-n.out.items _ _ c.put_audit_at.new.out.items was.front (text ∙ ap (λ (t : List ℕ). before ++ t) (sym whole))
    (breaks_nowhere _ c.loop-n.out.items c.put_audit_at.new.out.items c.in_err-put_audit_at.ensures.err) in
    search rules
