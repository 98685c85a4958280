use Rattle.std.proofs.Common.{◌++◌, ℕ, List, sym, ap, refl, ◌∙◌, arith}
use Rattle.std.specs.List.{flat_map}
use Rattle.mdp_engine.specs.Spreads.{spread_line}
use Rattle.mdp_engine.proofs.Auditing.{audits_are}
use Rattle.mdp_engine.proofs.Noting.{line_end}
use Rattle.mdp_engine.proofs.audits.put_due_audits.Goals as goal

-- where no spread is due there is no line
pub returns-in-None-clause-text : goal.returns-in-None-clause-text
returns-in-None-clause-text g c =
    let ds = c.args.desks.now in
    let spreads = c.args.spreads.now in
    let line = spread_line c.args.end ds in
    let text = c.args.out.now.items in
    let whole = audits_are c.args.end ds spreads c.requires.spreads.differ c.requires.spreads.spreads_are in
    line_end line spreads c.args.due.now c.args.due.now 0 text (text ++ flat_map line spreads) c.requires.silent (λ k from. refl) (omega arith)
    (λ i from under. c.in-None.ensures.none i from (omega (arith, under, c.requires.many))) refl
    ∙ ap (λ (t : List ℕ). text ++ t) (sym whole)
