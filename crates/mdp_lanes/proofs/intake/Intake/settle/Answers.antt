use Rattle.std.proofs.Common.{[], ◌∷◌, ap, ◌∙◌, subst}
use Rattle.mdp_lanes.specs.Rule.{sender, receiver}
use Rattle.mdp_lanes.specs.Items.{EndsLast}
use Rattle.mdp_lanes.proofs.IntakeSteps.{joins, learns}
use Rattle.mdp_lanes.proofs.Settling.{settles}
use Rattle.mdp_lanes.proofs.intake.Intake.settle.Goals as goal

pub absorb-requires-clause-rule : goal.absorb-requires-clause-rule
absorb-requires-clause-rule g c = joins g.I.Ends.is_end _ _ _ _ _ _ _ c.receiver.invariant.1 c.a.invariant.1

pub absorb-requires-2-clause-rule : goal.absorb-requires-2-clause-rule
absorb-requires-2-clause-rule g c = joins g.I.Ends.is_end _ _ _ _ _ _ _ c.absorb.ensures.rule c.b.invariant.1

pub absorb-requires-3-clause-rule : goal.absorb-requires-3-clause-rule
absorb-requires-3-clause-rule g c = joins g.I.Ends.is_end _ _ _ _ _ _ _ c.absorb-2.ensures.rule c.s.invariant.1

pub learn_as-requires-clause-rule : goal.learn_as-requires-clause-rule
learn_as-requires-clause-rule g c = learns g.I.Ends.is_end _ _ _ _ c.absorb-3.ensures.rule

pub returns : goal.returns
returns g c =
    let taken = ap (λ v. v.taken) c.receiver.view_is in
    let a = ap (λ v. v.sent) c.a.view_is in
    let b = ap (λ v. v.sent) c.b.view_is in
    let s = ap (λ v. v.sent) c.s.view_is in
    let tag_a = ap (λ v. v.tag) c.a.view_is ∙ c.requires.a.1 in
    let tag_b = ap (λ v. v.tag) c.b.view_is ∙ c.requires.b.1 in
    let tag_s = ap (λ v. v.tag) c.s.view_is ∙ c.requires.s.1 in
    let all = settles g.I.Ends.is_end _ _ _ _ _ _ _ c.args.receiver.taken c.args.a.sent c.args.b.sent c.args.s.sent
    (c.receiver.invariant.1 ∙ ap (λ ms. receiver ms []) taken)
    (c.a.invariant.1 ∙ λ i. sender ((tag_a i, a i) ∷ []))
    (c.b.invariant.1 ∙ λ i. sender ((tag_b i, b i) ∷ []))
    (c.s.invariant.1 ∙ λ i. sender ((tag_s i, s i) ∷ []))
    c.absorb.ensures.rule c.absorb-2.ensures.rule c.absorb-3.ensures.rule c.learn_as.ensures.rule c.requires.ends
    (subst (EndsLast g.I.Ends.is_end) a c.a.invariant.3)
    (subst (EndsLast g.I.Ends.is_end) b c.b.invariant.3)
    (subst (EndsLast g.I.Ends.is_end) s c.s.invariant.3) in
    record { a = all.0; b = all.1; s = all.2 }
