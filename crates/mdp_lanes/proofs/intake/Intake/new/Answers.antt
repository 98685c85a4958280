use Rattle.std.proofs.Common.{drop, ap, ◌∙◌, refl}
use Rattle.mdp_templates.specs.declared.feed.Feed.TheVariants.{A, B, S}
use Rattle.std.specs.Prelude.{[]}
use Rattle.mdp_lanes.specs.Rule.{receiver}
use Rattle.mdp_lanes.proofs.IntakeSteps.{begins, gives}
use Rattle.mdp_lanes.proofs.intake.Intake.new.Goals as goal

pub bounded_with-requires-clause-rule : goal.bounded_with-requires-clause-rule
bounded_with-requires-clause-rule g c = begins _ g.I.Ends.is_end

pub another-a_pass-requires-clause-rule : goal.another-a_pass-requires-clause-rule
another-a_pass-requires-clause-rule g c = gives g.I.Ends.is_end _ _ A [] _ c.in_ok-channel.ensures.3 (refl, (refl, tt))

pub another-b_pass-requires-clause-rule : goal.another-b_pass-requires-clause-rule
another-b_pass-requires-clause-rule g c =
    let two_left = c.another-a_pass.ensures.rule.0 ∙ ap (λ v. receiver v.taken (drop 1 v.rights)) c.in_ok-channel.ensures.3 in
    gives g.I.Ends.is_end _ _ B [] _ two_left (refl, tt)

pub another-s_pass-requires-clause-rule : goal.another-s_pass-requires-clause-rule
another-s_pass-requires-clause-rule g c =
    let two_left = c.another-a_pass.ensures.rule.0 ∙ ap (λ v. receiver v.taken (drop 1 v.rights)) c.in_ok-channel.ensures.3 in
    let one_left = c.another-b_pass.ensures.rule.0 ∙ ap (λ v. receiver v.taken (drop 1 v.rights)) two_left in
    gives g.I.Ends.is_end _ _ S [] _ one_left tt
