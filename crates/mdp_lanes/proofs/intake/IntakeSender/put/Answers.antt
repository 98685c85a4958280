use Rattle.std.specs.List.{list_any}
use Rattle.std.proofs.Common.{sym, ap, ◌∙◌}
use Rattle.crossbeam_channel.specs.Claims.{view}
use Rattle.mdp_lanes.proofs.IntakeSteps.{puts, after_put}
use Rattle.mdp_lanes.proofs.intake.IntakeSender.put.Goals as goal

pub send-requires-clause-rule : goal.send-requires-clause-rule
send-requires-clause-rule g c =
    puts g.I.Ends.is_end _ _ _ _ _ c.self.invariant.1 (ap (λ v. list_any g.I.Ends.is_end v.sent) c.self.view_is ∙ c.requires)

pub invariant_of-self : goal.invariant_of-self
invariant_of-self g c =
    let none = ap (λ v. list_any g.I.Ends.is_end v.sent) c.self.view_is ∙ c.requires in
    let after = after_put g.I.Ends.is_end (view c.self.inside.pass) (view c.send.new.pass) _ _ c.send.ensures.rule none in
    (c.send.ensures.seat, after.0, c.is_end-ended.ensures ∙ sym after.1, after.2)
