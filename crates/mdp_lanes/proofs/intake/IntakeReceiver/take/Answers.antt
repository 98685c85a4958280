use Rattle.std.proofs.Common.{◌≡◌, ℕ, ◌+◌, sym, ap, ◌∙◌, true, false, cond, arith}
use Rattle.crossbeam_channel.specs.Claims.{view}
use Rattle.mdp_lanes.proofs.IntakeSteps.{takes, after_take}
use Rattle.mdp_lanes.proofs.intake.IntakeReceiver.take.Goals as goal

pub receive-message-requires-clause-rule : goal.receive-message-requires-clause-rule
receive-message-requires-clause-rule g c = takes g.I.Ends.is_end _ _ c.self.invariant.1

pub invariant_of-self : goal.invariant_of-self
invariant_of-self g c =
    let after = after_take g.I.Ends.is_end (view c.self.inside.pass) _ _ c.receive-message.ensures.rule in
    let is : true ≡ g.I.Ends.is_end c.receive-message.result.1 = sym c.if-is_end.true ∙ c.is_end.ensures in
    let step : ℕ = cond (g.I.Ends.is_end c.receive-message.result.1) 1 0 in
    let more = ap (λ b. c.self.inside.ends + cond b 1 0) is ∙ (ap (λ n. n + step) c.self.invariant.2 ∙ sym after.1) in
    (c.receive-message.ensures.seat, after.0, more, omega (arith, more, after.2))

pub invariant_of-self-else-is_end : goal.invariant_of-self-else-is_end
invariant_of-self-else-is_end g c =
    let after = after_take g.I.Ends.is_end (view c.self.inside.pass) _ _ c.receive-message.ensures.rule in
    let is : false ≡ g.I.Ends.is_end c.receive-message.result.1 = sym c.if-is_end.false ∙ c.is_end.ensures in
    let step : ℕ = cond (g.I.Ends.is_end c.receive-message.result.1) 1 0 in
    let more = ap (λ b. c.self.inside.ends + cond b 1 0) is ∙ (ap (λ n. n + step) c.self.invariant.2 ∙ sym after.1) in
    (c.receive-message.ensures.seat, after.0, omega (arith, more), c.self.invariant.3)
