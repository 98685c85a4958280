-- What the arbiter has come to, in its thread or here.
use Rattle.std.proofs.Common.{◌≡◌, List, sym, subst}
use Rattle.std.specs.Prelude.{MatchResult, Result, Ok, Err}
use Rattle.mdp_lanes.specs.Queues.{IntakeReceiverView, LaneSenderView}
use Rattle.mdp_crew.specs.declared.arbiter.ArbiterOutcome.{ArbiterOutcome}
use Rattle.mdp_crew.specs.declared.batch.Batch.{Batch}
use Rattle.mdp_crew.specs.declared.order.Order.{Order}
use Rattle.mdp_crew.specs.declared.plan.RunPlan.{RunPlan}
use Rattle.mdp_crew.specs.Arbitrating.{HasSent}
use Rattle.mdp_crew.specs.Plan.{channel_in}

module _ {A X : Type 0} (plan_of : X → RunPlan) (receiver_of : X → IntakeReceiverView (Batch A)) (senders_of : X → List (LaneSenderView (Order A))) where
  pub sent_there : (begun : Result X (ArbiterOutcome A)) (plan : RunPlan) (receiver : IntakeReceiverView (Batch A)) (senders : List (LaneSenderView (Order A))) (outcome : ArbiterOutcome A)
      → MatchResult begun (λ h. (plan_of h ≡ plan) × (receiver_of h ≡ receiver) × (senders_of h ≡ senders)) (λ o. HasSent (channel_in plan) receiver senders o)
      → MatchResult begun (λ h. HasSent (channel_in (plan_of h)) (receiver_of h) (senders_of h) outcome) (λ o. outcome ≡ o) → HasSent (channel_in plan) receiver senders outcome
  sent_there (Ok h) plan receiver senders outcome is kept =
      subst (λ (p : RunPlan × IntakeReceiverView (Batch A) × List (LaneSenderView (Order A))). HasSent (channel_in p.0) p.1 p.2 outcome) (λ i. (is.0 i, is.1 i, is.2 i)) kept
  sent_there (Err o) plan receiver senders outcome is same = subst (HasSent (channel_in plan) receiver senders) (sym same) is
