-- What the threads of a crew begin with.
use Rattle.std.specs.Prelude.{◌≡◌}
use Rattle.mdp_reports.specs.Rounds.{kept_at_start}
use Rattle.mdp_crew.specs.declared.running.Ready.{Ready}
use Rattle.mdp_crew.specs.Arbitrating.{HasBegun}
use Rattle.mdp_crew.specs.Crew.{IsCrew}
use Rattle.mdp_crew.specs.declared.plan.RunPlan.{RunPlan}
use Rattle.mdp_crew.specs.Plan.{channel_in}
use Rattle.mdp_crew.specs.Shares.{share_of}

-- the arbiter has taken in nothing, the collector has kept what stands at the start, and all
-- workers are hired
pub record IsReady {A : Type 0} (plan : RunPlan) (ready : Ready A) : Type 0 where
  pub begun : HasBegun (channel_in plan) ready.arbiter
  pub collector_is : ready.collecting.collector
      ≡ record { listed = plan.instruments.now; kept = kept_at_start plan.instruments.now }
  pub crew : IsCrew (share_of plan.instruments.now plan.workers 0) plan.workers
      ready.senders.items ready.collecting.posts.items
