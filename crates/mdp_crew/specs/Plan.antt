-- What a run is asked, as definitions see it.
use Rattle.std.specs.Prelude.{◌≤◌}
use Rattle.mdp_templates.specs.Instrument.{AreFit}
use Rattle.mdp_arbiter.specs.Channel.{ListedChannel}
use Rattle.mdp_crew.specs.declared.plan.RunPlan.{RunPlan}

-- the channel as it sets the receiver up
abbrev pub channel_in : RunPlan → ListedChannel
channel_in plan = record { listed = plan.instruments.now; room = plan.window; start = plan.start }

-- what a run can be asked, whatever the number of workers
pub record IsLawful (plan : RunPlan) : Type 0 where
  pub fit : AreFit plan.instruments.now
  pub least : 1 ≤ plan.window
  pub most : plan.window ≤ 65536
