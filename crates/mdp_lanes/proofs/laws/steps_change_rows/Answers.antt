use Rattle.mdp_lanes.proofs.RowSteps.{law_of_steps}
use Rattle.mdp_lanes.proofs.laws.steps_change_rows.Goals as goal

pub returns : goal.returns
returns c = law_of_steps
