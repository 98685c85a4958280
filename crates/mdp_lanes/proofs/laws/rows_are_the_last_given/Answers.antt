use Rattle.mdp_lanes.proofs.RowSteps.{law_of_rows}
use Rattle.mdp_lanes.proofs.laws.rows_are_the_last_given.Goals as goal

pub returns : goal.returns
returns c = law_of_rows
