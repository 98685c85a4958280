use Rattle.mdp_reports.proofs.Boarding.{law_of_step_fronts}
use Rattle.mdp_reports.proofs.laws.law_of_step_fronts.Goals as goal

pub returns : goal.returns
returns c = law_of_step_fronts
