use Rattle.mdp_reports.proofs.Collecting.{law_of_workers}
use Rattle.mdp_reports.proofs.laws.law_of_workers.Goals as goal

pub returns : goal.returns
returns c = law_of_workers
