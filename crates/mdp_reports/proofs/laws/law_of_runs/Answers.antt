use Rattle.mdp_reports.proofs.Batching.{law_of_runs}
use Rattle.mdp_reports.proofs.laws.law_of_runs.Goals as goal

pub returns : goal.returns
returns c = law_of_runs
