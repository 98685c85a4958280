use Rattle.mdp_reports.proofs.Batching.{law_of_first_rounds}
use Rattle.mdp_reports.proofs.laws.law_of_first_rounds.Goals as goal

pub returns : goal.returns
returns c = law_of_first_rounds
