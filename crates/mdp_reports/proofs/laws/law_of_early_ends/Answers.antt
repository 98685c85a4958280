use Rattle.mdp_reports.proofs.Behind.{law_of_early_ends}
use Rattle.mdp_reports.proofs.laws.law_of_early_ends.Goals as goal

pub returns : goal.returns
returns c = law_of_early_ends
