use Rattle.mdp_reports.proofs.Batching.{law_of_cuts}
use Rattle.mdp_reports.proofs.laws.law_of_cuts.Goals as goal

pub returns : goal.returns
returns c = law_of_cuts
