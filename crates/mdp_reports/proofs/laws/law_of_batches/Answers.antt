use Rattle.mdp_reports.proofs.Batching.{law_of_batches}
use Rattle.mdp_reports.proofs.laws.law_of_batches.Goals as goal

pub returns : goal.returns
returns c = law_of_batches
