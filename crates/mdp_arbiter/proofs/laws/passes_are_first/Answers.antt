use Rattle.mdp_arbiter.proofs.Runs.{law_of_passes}
use Rattle.mdp_arbiter.proofs.laws.passes_are_first.Goals as goal

pub returns : goal.returns
returns c = law_of_passes
