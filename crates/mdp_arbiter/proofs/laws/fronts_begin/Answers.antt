use Rattle.mdp_arbiter.proofs.Runs.{law_of_fronts}
use Rattle.mdp_arbiter.proofs.laws.fronts_begin.Goals as goal

pub returns : goal.returns
returns c = law_of_fronts
