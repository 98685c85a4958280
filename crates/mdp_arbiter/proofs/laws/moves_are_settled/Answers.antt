use Rattle.mdp_arbiter.proofs.Runs.{law_of_moves}
use Rattle.mdp_arbiter.proofs.laws.moves_are_settled.Goals as goal

pub returns : goal.returns
returns c = law_of_moves
