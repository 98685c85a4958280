use Rattle.mdp_engine.proofs.Honesty.{honest_moves_agree}
use Rattle.mdp_engine.proofs.laws.honest_moves_agree.Goals as goal

pub returns : goal.returns
returns c = honest_moves_agree
