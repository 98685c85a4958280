use Rattle.mdp_engine.proofs.GivingUp.{law_of_a_recovery}
use Rattle.mdp_engine.proofs.laws.law_of_a_recovery.Goals as goal

pub returns : goal.returns
returns c = law_of_a_recovery
