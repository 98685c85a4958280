use Rattle.mdp_receiver.proofs.Complete.{law_of_handlers}
use Rattle.mdp_receiver.proofs.laws.law_of_handlers.Goals as goal

pub returns : goal.returns
returns c = law_of_handlers
