use Rattle.mdp_arbiter.proofs.NoLoss.{law_of_no_loss}
use Rattle.mdp_arbiter.proofs.laws.all_pass_without_loss.Goals as goal

pub returns : goal.returns
returns c = law_of_no_loss
