use Rattle.mdp_desks.proofs.Sharing.{law_of_shares}
use Rattle.mdp_desks.proofs.laws.law_of_shares.Goals as goal

pub returns : goal.returns
returns c = law_of_shares
