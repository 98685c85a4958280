use Rattle.mdp_sbe.proofs.Framings.{one_framing}
use Rattle.mdp_sbe.proofs.laws.one_framing.Goals as goal

pub returns : goal.returns
returns c = one_framing
