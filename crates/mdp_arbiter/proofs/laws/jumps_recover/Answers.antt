use Rattle.mdp_arbiter.proofs.Jumps.{law_of_jumps}
use Rattle.mdp_arbiter.proofs.laws.jumps_recover.Goals as goal

pub returns : goal.returns
returns c = law_of_jumps
