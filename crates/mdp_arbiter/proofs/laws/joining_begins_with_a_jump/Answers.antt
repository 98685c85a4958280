use Rattle.mdp_arbiter.proofs.Joining.{law_of_joining}
use Rattle.mdp_arbiter.proofs.laws.joining_begins_with_a_jump.Goals as goal

pub returns : goal.returns
returns c = law_of_joining
