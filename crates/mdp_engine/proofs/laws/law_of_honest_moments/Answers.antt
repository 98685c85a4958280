use Rattle.mdp_engine.proofs.Owing.{law_of_honest_moments}
use Rattle.mdp_engine.proofs.laws.law_of_honest_moments.Goals as goal

pub returns : goal.returns
returns c = law_of_honest_moments
