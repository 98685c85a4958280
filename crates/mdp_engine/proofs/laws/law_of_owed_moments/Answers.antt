use Rattle.mdp_engine.proofs.Agreeing.{law_of_owed_moments}
use Rattle.mdp_engine.proofs.laws.law_of_owed_moments.Goals as goal

pub returns : goal.returns
returns c = law_of_owed_moments
