use Rattle.mdp_engine.proofs.Owing.{law_of_owed_text}
use Rattle.mdp_engine.proofs.laws.law_of_owed_text.Goals as goal

pub returns : goal.returns
returns c = law_of_owed_text
