use Rattle.mdp_engine.proofs.Holding.{law_of_owed_books}
use Rattle.mdp_engine.proofs.laws.law_of_owed_books.Goals as goal

pub returns : goal.returns
returns c = law_of_owed_books
