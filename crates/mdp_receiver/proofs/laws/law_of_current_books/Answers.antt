use Rattle.mdp_receiver.proofs.Complete.{law_of_current_books}
use Rattle.mdp_receiver.proofs.laws.law_of_current_books.Goals as goal

pub returns : goal.returns
returns c = law_of_current_books
