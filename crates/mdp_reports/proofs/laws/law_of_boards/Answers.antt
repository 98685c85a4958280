use Rattle.mdp_reports.proofs.Boarding.{law_of_boards}
use Rattle.mdp_reports.proofs.laws.law_of_boards.Goals as goal

pub returns : goal.returns
returns c = law_of_boards
