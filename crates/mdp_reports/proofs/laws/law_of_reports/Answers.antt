use Rattle.mdp_reports.proofs.Moves.{law_of_reports}
use Rattle.mdp_reports.proofs.laws.law_of_reports.Goals as goal

pub returns : goal.returns
returns c = law_of_reports
