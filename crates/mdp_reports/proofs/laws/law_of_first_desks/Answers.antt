use Rattle.mdp_reports.proofs.Full.{law_of_first_desks}
use Rattle.mdp_reports.proofs.laws.law_of_first_desks.Goals as goal

pub returns : goal.returns
returns c = law_of_first_desks
