use Rattle.mdp_reports.proofs.Ascending.{law_of_ascent}
use Rattle.mdp_reports.proofs.laws.law_of_ascent.Goals as goal

pub returns : goal.returns
returns c = law_of_ascent
