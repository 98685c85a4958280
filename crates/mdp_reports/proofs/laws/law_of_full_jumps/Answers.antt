use Rattle.mdp_reports.proofs.Full.{law_of_full_jumps}
use Rattle.mdp_reports.proofs.laws.law_of_full_jumps.Goals as goal

pub returns : goal.returns
returns c = law_of_full_jumps
