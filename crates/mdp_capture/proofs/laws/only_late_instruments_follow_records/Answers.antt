use Rattle.mdp_capture.proofs.GoingOn.{lateness}
use Rattle.mdp_capture.proofs.laws.only_late_instruments_follow_records.Goals as goal

pub returns : goal.returns
returns c = lateness
