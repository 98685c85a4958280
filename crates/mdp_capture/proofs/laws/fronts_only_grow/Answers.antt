use Rattle.mdp_capture.proofs.GoingOn.{beginnings}
use Rattle.mdp_capture.proofs.laws.fronts_only_grow.Goals as goal

pub returns : goal.returns
returns c = beginnings
