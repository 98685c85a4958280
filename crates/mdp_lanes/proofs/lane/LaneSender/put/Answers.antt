use Rattle.mdp_lanes.proofs.LaneSteps.{puts}
use Rattle.mdp_lanes.proofs.lane.LaneSender.put.Goals as goal

pub send-requires-clause-rule : goal.send-requires-clause-rule
send-requires-clause-rule g c = puts _ _ _ _ c.self.invariant.1
