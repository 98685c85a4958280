use Rattle.mdp_lanes.proofs.LaneSteps.{takes}
use Rattle.mdp_lanes.proofs.lane.LaneReceiver.take.Goals as goal

pub receive-requires-clause-rule : goal.receive-requires-clause-rule
receive-requires-clause-rule g c = takes _ _ c.self.invariant.1
