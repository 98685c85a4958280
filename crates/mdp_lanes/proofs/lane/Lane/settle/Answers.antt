use Rattle.mdp_lanes.proofs.LaneSteps.{joins}
use Rattle.mdp_lanes.proofs.lane.Lane.settle.Goals as goal

pub absorb-requires-clause-rule : goal.absorb-requires-clause-rule
absorb-requires-clause-rule g c = joins _ _ _ _ _ _ c.receiver.invariant.1 c.sender.invariant.1
