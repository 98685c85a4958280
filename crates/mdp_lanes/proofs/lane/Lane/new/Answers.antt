use Rattle.mdp_lanes.proofs.LaneSteps.{begins, gives}
use Rattle.mdp_lanes.proofs.lane.Lane.new.Goals as goal

pub bounded_with-requires-clause-rule : goal.bounded_with-requires-clause-rule
bounded_with-requires-clause-rule g c = begins _

pub another-sending-requires-clause-rule : goal.another-sending-requires-clause-rule
another-sending-requires-clause-rule g c = gives _ _ c.in_ok-channel.ensures.3
