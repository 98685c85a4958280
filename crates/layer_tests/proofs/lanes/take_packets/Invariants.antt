use Rattle.std.proofs.Common.{◌≡◌}
use Rattle.layer_tests.proofs.lanes.take_packets.Given as goal

-- the receiver is that of the same lane
abbrev pub invariant-loop : goal.invariant-loop
invariant-loop g l = l.receiver.lane ≡ l.fn.receiver.lane
