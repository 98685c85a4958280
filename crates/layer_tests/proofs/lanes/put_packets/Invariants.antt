use Rattle.std.proofs.Common.{◌≡◌}
use Rattle.layer_tests.proofs.lanes.put_packets.Given as goal

-- the sender is that of the same lane
abbrev pub invariant-loop-number : goal.invariant-loop-number
invariant-loop-number g l = l.sender.lane ≡ l.fn.sender.lane
