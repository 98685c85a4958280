use Rattle.std.proofs.Common.{◌≡◌}
use Rattle.layer_tests.proofs.lanes.take_all.Given as goal

-- the receiver is that of the same intake
abbrev pub invariant-loop : goal.invariant-loop
invariant-loop g l = l.receiver.intake ≡ l.fn.receiver.intake
