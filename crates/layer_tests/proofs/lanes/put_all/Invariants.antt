use Rattle.std.proofs.Common.{◌≡◌}
use Rattle.layer_tests.proofs.lanes.put_all.Given as goal

-- the sender is the same one
abbrev pub invariant-loop-number : goal.invariant-loop-number
invariant-loop-number g l = (l.sender.intake ≡ l.fn.sender.intake) × (l.sender.tag ≡ l.fn.sender.tag)
