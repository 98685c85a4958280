use Rattle.std.proofs.Common.{◌≡◌}
use Rattle.layer_tests.proofs.lanes.boards.watch.Given as goal

abbrev pub invariant-loop : goal.invariant-loop
invariant-loop g l = l.reader.slots ≡ 2
