use Rattle.std.proofs.Common.{◌≡◌}
use Rattle.lane_times.proofs.boards.read.Given as goal

abbrev pub invariant-loop : goal.invariant-loop
invariant-loop g l = l.reader.slots ≡ 512
