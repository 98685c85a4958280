use Rattle.std.proofs.Common.{◌-◌}
use Rattle.handler_times.proofs.count_made.Given as goal

abbrev pub invariant-loop-slot : goal.invariant-loop-slot
invariant-loop-slot l = record {}

-- each turn goes behind one mark
abbrev pub decreases-loop-slot : goal.decreases-loop-slot
decreases-loop-slot l = 18446744073709551616 - l.from
