use Rattle.std.proofs.Common.{◌-◌}
use Rattle.layer_tests.proofs.following.note_changed.Given as goal

abbrev pub invariant-loop-slot : goal.invariant-loop-slot
invariant-loop-slot g l = record {}

-- each turn goes behind one mark
abbrev pub decreases-loop-slot : goal.decreases-loop-slot
decreases-loop-slot g l = 18446744073709551616 - l.from
