use Rattle.std.proofs.Common.{◌≡◌, ◌-◌, ◌≤◌, length, drop}
use Rattle.mdp_c.specs.Changed.{slots_of}
use Rattle.mdp_c.proofs.Slots.{slots_left}
use Rattle.mdp_c.proofs.changed.count_slots.Given as goal

abbrev pub invariant-loop-slot : goal.invariant-loop-slot
invariant-loop-slot l = record {
  left : drop l.count (slots_of l.marked) ≡ slots_left l.marked l.from;
  few : l.count ≤ length (slots_of l.marked);
}

abbrev pub decreases-loop-slot : goal.decreases-loop-slot
decreases-loop-slot l = length l.marked - l.from
