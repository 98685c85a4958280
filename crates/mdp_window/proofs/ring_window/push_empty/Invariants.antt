use Rattle.std.proofs.Common.{◌≡◌, ◌+◌, ◌≤◌, ◌++◌, None, replicate}
use Rattle.circular_buffer.specs.Buffer.{buffer, keep_last}
use Rattle.mdp_window.specs.Ring.{count_filled}
use Rattle.mdp_window.proofs.ring_window.push_empty.Given as goal

abbrev pub invariant-loop : goal.invariant-loop
invariant-loop g l = record {
  moves : l.places ≡ buffer (keep_last l.initial.places.capacity (l.initial.places.items ++ replicate l.counter None)) l.initial.places.capacity;
  counts : l.fallen + count_filled l.places.items ≡ count_filled l.initial.places.items;
  few : l.fallen ≤ l.counter;
}
