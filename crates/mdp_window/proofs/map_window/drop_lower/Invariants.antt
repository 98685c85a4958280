use Rattle.std.proofs.Common.{◌≡◌, ℕ, length}
use Rattle.std.specs.Prelude.{◌<◌, ◌⊎◌, None}
use Rattle.std.specs.Ordering.{nat_cmp}
use Rattle.std.specs.BTreeMap as tree
use Rattle.mdp_window.proofs.map_window.drop_lower.Given as goal

abbrev pub invariant-loop-number : goal.invariant-loop-number
invariant-loop-number g l =
    (k : ℕ) → tree.get nat_cmp l.items k ≡ tree.get nat_cmp l.initial.items k ⊎ ((k < l.first) × (tree.get nat_cmp l.items k ≡ None))

abbrev pub decreases-loop-number : goal.decreases-loop-number
decreases-loop-number g l = length l.items.entries
