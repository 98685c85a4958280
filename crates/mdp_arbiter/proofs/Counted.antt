-- How many packets wait, as a window counts them.
use Rattle.std.proofs.Common.{◌≡◌, ℕ, zero, suc, ◌+◌, ◌-◌, ◌≤◌, ◌<◌, cond, refl, arith, ap, ◌∙◌}
use Rattle.std.specs.Prelude.{None}
use Rattle.std.specs.Ordering.{nat_cmp}
use Rattle.std.specs.FinMap.{FinMap, get, contains_key}
use Rattle.mdp_window.specs.Window.{count_held}
use Rattle.mdp_window.proofs.Counts.{count_past}
use Rattle.mdp_arbiter.specs.Fates.{held_among}

module _ {T : Type 0} where
  -- what a window counts
  window_counts : (held : FinMap nat_cmp T) (first n : ℕ) → count_held held first n ≡ held_among held first n
  window_counts held first zero = refl
  window_counts held first (suc n) = ap (λ m. m + cond (contains_key held (first + n)) 1 0) (window_counts held first n)

  -- none is held past the top, so a window's count goes no further
  pub all_wait : (held : FinMap nat_cmp T) (first room top : ℕ) → first ≤ top + 1 → top + 1 ≤ first + room → ((k : ℕ) → top < k → get held k ≡ None)
      → count_held held first room ≡ held_among held first (top + 1 - first)
  all_wait held first room top begun within none =
      count_past held first (top + 1 - first) room (omega (arith, within)) (λ k far. none k (omega (arith, far, begun))) ∙ window_counts held first (top + 1 - first)
