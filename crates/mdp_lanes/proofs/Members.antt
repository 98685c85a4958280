-- Facts of each member of a list, and members at their places.
use Rattle.std.proofs.Common.{◌≡◌, ℕ, zero, suc, ◌⊎◌, inl, inr, List, [], ◌∷◌, ◌++◌, length, sym, refl, ap, ⊎_elim}
use mathlib.Core.Option.{some, some-injective, some-ne-none}
use lib.ListN.{get_elem?}
use Rattle.mdp_lanes.specs.Rule.{Each}

pub each_map : {A : Type 0} (P Q : A → Type 0) → ((a : A) → P a → Q a) → (xs : List A) → Each P xs → Each Q xs
each_map P Q f [] each = tt
each_map P Q f (x ∷ xs) each = (f x each.0, each_map P Q f xs each.1)

pub each_both : {A : Type 0} (P Q R : A → Type 0) → ((a : A) → P a → Q a → R a) → (xs : List A) → Each P xs → Each Q xs → Each R xs
each_both P Q R f [] one two = tt
each_both P Q R f (x ∷ xs) one two = (f x one.0 two.0, each_both P Q R f xs one.1 two.1)

pub each_append : {A : Type 0} (P : A → Type 0) (xs ys : List A) → Each P xs → Each P ys → Each P (xs ++ ys)
each_append P [] ys front back = back
each_append P (x ∷ xs) ys front back = (front.0, each_append P xs ys front.1 back)

-- a list of one has that one at 0 and nothing elsewhere
pub at_only : {A : Type 0} (a v : A) (place : ℕ) → get_elem? (a ∷ []) place ≡ some v → (place ≡ 0) × (a ≡ v)
at_only a v zero at = (refl, some-injective a v at)
at_only a v (suc place) at = absurd (some-ne-none v (sym at))

-- what stands in a list with one more behind it
pub at_longer : {A : Type 0} (xs : List A) (a v : A) (place : ℕ) → get_elem? (xs ++ a ∷ []) place ≡ some v → (get_elem? xs place ≡ some v) ⊎ ((place ≡ length xs) × (a ≡ v))
at_longer [] a v zero at = inr (refl, some-injective a v at)
at_longer [] a v (suc place) at = absurd (some-ne-none v (sym at))
at_longer (x ∷ xs) a v zero at = inl at
at_longer (x ∷ xs) a v (suc place) at = ⊎_elim (λ before. inl before) (λ last. inr (ap suc last.0, last.1)) (at_longer xs a v place at)
