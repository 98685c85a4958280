-- What a ring of places holds.
use Rattle.std.specs.Prelude.{ℕ, suc, ◌+◌, List, [], ◌∷◌, Option, Some, None}
use Rattle.std.specs.Ordering.{nat_cmp}
use Rattle.std.specs.FinMap.{FinMap, empty, insert}

-- what places side by side hold, where the first of them is that of this number
unfoldable pub held_from : {T : Type 0} → ℕ → List (Option T) → FinMap nat_cmp T
held_from first [] = empty
held_from first (None ∷ places) = held_from (first + 1) places
held_from first (Some item ∷ places) = insert (held_from (first + 1) places) first item

-- how many of these places hold an item
abbrev pub count_filled : {T : Type 0} → List (Option T) → ℕ
count_filled [] = 0
count_filled (None ∷ places) = count_filled places
count_filled (Some item ∷ places) = suc (count_filled places)
