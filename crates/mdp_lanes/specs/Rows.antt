-- The rows of a board after the steps that were published on it.
use Rattle.std.specs.Prelude.{◌≡◌, ◌==◌, ℕ, Bool, true, false, List, [], ◌∷◌, ◌++◌, map, filter}
use Rattle.std.specs.Prelude.{flat_map, if◌then◌else◌}
use Rattle.std.specs.List.{list_any}
use Rattle.mdp_lanes.specs.declared.row.Row.{Row}
use Rattle.mdp_lanes.specs.declared.row.Row.TheVariants.{Never, Stale}
use Rattle.mdp_lanes.specs.declared.step.Step.{Step}
use Rattle.mdp_lanes.specs.declared.step.Step.TheVariants.{Jump, Event}

abbrev pub is_jump : Step → Bool
is_jump Jump = true
is_jump (Event pairs) = false

abbrev pub has_jump : List Step → Bool
has_jump steps = list_any is_jump steps

-- the steps behind the last jump; all of them, where there is none
abbrev pub since_jump : List Step → List Step
since_jump [] = []
since_jump (step ∷ steps) = if has_jump (step ∷ steps) then since_jump steps else step ∷ steps

-- the slots to which a step gives a row, each with that row, in order
abbrev pub pairs_of : Step → List (ℕ × Row)
pairs_of Jump = []
pairs_of (Event pairs) = pairs

-- the rows that pairs give a slot, in order
abbrev pub rows_given : ℕ → List (ℕ × Row) → List Row
rows_given slot pairs = map (λ pair. pair.1) (filter (λ pair. pair.0 == slot) pairs)

-- the last of these rows; where there is none, the other
abbrev pub last_row : Row → List Row → Row
last_row other [] = other
last_row other (row ∷ rows) = last_row row rows

-- a slot's row: the last one given for it since the last jump; where there is none, `Stale` after a jump, and else
-- `Never`
abbrev pub row_after : ℕ → List Step → Row
row_after slot steps =
    last_row (if has_jump steps then Stale else Never) (rows_given slot (flat_map pairs_of (since_jump steps)))

abbrev pub rows_after : List ℕ → List Step → List Row
rows_after slots steps = map (λ slot. row_after slot steps) slots

-- ---- laws

-- with no jump, and behind the last one, the last row that was given stands
abbrev pub LawOfRows : Type 0
LawOfRows = (slot : ℕ) (before steps : List Step) → has_jump steps ≡ false
    → (row_after slot steps ≡ last_row Never (rows_given slot (flat_map pairs_of steps)))
    × (row_after slot (before ++ Jump ∷ steps) ≡ last_row Stale (rows_given slot (flat_map pairs_of steps)))

-- what each step does to a slot's row
abbrev pub LawOfSteps : Type 0
LawOfSteps = (slot : ℕ) (steps : List Step) (pairs : List (ℕ × Row))
    → (row_after slot [] ≡ Never)
    × (row_after slot (steps ++ Jump ∷ []) ≡ Stale)
    × (row_after slot (steps ++ Event pairs ∷ []) ≡ last_row (row_after slot steps) (rows_given slot pairs))
