-- A slot's row, step by step.
use Rattle.std.proofs.Common.{◌≡◌, ◌==◌, ℕ, Bool, true, false, ◌||◌, List, [], ◌∷◌, ◌++◌, map, filter, flat_map, refl, ap, sym, ◌∙◌, if◌then◌else◌}
use Rattle.std.proofs.lemmas.List.{map-append, append-nil}
use Rattle.std.proofs.lemmas.List.Elements.{filter-append}
use Rattle.std.proofs.lemmas.List.Folds.{list_any-append}
use Rattle.std.proofs.lemmas.Grind.{flat_map-append}
use Rattle.mdp_lanes.specs.declared.row.Row.{Row}
use Rattle.mdp_lanes.specs.declared.row.Row.TheVariants.{Never, Stale}
use Rattle.mdp_lanes.specs.declared.step.Step.{Step}
use Rattle.mdp_lanes.specs.declared.step.Step.TheVariants.{Jump, Event}
use Rattle.mdp_lanes.specs.Rows.{is_jump, has_jump, since_jump, pairs_of, rows_given, last_row, row_after, LawOfRows, LawOfSteps}

-- ---- jumps among steps

has_jump-append : (xs ys : List Step) → has_jump (xs ++ ys) ≡ (has_jump xs || has_jump ys)
has_jump-append xs ys = list_any-append is_jump xs ys

jump_stays : (b : Bool) → (b || true) ≡ true
jump_stays true = refl
jump_stays false = refl

no_jump_more : (b : Bool) → (b || false) ≡ b
no_jump_more true = refl
no_jump_more false = refl

-- where there is a jump, some step more in front changes nothing
behind_one : (step : Step) (steps : List Step) → has_jump steps ≡ true → since_jump (step ∷ steps) ≡ since_jump steps
behind_one step steps jump = ap (λ b. if (is_jump step || b) then since_jump steps else step ∷ steps) jump ∙ ap (λ b. if b then since_jump steps else step ∷ steps) (jump_stays (is_jump step))

-- with no jump, all steps are since the last one
all_since : (steps : List Step) → has_jump steps ≡ false → since_jump steps ≡ steps
all_since [] none = refl
all_since (step ∷ steps) none = ap (λ b. if b then since_jump steps else step ∷ steps) none

-- what stands behind the last jump
since_last : (before steps : List Step) → has_jump steps ≡ false → since_jump (before ++ Jump ∷ steps) ≡ steps
since_last [] steps none = all_since steps none
since_last (step ∷ before) steps none =
    let jump : has_jump (before ++ Jump ∷ steps) ≡ true = has_jump-append before (Jump ∷ steps) ∙ jump_stays (has_jump before) in
    behind_one step (before ++ Jump ∷ steps) jump ∙ since_last before steps none

-- an event more at the end, by whether there is a jump
since_more_by : (step : Step) (steps : List Step) (pairs : List (ℕ × Row))
    → since_jump (steps ++ Event pairs ∷ []) ≡ since_jump steps ++ Event pairs ∷ []
    → (b : Bool) → has_jump (step ∷ steps) ≡ b
    → since_jump (step ∷ steps ++ Event pairs ∷ []) ≡ since_jump (step ∷ steps) ++ Event pairs ∷ []
since_more_by step steps pairs more b is =
    let same : has_jump (step ∷ steps ++ Event pairs ∷ []) ≡ b =
    has_jump-append (step ∷ steps) (Event pairs ∷ []) ∙ (no_jump_more (has_jump (step ∷ steps)) ∙ is) in
    ap (λ c. if c then since_jump (steps ++ Event pairs ∷ []) else step ∷ steps ++ Event pairs ∷ []) same
    ∙ (with_more b ∙ ap (λ c. (if c then since_jump steps else step ∷ steps) ++ Event pairs ∷ []) (sym is)) where
      with_more : (c : Bool) → (if c then since_jump (steps ++ Event pairs ∷ []) else step ∷ steps ++ Event pairs ∷ []) ≡ (if c then since_jump steps else step ∷ steps) ++ Event pairs ∷ []
      with_more true = more
      with_more false = refl

since_more : (steps : List Step) (pairs : List (ℕ × Row)) → since_jump (steps ++ Event pairs ∷ []) ≡ since_jump steps ++ Event pairs ∷ []
since_more [] pairs = refl
since_more (step ∷ steps) pairs = since_more_by step steps pairs (since_more steps pairs) (has_jump (step ∷ steps)) refl

-- ---- rows that are given

rows_given-append : (slot : ℕ) (ps qs : List (ℕ × Row)) → rows_given slot (ps ++ qs) ≡ rows_given slot ps ++ rows_given slot qs
rows_given-append slot ps qs =
    ap (map (λ (p : ℕ × Row). p.1)) (filter-append (λ (p : ℕ × Row). p.0 == slot) ps qs)
    ∙ map-append (λ (p : ℕ × Row). p.1) (filter (λ (p : ℕ × Row). p.0 == slot) ps) (filter (λ (p : ℕ × Row). p.0 == slot) qs)

last_row-append : (other : Row) (xs ys : List Row) → last_row other (xs ++ ys) ≡ last_row (last_row other xs) ys
last_row-append other [] ys = refl
last_row-append other (x ∷ xs) ys = last_row-append x xs ys

-- ---- the laws

pub law_of_rows : LawOfRows
law_of_rows slot before steps none =
    let jump : has_jump (before ++ Jump ∷ steps) ≡ true = has_jump-append before (Jump ∷ steps) ∙ jump_stays (has_jump before) in (
      ap (λ b. last_row (if b then Stale else Never) (rows_given slot (flat_map pairs_of (since_jump steps)))) none
          ∙ ap (λ behind. last_row Never (rows_given slot (flat_map pairs_of behind))) (all_since steps none),
      ap (λ b. last_row (if b then Stale else Never) (rows_given slot (flat_map pairs_of (since_jump (before ++ Jump ∷ steps))))) jump
          ∙ ap (λ behind. last_row Stale (rows_given slot (flat_map pairs_of behind))) (since_last before steps none),
    )

pub after_jump : (slot : ℕ) (steps : List Step) → row_after slot (steps ++ Jump ∷ []) ≡ Stale
after_jump slot steps = (law_of_rows slot steps [] refl).1

pub after_event : (slot : ℕ) (steps : List Step) (pairs : List (ℕ × Row))
    → row_after slot (steps ++ Event pairs ∷ []) ≡ last_row (row_after slot steps) (rows_given slot pairs)
after_event slot steps pairs =
    let given : List Row = rows_given slot (flat_map pairs_of (since_jump steps)) in
    let other : Bool → Row = λ b. if b then Stale else Never in
    let jumps : has_jump (steps ++ Event pairs ∷ []) ≡ has_jump steps = has_jump-append steps (Event pairs ∷ []) ∙ no_jump_more (has_jump steps) in
    let all : flat_map pairs_of (since_jump (steps ++ Event pairs ∷ [])) ≡ flat_map pairs_of (since_jump steps) ++ pairs =
    ap (flat_map pairs_of) (since_more steps pairs)
    ∙ (flat_map-append pairs_of (since_jump steps) (Event pairs ∷ [])
    ∙ ap (λ ps. flat_map pairs_of (since_jump steps) ++ ps) (append-nil pairs)) in
    let rows : rows_given slot (flat_map pairs_of (since_jump (steps ++ Event pairs ∷ []))) ≡ given ++ rows_given slot pairs =
    ap (rows_given slot) all ∙ rows_given-append slot (flat_map pairs_of (since_jump steps)) pairs in
    ap (λ b. last_row (other b) (rows_given slot (flat_map pairs_of (since_jump (steps ++ Event pairs ∷ []))))) jumps
    ∙ (ap (last_row (other (has_jump steps))) rows ∙ last_row-append (other (has_jump steps)) given (rows_given slot pairs))

pub law_of_steps : LawOfSteps
law_of_steps slot steps pairs = (refl, after_jump slot steps, after_event slot steps pairs)
