-- Steps of a board with more rows and more steps behind.
use Rattle.std.proofs.Common.{◌≡◌, ◌≤◌, ◌+◌, ◌-◌, ℕ, zero, suc, Bool, true, false, cond, List, [], ◌∷◌, ◌++◌, length, map, take, drop, refl, sym, ap, subst, ◌∙◌, append-nil, append_assoc, arith}
use Rattle.std.specs.Prelude.{Some, None, slice_get}
use Rattle.std.specs.List.{slice_range}
use Rattle.std.proofs.lemmas.List.{length-append, length-drop, drop-append-le, take_all}
use Rattle.mdp_lanes.specs.declared.row.Row.{Row}
use Rattle.mdp_lanes.specs.declared.step.Step.{Step}
use Rattle.mdp_lanes.specs.declared.step.Step.TheVariants.{Jump, Event}
use Rattle.mdp_books.specs.declared.event_end.EventEnd.{EventEnd}
use Rattle.mdp_desks.specs.Reports.{Told}
use Rattle.mdp_reports.specs.declared.board_steps.StepAt.{StepAt}
use Rattle.mdp_reports.specs.BoardSteps.{pair_told}
use Rattle.mdp_reports.specs.Steps.{end_of, step_to, steps_in_places, AreInPlace, step_with, steps_with, steps_with_told}
use Rattle.mdp_reports.proofs.Flatting.{slice_front}

abbrev pub Pair : Type 0
Pair = ℕ × Row

-- ---- places

pub end_within : (count : ℕ) (places : List StepAt) → AreInPlace count places → end_of count places ≤ count
end_within count [] are = omega arith
end_within count (m ∷ places) are =
    let here : m.from ≤ end_of count places = are.0 in
    let rest = end_within count places are.1 in
    omega (arith, here, rest)

end_more : (count : ℕ) (places : List StepAt) → end_of count places ≤ end_of (count + 1) places
end_more count [] = omega arith
end_more count (m ∷ places) = omega arith

pub places_more : (count : ℕ) (places : List StepAt) → AreInPlace count places → AreInPlace (count + 1) places
places_more count [] are = tt
places_more count (m ∷ places) are =
    let here : m.from ≤ end_of count places = are.0 in
    let more = end_more count places in
    (omega (arith, here, more), places_more count places are.1)

abbrev pub step_place : Bool → ℕ → StepAt
step_place is_jump from = record { is_jump = is_jump; from = from }

end-push : (count : ℕ) (places : List StepAt) (is_jump : Bool) → end_of count (places ++ step_place is_jump count ∷ []) ≡ end_of count places
end-push count [] is_jump = refl
end-push count (m ∷ places) is_jump = refl

pub places-push : (count : ℕ) (places : List StepAt) (is_jump : Bool) → AreInPlace count places → AreInPlace count (places ++ step_place is_jump count ∷ [])
places-push count [] is_jump are = (omega arith, tt)
places-push count (m ∷ places) is_jump are = (subst (λ (n : ℕ). m.from ≤ n) (sym (end-push count places is_jump)) are.0, places-push count places is_jump are.1)

-- ---- one step more

no_rows : (rows : List Pair) → slice_range rows (length rows) (length rows) ≡ []
no_rows rows = none (length rows - length rows) (drop (length rows) rows) (omega arith)
  where
    none : (n : ℕ) (xs : List Pair) → n ≡ 0 → take n xs ≡ []
    none zero xs is = refl
    none (suc n) xs is = absurd (omega (arith, is))

abbrev pub new_step : Bool → Step
new_step true = Jump
new_step false = Event []

step-new : (rows : List Pair) (is_jump : Bool) → step_to rows (step_place is_jump (length rows)) (length rows) ≡ new_step is_jump
step-new rows true = refl
step-new rows false = ap Event (no_rows rows)

pub steps-push : (rows : List Pair) (places : List StepAt) (is_jump : Bool) → steps_in_places rows (places ++ step_place is_jump (length rows) ∷ []) ≡ steps_in_places rows places ++ new_step is_jump ∷ []
steps-push rows [] is_jump = ap (λ (s : Step). s ∷ []) (step-new rows is_jump)
steps-push rows (m ∷ places) is_jump =
    ap (λ (n : ℕ). step_to rows m n ∷ steps_in_places rows (places ++ step_place is_jump (length rows) ∷ [])) (end-push (length rows) places is_jump)
    ∙ ap (λ (l : List Step). step_to rows m (end_of (length rows) places) ∷ l) (steps-push rows places is_jump)

-- ---- one row more

drop_more : (rows : List Pair) (p : Pair) (from : ℕ) → from ≤ length rows → slice_range (rows ++ p ∷ []) from (length (rows ++ p ∷ [])) ≡ slice_range rows from (length rows) ++ p ∷ []
drop_more rows p from within =
    let long = length-drop from rows in
    let both = length-append (drop from rows) (p ∷ []) in
    let all = length-append rows (p ∷ []) in
    ap (take (length (rows ++ p ∷ []) - from)) (drop-append-le from rows (p ∷ []) within)
    ∙ take_all (length (rows ++ p ∷ []) - from) (drop from rows ++ p ∷ []) (omega (arith, long, both, all))
    ∙ ap (λ (l : List Pair). l ++ p ∷ []) (sym (take_all (length rows - from) (drop from rows) (omega (arith, long))))

last_more : (rows : List Pair) (p : Pair) (m : StepAt) → m.from ≤ length rows → step_to (rows ++ p ∷ []) m (length (rows ++ p ∷ [])) ≡ step_with p (step_to rows m (length rows))
last_more rows p m within = by_kind m.is_jump
  where
    by_kind : (b : Bool) → cond b Jump (Event (slice_range (rows ++ p ∷ []) m.from (length (rows ++ p ∷ [])))) ≡ step_with p (cond b Jump (Event (slice_range rows m.from (length rows))))
    by_kind true = refl
    by_kind false = ap Event (drop_more rows p m.from within)

same_step : (rows : List Pair) (p : Pair) (m : StepAt) (to : ℕ) → m.from ≤ to → to ≤ length rows → step_to (rows ++ p ∷ []) m to ≡ step_to rows m to
same_step rows p m to order within = ap (λ (l : List Pair). cond m.is_jump Jump (Event l)) (slice_front rows (p ∷ []) m.from to order within)

pub rows-push : (rows : List Pair) (p : Pair) (places : List StepAt) → AreInPlace (length rows) places → steps_in_places (rows ++ p ∷ []) places ≡ steps_with p (steps_in_places rows places)
rows-push rows p [] are = refl
rows-push rows p (m ∷ []) are = ap (λ (s : Step). s ∷ []) (last_more rows p m are.0)
rows-push rows p (m ∷ n ∷ places) are =
    ap (λ (s : Step). s ∷ steps_in_places (rows ++ p ∷ []) (n ∷ places)) (same_step rows p m n.from are.0 (end_within (length rows) (n ∷ places) are.1))
    ∙ ap (λ (l : List Step). step_to rows m n.from ∷ l) (rows-push rows p (n ∷ places) are.1)

-- ---- the step at a place

suc_within : (count n : ℕ) (places : List StepAt) (m : StepAt) → AreInPlace count places → slice_get places n ≡ Some m → (m.from ≤ end_of count (drop (suc n) places)) × (end_of count (drop (suc n) places) ≤ count)
suc_within count n [] m are is = absurd cc
suc_within count zero (x ∷ places) m are is =
    let same : x ≡ m = cc in
    (subst (λ (y : StepAt). y.from ≤ end_of count places) same are.0, end_within count places are.1)
suc_within count (suc n) (x ∷ places) m are is = suc_within count n places m are.1 is

pub at_within : (count n : ℕ) (places : List StepAt) (m : StepAt) → AreInPlace count places → slice_get places n ≡ Some m → (m.from ≤ end_of count (drop (n + 1) places)) × (end_of count (drop (n + 1) places) ≤ count)
at_within count n places m are is =
    let one : suc n ≡ n + 1 = omega arith in
    subst (λ (k : ℕ). (m.from ≤ end_of count (drop k places)) × (end_of count (drop k places) ≤ count)) one (suc_within count n places m are is)

suc_there : (rows : List Pair) (n : ℕ) (places : List StepAt) (m : StepAt) → slice_get places n ≡ Some m → slice_get (steps_in_places rows places) n ≡ Some (step_to rows m (end_of (length rows) (drop (suc n) places)))
suc_there rows n [] m is = absurd cc
suc_there rows zero (x ∷ places) m is =
    let same : x ≡ m = cc in
    ap (λ (y : StepAt). Some (step_to rows y (end_of (length rows) places))) same
suc_there rows (suc n) (x ∷ places) m is = suc_there rows n places m is

step_there : (rows : List Pair) (n : ℕ) (places : List StepAt) (m : StepAt) → slice_get places n ≡ Some m → slice_get (steps_in_places rows places) n ≡ Some (step_to rows m (end_of (length rows) (drop (n + 1) places)))
step_there rows n places m is =
    let one : suc n ≡ n + 1 = omega arith in
    subst (λ (k : ℕ). slice_get (steps_in_places rows places) n ≡ Some (step_to rows m (end_of (length rows) (drop k places)))) one (suc_there rows n places m is)

pub jump_there : (rows : List Pair) (n : ℕ) (places : List StepAt) (m : StepAt) → slice_get places n ≡ Some m → m.is_jump ≡ true → Some Jump ≡ slice_get (steps_in_places rows places) n
jump_there rows n places m is jumps =
    sym (step_there rows n places m is ∙ ap (λ (b : Bool). Some (cond b Jump (Event (slice_range rows m.from (end_of (length rows) (drop (n + 1) places)))))) jumps)

pub event_there : (rows : List Pair) (n : ℕ) (places : List StepAt) (m : StepAt) → slice_get places n ≡ Some m → m.is_jump ≡ false → Some (Event (slice_range rows m.from (end_of (length rows) (drop (n + 1) places)))) ≡ slice_get (steps_in_places rows places) n
event_there rows n places m is ends =
    sym (step_there rows n places m is ∙ ap (λ (b : Bool). Some (cond b Jump (Event (slice_range rows m.from (end_of (length rows) (drop (n + 1) places)))))) ends)

pub none_there : (rows : List Pair) (n : ℕ) (places : List StepAt) → slice_get places n ≡ None → None ≡ slice_get (steps_in_places rows places) n
none_there rows n [] is = refl
none_there rows zero (x ∷ places) is = absurd cc
none_there rows (suc n) (x ∷ places) is = none_there rows n places is

pub as_many : (rows : List Pair) (places : List StepAt) → length (steps_in_places rows places) ≡ length places
as_many rows [] = refl
as_many rows (m ∷ places) = ap suc (as_many rows places)

-- ---- an event with all its rows

steps_with-push : (p : Pair) (steps : List Step) (s : Step) → steps_with p (steps ++ s ∷ []) ≡ steps ++ step_with p s ∷ []
steps_with-push p [] s = refl
steps_with-push p (x ∷ []) s = refl
steps_with-push p (x ∷ y ∷ steps) s = ap (λ (l : List Step). x ∷ l) (steps_with-push p (y ∷ steps) s)

told_behind : (end : EventEnd) (ts : List Told) (pairs : List Pair) (steps : List Step)
    → steps_with_told end ts (steps ++ Event pairs ∷ []) ≡ steps ++ Event (pairs ++ map (pair_told end) ts) ∷ []
told_behind end [] pairs steps = ap (λ (l : List Pair). steps ++ Event l ∷ []) (sym (append-nil pairs))
told_behind end (t ∷ ts) pairs steps =
    let p = pair_told end t in
    ap (steps_with_told end ts) (steps_with-push p steps (Event pairs))
    ∙ told_behind end ts (pairs ++ p ∷ []) steps
    ∙ ap (λ (l : List Pair). steps ++ Event l ∷ []) (append_assoc pairs (p ∷ []) (map (pair_told end) ts))

pub all_told : (end : EventEnd) (ts : List Told) (steps : List Step) → steps_with_told end ts (steps ++ Event [] ∷ []) ≡ steps ++ Event (map (pair_told end) ts) ∷ []
all_told end ts steps = told_behind end ts [] steps
