-- The exchange that adds a step keeps the rule of the history.
use Rattle.std.proofs.Common.{◌≡◌, ◌≢◌, ℕ, ◌+◌, ◌<◌, ◌==◌, Bool, true, false, List, [], ◌∷◌, ◌++◌, length, refl, ap, sym, subst, arith, inl, length-append, None}
use Rattle.std.proofs.lemmas.List.{append-nil}
use Rattle.std.proofs.lemmas.Bool.Decides.{nat_tests}
use mathlib.Core.List.{IsPrefix}
use prog.Atomic.{either}
use Rattle.logbook.specs.Pages.{Cell, View, cell, keeps, no_nib, step, Moves, Goes}
use Rattle.mdp_lanes.specs.declared.step.Step.{Step}
use Rattle.mdp_lanes.specs.History.{HasLength, Adds}
use Rattle.mdp_lanes.proofs.Fronts.{front_is_whole}

-- clients see nothing of the history, and an update gives them nothing
abbrev pub unseen : List Step → List Step
unseen steps = []

abbrev pub any_answer : List Step → List Step → ℕ → Type 0
any_answer before after answer = Unit {0}

-- who has seen these steps
abbrev pub seer : List Step → View Step ℕ
seer steps = (steps, (no_nib, None))

abbrev pub cells_of : ℕ → List Cell
cells_of n = (n, true) ∷ (0, true) ∷ []

-- by whether the history is as long as was expected
goes_on : (steps seen : List Step) (e : Step) (old : ℕ) → length seen ≡ old → IsPrefix seen steps
    → (b : Bool) → (length steps == old) ≡ b
    → Goes HasLength unseen any_answer 0 (seer seen) (λ n. either (n == old) (old + 1) n) (Adds (step 0 old (old + 1) e) (seer seen)) (cells_of (length steps)) steps
goes_on steps seen e old many front true is =
    let here : length steps ≡ old = grind (arith, nat_tests) in
    let all : seen ≡ steps = front_is_whole seen steps front (omega arith) in
    let longer : either (length steps == old) (old + 1) (length steps) ≡ length (steps ++ e ∷ []) =
    rw is (omega (arith, length-append steps (e ∷ []))) in
    (keeps, e ∷ [], None, tt, ap cells_of longer, inl (refl, refl), λ found. ap (λ w. w ++ e ∷ []) (sym all))
goes_on steps seen e old many front false is =
    let same : steps ++ [] ≡ steps = append-nil steps in
    let still : either (length steps == old) (old + 1) (length steps) ≡ length (steps ++ []) = rw is (ap length (sym same)) in
    let other : length steps ≢ old = grind (arith, nat_tests) in
    (keeps, [], None, tt, ap cells_of still, inl (refl, refl), λ found. absurd (other found))

pub add_goes : (seen : List Step) (e : Step) (old : ℕ) → length seen ≡ old
    → Moves HasLength unseen any_answer 0 (seer seen) (λ n. either (n == old) (old + 1) n) (Adds (step 0 old (old + 1) e) (seer seen))
add_goes seen e old many cells steps kept front away =
    let AtHome : List Cell → Type 0 = λ cs. (0 < length cs) × ((cell cs 0).1 ≡ true) × Goes HasLength unseen any_answer 0 (seer seen) (λ n. either (n == old) (old + 1) n) (Adds (step 0 old (old + 1) e) (seer seen)) cs steps in
    subst AtHome (sym kept) (omega arith, refl, goes_on steps seen e old many front (length steps == old) refl)
