-- What stands on a board after more and more steps.
use Rattle.std.proofs.Common.{◌≡◌, ◌+◌, ℕ, zero, suc, List, [], ◌∷◌, ◌++◌, take, refl, sym, ap, ◌∙◌, append_assoc, arith}
use Rattle.std.specs.Prelude.{Option, Some, None, slice_get}
use Rattle.std.proofs.lemmas.List.{append-nil}
use Rattle.std.proofs.lemmas.List.Concat.{flat_map-append}
use Rattle.mdp_lanes.specs.Boards.{Published, with_step}
use Rattle.mdp_lanes.specs.declared.step.Step.{Step}
use Rattle.mdp_desks.specs.Reports.{Report}
use Rattle.mdp_reports.specs.Rounds.{all_rounds_in, rounds_in}
use Rattle.mdp_reports.specs.BoardSteps.{steps_in}
use Rattle.mdp_reports.proofs.Boarding.{law_of_first_steps}
use Rattle.mdp_crew.specs.Collecting.{steps_of_batch, steps_of_batches}
use Rattle.mdp_crew.specs.Publishing.{published_on}

pub published_nothing : (board : Option Published) → board ≡ published_on board []
published_nothing None = refl
published_nothing (Some p) = λ i. Some (record p { steps = sym (append-nil p.steps) i })

published-append : (board : Option Published) (xs ys : List Step) → published_on (published_on board xs) ys ≡ published_on board (xs ++ ys)
published-append None xs ys = refl
published-append (Some p) xs ys = λ i. Some (record p { steps = append_assoc p.steps xs ys i })

pub published_more : (old now new : Option Published) (xs ys : List Step) → now ≡ published_on old xs → new ≡ published_on now ys → new ≡ published_on old (xs ++ ys)
published_more old now new xs ys first later = later ∙ ap (λ (b : Option Published). published_on b ys) first ∙ published-append old xs ys

pub steps-append : (xs ys : List (List (List Report))) → steps_of_batches (xs ++ ys) ≡ steps_of_batches xs ++ steps_of_batches ys
steps-append xs ys = ap steps_in (flat_map-append rounds_in xs ys) ∙ law_of_first_steps (all_rounds_in xs) (all_rounds_in ys)

pub steps-push : (xs : List (List (List Report))) (round : List (List Report)) → steps_of_batches xs ++ steps_of_batch round ≡ steps_of_batches (xs ++ round ∷ [])
steps-push xs round =
    ap (λ (rounds : List (List Report)). steps_of_batches xs ++ steps_in rounds) (sym (append-nil (rounds_in round)))
    ∙ sym (steps-append xs (round ∷ []))

-- ---- steps published one after another

take_at : (steps : List Step) (n : ℕ) (s : Step) → Some s ≡ slice_get steps n → take n steps ++ s ∷ [] ≡ take (suc n) steps
take_at [] n s is = absurd cc
take_at (x ∷ steps) zero s is = let same : s ≡ x = cc in ap (λ (t : Step). t ∷ []) same
take_at (x ∷ steps) (suc n) s is = ap (λ (l : List Step). x ∷ l) (take_at steps n s is)

pub published_next : (old now new : Published) (steps : List Step) (n : ℕ) (s : Step) → now ≡ record old { steps = old.steps ++ take n steps } → Some s ≡ slice_get steps n → new ≡ with_step now s
    → new ≡ record old { steps = old.steps ++ take (n + 1) steps }
published_next old now new steps n s so_far at next =
    let same : suc n ≡ n + 1 = omega arith in
    next ∙ ap (λ (p : Published). with_step p s) so_far
    ∙ ap (λ (l : List Step). record old { steps = l }) (append_assoc old.steps (take n steps) (s ∷ []))
    ∙ ap (λ (l : List Step). record old { steps = old.steps ++ l }) (take_at steps n s at)
    ∙ ap (λ (k : ℕ). record old { steps = old.steps ++ take k steps }) same
