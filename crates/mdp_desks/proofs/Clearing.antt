-- Marks that are all taken away.
use Rattle.std.proofs.Common.{◌≡◌, ◌≤◌, ℕ, zero, suc, Bool, false, List, [], ◌∷◌, length, map, get_or, replicate, refl, sym, ap, ◌∙◌, arith, inl, inr}
use Rattle.std.proofs.lemmas.Bool.{cases_lt}
use Rattle.std.proofs.lemmas.List.{length-replicate}
use Rattle.mdp_desks.specs.Beside.{AreWithin, marks_in}

-- zeros are put in the place of all bytes
pub filled : (old new : List ℕ) (count : ℕ) → new ≡ replicate count 0 → length new ≡ length old → marks_in new ≡ map (λ _. false) (marks_in old)
filled old new count is long = ap marks_in (is ∙ ap (λ (n : ℕ). replicate n 0) many) ∙ each old
  where
    many : count ≡ length old
    many = sym (length-replicate count 0) ∙ sym (ap length is) ∙ long

    each : (bytes : List ℕ) → marks_in (replicate (length bytes) 0) ≡ map (λ _. false) (marks_in bytes)
    each [] = refl
    each (b ∷ bytes) = ap (λ (bs : List Bool). false ∷ bs) (each bytes)

all_off : (marks : List Bool) → ((n : ℕ) → get_or marks n false ≡ false) → marks ≡ map (λ _. false) marks
all_off [] off = refl
all_off (b ∷ marks) off = ap (λ (c : Bool). c ∷ marks) (off zero) ∙ ap (λ (bs : List Bool). false ∷ bs) (all_off marks (λ n. off (suc n)))

-- none is set where there is no place between the bounds
pub clear_already : (marks : List Bool) (low high : ℕ) → high ≤ low → AreWithin low high marks → marks ≡ map (λ _. false) marks
clear_already marks low high past within = all_off marks (λ n. elim (cases_lt n low) [ inl under ↦ within.before n under | inr from ↦ within.behind n (omega (arith, from, past)) ])
