-- An array that is filled from its front.
use Rattle.std.proofs.Common.{◌≡◌, ℕ, zero, suc, ◌+◌, ◌<◌, ◌≤◌, true, false, List, [], ◌∷◌, ◌++◌, length, take, drop, ap, ◌∙◌, subst, arith}
use Rattle.std.proofs.Math.ListN.{set}
use Rattle.std.specs.Prelude.{nat_le}
use Rattle.std.proofs.lemmas.Bool.Decides.{nat_tests}
use Rattle.std.proofs.lemmas.List.{take_all}

by_one : {X : Type 0} (k : ℕ) (all old more : List X) (x : X) → drop k all ≡ x ∷ more → length all ≤ length old → set (take k all ++ drop k old) k x ≡ take (suc k) all ++ drop (suc k) old
by_one zero [] old more x next room = absurd (cc)
by_one zero (a ∷ all) [] more x next room = absurd (omega arith)
by_one {X} zero (a ∷ all) (y ∷ old) more x next room = let same : x ≡ a = cc in ap (λ (z : X). z ∷ old) same
by_one (suc k) [] old more x next room = absurd (cc)
by_one (suc k) (a ∷ all) [] more x next room = absurd (omega arith)
by_one {X} (suc k) (a ∷ all) (y ∷ old) more x next room = ap (λ (zs : List X). a ∷ zs) (by_one k all old more x next (omega arith))

-- one item more
pub one_filled : {X : Type 0} (k : ℕ) (all old more : List X) (x : X) → drop k all ≡ x ∷ more → length all ≤ length old → set (take k all ++ drop k old) k x ≡ take (k + 1) all ++ drop (k + 1) old
one_filled {X} k all old more x next room = let one_more : suc k ≡ k + 1 = omega arith in
    subst (λ (n : ℕ). set (take k all ++ drop k old) k x ≡ take n all ++ drop n old) one_more (by_one k all old more x next room)

-- all items
pub all_filled : {X : Type 0} (k : ℕ) (all old : List X) → k ≡ length all → take k all ++ drop k old ≡ all ++ drop (length all) old
all_filled {X} k all old is =
    ap (λ (front : List X). front ++ drop k old) (take_all k all (omega arith)) ∙ ap (λ (n : ℕ). all ++ drop n old) is

-- ---- room for so many

pub fits : (many room : ℕ) → many ≤ room → nat_le many room ≡ true
fits many room less = grind (arith, nat_tests, less)

pub full : (many room : ℕ) → room < many → nat_le many room ≡ false
full many room more = grind (arith, nat_tests, more)
