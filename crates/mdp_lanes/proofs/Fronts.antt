-- Beginnings of lists: what is told of the fronts of a board's steps.
use Rattle.std.proofs.Common.{◌≡◌, ◌≤◌, List, [], ◌∷◌, ◌++◌, length, refl, ap, sym, ◌∙◌, arith, append_assoc, length-append}
use Rattle.std.specs.Prelude.{◌↔◌, IsTrue, leb}
use Rattle.std.proofs.lemmas.Bool.Decides.{nat_tests}
use mathlib.Core.List.{IsPrefix}

module _ {X : Type 0} where
  -- of two beginnings of one list, the one that is not longer begins the other
  pub front_of_longer : (xs ys whole : List X) → IsPrefix xs whole → IsPrefix ys whole → length xs ≤ length ys → IsPrefix xs ys
  front_of_longer [] ys whole p q le = (ys, refl)
  front_of_longer (x ∷ xs) [] whole p q le = absurd (omega arith)
  front_of_longer (x ∷ xs) (y ∷ ys) [] p q le = absurd (cc (p.1))
  front_of_longer (x ∷ xs) (y ∷ ys) (z ∷ whole) p q le =
      let same : x ≡ y = cc (p.1, q.1) in
      let rest = front_of_longer xs ys whole (p.0, cc (p.1)) (q.0, cc (q.1)) (omega arith) in
      (rest.0, cc (same, rest.1))

  -- a beginning that is not shorter than the whole is the whole
  pub front_is_whole : (xs whole : List X) → IsPrefix xs whole → length whole ≤ length xs → xs ≡ whole
  front_is_whole [] [] p le = refl
  front_is_whole [] (z ∷ whole) p le = absurd (omega arith)
  front_is_whole (x ∷ xs) [] p le = absurd (cc (p.1))
  front_is_whole (x ∷ xs) (z ∷ whole) p le =
      let rest = front_is_whole xs whole (p.0, cc (p.1)) (omega arith) in cc (p.1, rest)

  -- a beginning of a beginning
  pub front_of_front : (xs ys zs : List X) → IsPrefix xs ys → IsPrefix ys zs → IsPrefix xs zs
  front_of_front xs ys zs p q = (p.0 ++ q.0, sym (append_assoc xs p.0 q.0) ∙ (ap (λ ws. ws ++ q.0) p.1 ∙ q.1))

  -- no beginning is longer than the whole
  pub front-length : (xs whole : List X) → IsPrefix xs whole → length xs ≤ length whole
  front-length xs whole p = omega (arith, length-append xs p.0, ap length p.1)

  -- of two beginnings of one list, whether the first begins the second, by their lengths
  pub by_length : (xs ys whole : List X) → IsPrefix xs whole → IsPrefix ys whole → IsTrue (leb (length xs) (length ys)) ↔ IsPrefix xs ys
  by_length xs ys whole p q = (
    λ yes. let le : length xs ≤ length ys = grind (arith, nat_tests) in front_of_longer xs ys whole p q le,
    λ front. let le : length xs ≤ length ys = front-length xs ys front in grind (arith, nat_tests),
  )
