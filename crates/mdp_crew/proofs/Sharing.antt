-- Shares that are given out from the back.
use Rattle.std.proofs.Common.{◌≡◌, ◌<◌, ℕ, ◌+◌, ◌-◌, List, [], ◌∷◌, ◌++◌, length, get_or, drop, replicate, refl, sym, ap, ◌∙◌, arith}
use Rattle.std.proofs.lemmas.List.{length_push}
use Rattle.std.proofs.lemmas.Grind.{replicate_next}

module _ {X : Type 0} where
  too_short : (x a y : X) (ys : List X) → x ∷ [] ≡ a ∷ (ys ++ y ∷ []) → ⊥
  too_short x a y ys e =
      let long : 1 ≡ length (ys ++ y ∷ []) + 1 = ap length e ∙ omega arith in
      let more : length (ys ++ y ∷ []) ≡ length ys + 1 = length_push ys y in
      omega arith

  same_push : (xs ys : List X) (x y : X) → xs ++ x ∷ [] ≡ ys ++ y ∷ [] → (xs ≡ ys) × (x ≡ y)
  same_push [] [] x y e = (refl, ap (λ (l : List X). get_or l 0 x) e)
  same_push [] (b ∷ ys) x y e = absurd (too_short x b y ys e)
  same_push (a ∷ xs) [] x y e = absurd (too_short y a x xs (sym e))
  same_push (a ∷ xs) (b ∷ ys) x y e =
      let rest = same_push xs ys x y (ap (λ (l : List X). drop 1 l) e) in
      (λ i. get_or (e i) 0 a ∷ rest.0 i, rest.1)

  -- of as many shares as are wanted, one is taken from the back
  pub next_share : (items left : List X) (share steps : X) (many i : ℕ) → i < many → items ≡ replicate (many - i) steps → items ≡ left ++ share ∷ []
      → (left ≡ replicate (many - (i + 1)) steps) × (share ≡ steps)
  next_share items left share steps many i below are is =
      let one : many - i ≡ (many - (i + 1)) + 1 = omega arith in
      same_push left (replicate (many - (i + 1)) steps) share steps
      (sym is ∙ are ∙ ap (λ (n : ℕ). replicate n steps) one ∙ replicate_next (many - (i + 1)) steps)
