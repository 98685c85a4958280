-- A line without the carriage return at its end.
use Rattle.std.proofs.Common.{◌≡◌, ℕ, ◌+◌, ◌-◌, ◌≢◌, true, false, eqb, List, [], ◌∷◌, ◌++◌, length, take, drop, get_or, Option, None, Some, MatchOption, sym, ap, ◌∙◌, arith, inl, inr, length-append}
use Rattle.std.specs.Option.{unwrap_or}
use Rattle.std.specs.Cmp.Lexicographic.{pointwise}
use Rattle.std.specs.Prelude.{nat_eq}
use Rattle.std.specs.Str.Lines.{strip_carriage_return}
use Rattle.std.proofs.lemmas.Bool.{cases_lt, cond-false, cond-true, eq-eqb, ne_eqb}
use Rattle.std.proofs.lemmas.Bool.Decides.{Decides-eqb}
use Rattle.std.proofs.lemmas.List.{get_or_past, take_all, take_more}
use Rattle.std.proofs.lemmas.Slice.Eq.{strip_suffix_is}
use Rattle.std.proofs.Math.Seq.{get_or-append_seam, take-append_seam}
use denote.Ref.{Bor}

-- it stands there
ended : (front : List ℕ) → strip_carriage_return (front ++ 13 ∷ []) ≡ front
ended front =
    let line = front ++ 13 ∷ [] in
    let size : length line - 1 ≡ length front = omega (arith, length-append front (13 ∷ [])) in
    let is : eqb (get_or line (length line - 1) 0) 13 ≡ true = rw size (eq-eqb (get_or line (length front) 0) 13 (get_or-append_seam front 13 [] 0)) in
    cond-true (eqb (get_or line (length line - 1) 0) 13) (take (length line - 1) line) line is
    ∙ ap (λ (n : ℕ). take n line) size ∙ take-append_seam front (13 ∷ [])

-- the last byte, which is no 0
last_there : (line : List ℕ) → get_or line (length line - 1) 0 ≡ 13 → line ≡ take (length line - 1) line ++ 13 ∷ []
last_there line is = elim (cases_lt 0 (length line)) [
  | inl some ↦
      let last = length line - 1 in
      sym (take_all (last + 1) line (omega (arith, some))) ∙ take_more line last 0 (omega (arith, some)) ∙ ap (λ (byte : ℕ). take last line ++ byte ∷ []) is
  | inr empty ↦ let none = get_or_past line (length line - 1) 0 (omega (arith, empty)) in absurd (omega (arith, is, none))
]

stripped_by : (line : Bor (List ℕ)) (r : Option (Bor (List ℕ))) → MatchOption r ((front : List ℕ) → line.now ≢ front ++ 13 ∷ []) (λ x. line.now ≡ x.now ++ 13 ∷ [])
    → (unwrap_or r line).now ≡ strip_carriage_return line.now
stripped_by line None none =
    let last = length line.now - 1 in
    sym (cond-false (eqb (get_or line.now last 0) 13) (take last line.now) line.now (ne_eqb (get_or line.now last 0) 13 (λ is. none (take last line.now) (last_there line.now is))))
stripped_by line (Some front) is = sym (ap strip_carriage_return is ∙ ended front.now)

-- what `strip_suffix` leaves
pub stripped : (line : Bor (List ℕ)) (r : Option (Bor (List ℕ)))
    → MatchOption r (pointwise nat_eq (drop (length line.now - 1) line.now) (13 ∷ []) ≡ false) (λ x. (pointwise nat_eq (drop (length line.now - 1) line.now) (13 ∷ []) ≡ true) × (x.now ≡ take (length line.now - 1) line.now) × (length x.now + 1 ≡ length line.now))
    → (unwrap_or r line).now ≡ strip_carriage_return line.now
stripped line r is = stripped_by line r (strip_suffix_is Decides-eqb line.now (13 ∷ []) r is)
