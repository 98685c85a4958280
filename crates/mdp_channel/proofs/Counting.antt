-- A text has no more lines than bytes.
use Rattle.std.proofs.Common.{◌≡◌, ℕ, ◌+◌, ◌≤◌, Bool, true, false, cond, eqb, List, [], ◌∷◌, length, ap, ◌∙◌, arith, inl, inr}
use Rattle.std.specs.List.{onto_first, slice_split}
use Rattle.std.specs.Str.Lines.{lines, lines_of_parts}
use Rattle.std.proofs.lemmas.Bool.{cases_Bool, eqb-true}
use Rattle.std.proofs.lemmas.List.Splits.{slice_split-cons_no}
use Rattle.mdp_capture.proofs.Pieces.{lines_at}

at_most_one : (is_empty : Bool) (part : List ℕ) → length (cond is_empty [] (part ∷ [])) ≤ 1
at_most_one true part = omega arith
at_most_one false part = omega arith

-- a byte more in the first part
part_more : (byte : ℕ) (parts : List (List ℕ)) → length (lines_of_parts (onto_first byte parts)) ≤ length (lines_of_parts parts) + 1
part_more byte [] = omega arith
part_more byte (part ∷ []) = omega (arith, at_most_one (eqb (length (byte ∷ part)) 0) (byte ∷ part))
part_more byte (part ∷ next ∷ parts) = omega arith

line_feed_more : (byte : ℕ) (text : List ℕ) → byte ≡ 10 → length (lines (byte ∷ text)) ≤ length (lines text) + 1
line_feed_more byte text is =
    let one = ap (λ (b : ℕ). length (lines (b ∷ text))) is ∙ ap length (lines_at [] text (λ i d below. absurd (omega (arith, below)))) in
    omega (arith, one)

byte_more : (byte : ℕ) (text : List ℕ) → length (lines (byte ∷ text)) ≤ length (lines text) + 1
byte_more byte text = elim (cases_Bool (eqb byte 10)) [
  | inl is ↦ line_feed_more byte text (eqb-true byte 10 is)
  | inr other ↦
      let parts = slice_split (λ b. eqb b 10) text in
      let same = ap (λ (p : List (List ℕ)). length (lines_of_parts p)) (slice_split-cons_no (λ b. eqb b 10) byte text other) in
      omega (arith, same, part_more byte parts)
]

pub few_lines : (text : List ℕ) → length (lines text) ≤ length text
few_lines [] = omega arith
few_lines (byte ∷ text) = omega (arith, byte_more byte text, few_lines text)
