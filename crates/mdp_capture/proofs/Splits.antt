-- A text cut at the first of a byte.
use Rattle.std.proofs.Common.{◌≡◌, ℕ, ◌+◌, ◌<◌, Bool, true, false, eqb, List, [], ◌∷◌, ◌++◌, Some, None, length, get_or, take, drop, refl, sym, ap, ◌∙◌, arith, take-append-drop}
use Rattle.std.specs.Prelude.{All}
use Rattle.std.specs.List.{slice_split}
use Rattle.std.proofs.lemmas.Bool.{eqb-true, eq-eqb}
use Rattle.std.proofs.lemmas.List.{get_or-take, drop_more, length-take-le, get_or_default}
use Rattle.std.proofs.lemmas.List.Splits.{slice_split_at, slice_split_none}
use Rattle.memchr.specs.Find.{IsFirstByte, is_byte}

-- the byte c is nowhere among these
abbrev pub IsFreeOf : ℕ → List ℕ → Type 0
IsFreeOf c bytes = All (λ byte. eqb byte c ≡ false) bytes

not_true : (b : Bool) → (b ≡ true → ⊥) → b ≡ false
not_true true h = absurd (h refl)
not_true false h = refl

-- before the first c there is none
pub free_before : (c : ℕ) (text : List ℕ) (k : ℕ) → IsFirstByte (is_byte c) text (Some k) → IsFreeOf c (take k text)
free_before c text k first i d below =
    let high : k < length text = first.0.high in
    let len = length-take-le k text (omega arith) in
    let low : i < k = omega arith in
    rw (get_or-take k text i d low, get_or_default text i d 0 (omega arith)) (not_true (eqb (get_or text i 0) c) (first.0.before i (omega arith) low))

-- with no c at all
pub free_of : (c : ℕ) (text : List ℕ) → IsFirstByte (is_byte c) text None → IsFreeOf c text
free_of c text none i d below = rw (get_or_default text i d 0 below) (not_true (eqb (get_or text i 0) c) (none i (omega arith) below))

-- what the first c divides
pub split_there : (c : ℕ) (text : List ℕ) (k : ℕ) → IsFirstByte (is_byte c) text (Some k) → text ≡ take k text ++ c ∷ drop (k + 1) text
split_there c text k first =
    let high : k < length text = first.0.high in
    let at : get_or text k 0 ≡ c = eqb-true (get_or text k 0) c first.1 in
    sym (take-append-drop k text) ∙ ap (λ rest. take k text ++ rest) (drop_more text k 0 high ∙ ap (λ byte. byte ∷ drop (k + 1) text) at)

eqb_self : (c : ℕ) → eqb c c ≡ true
eqb_self c = eq-eqb c c refl

-- the parts of a text that begins with bytes free of c, and then c
pub parts_at : (c : ℕ) (front rest : List ℕ) → IsFreeOf c front → slice_split (λ byte. eqb byte c) (front ++ c ∷ rest) ≡ front ∷ slice_split (λ byte. eqb byte c) rest
parts_at c front rest free = slice_split_at (λ byte. eqb byte c) front c rest free (eqb_self c)

pub parts_found : (c : ℕ) (text : List ℕ) (k : ℕ) → IsFirstByte (is_byte c) text (Some k) → slice_split (λ byte. eqb byte c) text ≡ take k text ∷ slice_split (λ byte. eqb byte c) (drop (k + 1) text)
parts_found c text k first = ap (slice_split (λ byte. eqb byte c)) (split_there c text k first) ∙ parts_at c (take k text) (drop (k + 1) text) (free_before c text k first)

pub parts_none : (c : ℕ) (text : List ℕ) → IsFirstByte (is_byte c) text None → slice_split (λ byte. eqb byte c) text ≡ text ∷ []
parts_none c text none = slice_split_none (λ byte. eqb byte c) text (free_of c text none)
