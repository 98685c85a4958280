-- Decimal numbers with no sign and no leading zero, as text that std parses.
use Rattle.std.proofs.Common.{◌≡◌, ℕ, ◌+◌, ◌-◌, ◌*◌, ◌^◌, ◌<◌, ◌≤◌, ◌≢◌, Bool, true, false, List, [], ◌∷◌, length, get_or, None, Some, Result, Ok, Err, refl, sym, ap, ◌∙◌, subst, arith, eqb, leb, inl, inr, lit<, rules}
use Rattle.std.specs.Prelude.{◌&&◌, not, MatchOption, MatchResult}
use Rattle.std.specs.List.{list_all}
use Rattle.std.specs.Result.{OkIff, result_ok}
use Rattle.std.specs.Str.{IsUtf8}
use Rattle.std.specs.Str.Parse.{ParsesUnsigned}
use Rattle.std.proofs.lemmas.Bool.{and_parts, cases_Bool, cases_lt, cond-false, cond-true, eqb-false, leb-true, le-leb}
use Rattle.std.proofs.lemmas.List.{get_or_past}
use Rattle.std.proofs.lemmas.List.Sums.{AllPass-from_list_all}
use Rattle.std.proofs.lemmas.Str.{IsUtf8-from_ascii}
use Rattle.std.proofs.lemmas.Str.Parse.{IsNumeralModel, numerals_by_fold, parse_digits}
use denote.Ref.{Bor}
use Rattle.mdp_capture.proofs.Numbers.{spelled, spelled_grows}
use Rattle.mdp_capture.specs.Line.{decimal, is_digit, is_number, number_of}

not_false : (b : Bool) → not b ≡ true → b ≡ false
not_false true is = absurd (cc)
not_false false is = refl

-- digits and their value, in the words of std's `parse`
digits_are : IsNumeralModel (λ ds. list_all is_digit ds ≡ true) (spelled 0)
digits_are = numerals_by_fold _ (search rules) spelled (search rules)

-- digits are text
digit_low : (byte : ℕ) → is_digit byte ≡ true → byte < 128
digit_low byte is = let high = leb-true byte 57 (and_parts (leb 48 byte) (leb byte 57) is).1 in omega arith

pub number_is_text : (field : List ℕ) → is_number field ≡ true → IsUtf8 field
number_is_text field is =
    let pass = AllPass-from_list_all is_digit field (and_parts (not (eqb (get_or field 0 0) 48)) (list_all is_digit field) is).1 in
    IsUtf8-from_ascii field (λ i. elim (cases_lt i (length field)) [ inl within ↦ digit_low (get_or field i 0) (pass i 0 within) | inr past ↦ rw (get_or_past field i 0 past) (lit< tt) ])

-- with a digit and no leading zero it is no 0
some_number : (field : List ℕ) → is_number field ≡ true → 0 < length field → 1 ≤ decimal field
some_number [] is some = absurd (omega arith)
some_number (digit ∷ digits) is some =
    let both = and_parts (not (eqb digit 48)) (list_all is_digit (digit ∷ digits)) is in
    let first = (and_parts (is_digit digit) (list_all is_digit digits) both.1).0 in
    let low : 48 ≤ digit = leb-true 48 digit (and_parts (leb 48 digit) (leb digit 57) first).0 in
    let other : digit ≢ 48 = eqb-false digit 48 (not_false (eqb digit 48) both.0) in
    let grows : 0 * 10 + (digit - 48) ≤ decimal (digit ∷ digits) = spelled_grows (0 * 10 + (digit - 48)) digits in
    omega (arith, low, other, grows)

some_digits : (field : List ℕ) → 1 ≤ decimal field → 0 < length field
some_digits [] some = absurd (omega arith)
some_digits (digit ∷ digits) some = omega arith

abbrev is_number_to : ℕ → List ℕ → Bool
is_number_to most field = is_number field && leb 1 (decimal field) && leb (decimal field) most

is_within : (most : ℕ) (field : List ℕ) → is_number field ≡ true → 1 ≤ decimal field → decimal field ≤ most → is_number_to most field ≡ true
is_within most field is some few =
    let low = le-leb 1 (decimal field) some in
    let high = le-leb (decimal field) most few in
    rw (is, low, high) refl

-- what `parse` gives of it is the number, where that is at most the most that the type has
parsed_as : {E : Type 0} (bits most : ℕ) (field : List ℕ) (r : Result ℕ E) → 2 ^ bits ≡ most + 1 → is_number field ≡ true
    → OkIff r ((0 < length field) × (decimal field < 2 ^ bits)) (decimal field) → result_ok r ≡ number_of most field
parsed_as bits most field (Ok number) size is found =
    let few : decimal field ≤ most = omega (arith, size, found.0.1) in
    let within = is_within most field is (some_number field is found.0.0) few in
    ap Some found.1 ∙ sym (cond-true (is_number_to most field) (Some (decimal field)) None within)
parsed_as bits most field (Err error) size is none = elim (cases_Bool (is_number_to most field)) [
  | inl within ↦
      let both = and_parts (is_number field && leb 1 (decimal field)) (leb (decimal field) most) within in
      let low = leb-true 1 (decimal field) (and_parts (is_number field) (leb 1 (decimal field)) both.0).1 in
      let high = leb-true (decimal field) most both.1 in
      absurd (none (some_digits field low, omega (arith, size, high)))
  | inr past ↦ sym (cond-false (is_number_to most field) (Some (decimal field)) None past)
]

pub number_parsed : {E : Type 0} (bits most : ℕ) (field text : List ℕ) (r : Result ℕ E) → 2 ^ bits ≡ most + 1 → ParsesUnsigned bits 10 text r → is_number field ≡ true → text ≡ field
    → result_ok r ≡ number_of most field
number_parsed {E} bits most field text r size parsed is same =
    let these : ParsesUnsigned bits 10 field r = subst (λ (t : List ℕ). ParsesUnsigned bits 10 t r) same parsed in
    let digits = (and_parts (not (eqb (get_or field 0 0) 48)) (list_all is_digit field) is).1 in
    parsed_as bits most field r size is (parse_digits digits_are bits field r these digits)

-- a number is lent as text
pub number_lent : {E : Type 0} (Q : E → Type 0) (field : List ℕ) (r : Result (Bor (List ℕ)) E) → is_number field ≡ true → MatchResult r (λ s. (s.now ≡ field) × IsUtf8 field) (λ e. (IsUtf8 field → ⊥) × Q e)
    → MatchOption (result_ok r) (is_number field ≡ false) (λ text. (is_number field ≡ true) × (text.now ≡ field))
number_lent Q field (Ok text) is read = (is, read.0)
number_lent Q field (Err error) is read = absurd (read.0 (number_is_text field is))
