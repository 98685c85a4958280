-- Decimal numbers, digit by digit.
use Rattle.std.proofs.Common.{◌≡◌, ℕ, ◌+◌, ◌-◌, ◌*◌, ◌<◌, ◌≤◌, List, [], ◌∷◌, ◌++◌, length, take, drop, refl, ap, ◌∙◌, arith, fold, take-append-drop, get_or, leb, Some, None}
use Rattle.std.specs.Prelude.{◌&&◌}
use Rattle.std.proofs.lemmas.Bool.{lt-leb, and_right, cond-false}
use Rattle.std.proofs.lemmas.List.{take_more}
use Rattle.mdp_capture.specs.Line.{decimal, is_number, number_of}

-- the number after more digits
abbrev pub spelled : ℕ → List ℕ → ℕ
spelled number digits = fold (λ so_far digit. so_far * 10 + (digit - 48)) number digits

-- more digits make no number less
pub spelled_grows : (number : ℕ) (digits : List ℕ) → number ≤ spelled number digits
spelled_grows number [] = omega arith
spelled_grows number (digit ∷ digits) = omega (arith, spelled_grows (number * 10 + (digit - 48)) digits)

pub spelled-append : (number : ℕ) (front rest : List ℕ) → spelled number (front ++ rest) ≡ spelled (spelled number front) rest
spelled-append number [] rest = refl
spelled-append number (digit ∷ front) rest = spelled-append (number * 10 + (digit - 48)) front rest

-- the digits up to a place spell at most what all of them do
pub front_below : (digits : List ℕ) (n : ℕ) → decimal (take n digits) ≤ decimal digits
front_below digits n =
    let all = ap decimal (take-append-drop n digits) in
    omega (arith, spelled-append 0 (take n digits) (drop n digits), spelled_grows (decimal (take n digits)) (drop n digits), all)

-- a front that is too large already makes no number
pub number_too_large : (most : ℕ) (digits : List ℕ) (n : ℕ) → most < decimal (take n digits) → number_of most digits ≡ None
number_too_large most digits n large =
    let high : most < decimal digits = omega (arith, front_below digits n) in
    let no = lt-leb (decimal digits) most high in
    cond-false (is_number digits && leb 1 (decimal digits) && leb (decimal digits) most) (Some (decimal digits)) None (and_right (is_number digits && leb 1 (decimal digits)) (leb (decimal digits) most) no)

pub one_digit_more : (digits : List ℕ) (n : ℕ) → n < length digits → decimal (take (n + 1) digits) ≡ decimal (take n digits) * 10 + (get_or digits n 0 - 48)
one_digit_more digits n within = ap decimal (take_more digits n 0 within) ∙ spelled-append 0 (take n digits) (get_or digits n 0 ∷ [])
