-- Sixteen lanes of digits: each by itself, and the values that they have.
use Rattle.std.proofs.Common.{◌≡◌, ℕ, zero, suc, ◌+◌, ◌-◌, ◌*◌, ◌/◌, ◌%◌, ◌^◌, ◌<◌, ◌≤◌, Bool, true, cond, eqb, ltb, leb, List, [], ◌∷◌, ◌++◌, map, drop, length, get_or, replicate, bit_and, bit_or, Option, Some, None, refl, sym, ap, ◌∙◌, arith, leb-true, eqb-true}
use Rattle.std.specs.Prelude.{MatchOption}
use Rattle.std.proofs.lemmas.Bool.{agree_below, agree_below_at}
use Rattle.std.proofs.lemmas.Nat.{or_lt, le_or_l, le_or_r}
use Rattle.std.proofs.lemmas.Nat.Bits.{and_high_mask}
use Rattle.std.proofs.lemmas.List.{drop_more, get_or-map}
use Rattle.std.proofs.lemmas.Simd.{get_or-replicate, get_or-zip2, get_or_narrower, get_or_wider}
use lib.Lanes.{Each1, chunk, digits_l, fold_l, number_l, pick_l, sel_l, top, zip2}
use Rattle.hex.specs.Hex.{hex_digit_value}
use Rattle.mdp_capture.specs.Digits.{IsValue, pair_at}

-- what the operations give at a lane
abbrev pub plus : ℕ → ℕ → ℕ
plus a b = (a + b) % 256

abbrev pub less : ℕ → ℕ → ℕ
less a b = (a + (256 - b)) % 256

abbrev pub is_less : ℕ → ℕ → ℕ
is_less a b = cond (ltb a b) 255 0

abbrev pub larger : ℕ → ℕ → ℕ
larger a b = cond (top 7 (is_less a b)) b a

abbrev pub smaller : ℕ → ℕ → ℕ
smaller a b = cond (top 7 (is_less a b)) a b

-- what a lane holds of its digit
abbrev pub lane : ℕ → ℕ
lane digit = smaller (plus (larger (less digit 58) 6) 10) (plus (smaller (less (bit_and digit 223) 65) 245) 10)

-- the same at all lanes
abbrev pub larger_lanes : List ℕ → List ℕ → List ℕ
larger_lanes xs ys = sel_l (map (top 7) (zip2 is_less xs ys)) ys xs

abbrev pub smaller_lanes : List ℕ → List ℕ → List ℕ
smaller_lanes xs ys = sel_l (map (top 7) (zip2 is_less xs ys)) xs ys

abbrev pub decimals : ℕ → List ℕ → List ℕ
decimals n digits = zip2 plus (larger_lanes (zip2 less digits (replicate n 58)) (replicate n 6)) (replicate n 10)

abbrev pub letters : ℕ → List ℕ → List ℕ
letters n digits =
    zip2 plus (smaller_lanes (zip2 less (zip2 bit_and digits (replicate n 223)) (replicate n 65)) (replicate n 245)) (replicate n 10)

pub lane_at : (n : ℕ) (digits : List ℕ) (i : ℕ) → length digits ≡ n → i < n
    → get_or (smaller_lanes (decimals n digits) (letters n digits)) i 0 ≡ lane (get_or digits i 0)
lane_at zero digits i long under = absurd (omega arith)
lane_at (suc n) [] i long under = absurd (omega arith)
lane_at (suc n) (digit ∷ digits) zero long under = refl
lane_at (suc n) (digit ∷ digits) (suc i) long under = lane_at n digits i (omega arith) (omega arith)

-- whether a lane has this value, or 16 and more where there is none
abbrev has : Option ℕ → ℕ → Bool
has (Some value) held = eqb held value
has None held = leb 16 held

has_it : (value : Option ℕ) (held : ℕ) → has value held ≡ true → MatchOption value (16 ≤ held) (λ is. held ≡ is)
has_it (Some value) held is = eqb-true held value is
has_it None held is = leb-true 16 held is

-- each of the 256 bytes
pub lane_is_value : (digit : ℕ) → digit < 256 → IsValue digit (lane digit)
lane_is_value digit under =
    has_it (hex_digit_value digit) (lane digit) (agree_below_at (λ d. has (hex_digit_value d) (lane d)) (λ _. true) 256 digit refl under)

-- a lane below 16 tells that there is a value
pub value_found : (value : Option ℕ) (held : ℕ) → MatchOption value (16 ≤ held) (λ is. held ≡ is) → held < 16 → value ≡ Some held
value_found (Some value) held is under = ap Some (sym is)
value_found None held is under = absurd (omega arith)

-- ---- the test of two vectors

nothing : (a b : ℕ) → bit_or a b ≡ 0 → (a ≡ 0) × (b ≡ 0)
nothing a b none = (omega (arith, le_or_l a b), omega (arith, le_or_r a b))

-- what was joined into nothing was nothing at each lane
pub nothing_at : (n : ℕ) (a : ℕ) (xs ys : List ℕ) → length xs ≡ n → length ys ≡ n
    → fold_l bit_or a (zip2 bit_and (zip2 bit_or xs ys) (replicate n 240)) ≡ 0
    → (a ≡ 0) × ((i : ℕ) → i < n → bit_and (bit_or (get_or xs i 0) (get_or ys i 0)) 240 ≡ 0)
nothing_at zero a [] ys long also none = (none, λ i under. absurd (omega arith))
nothing_at zero a (x ∷ xs) ys long also none = absurd (omega arith)
nothing_at (suc n) a [] ys long also none = absurd (omega arith)
nothing_at (suc n) a (x ∷ xs) [] long also none = absurd (omega arith)
nothing_at (suc n) a (x ∷ xs) (y ∷ ys) long also none =
    let rest = nothing_at n (bit_or a (bit_and (bit_or x y) 240)) xs ys (omega arith) (omega arith) none in
    let both = nothing a (bit_and (bit_or x y) 240) rest.0 in
    (both.0, elim [ zero ↦ λ _. both.1 | suc i ↦ λ under. rest.1 i (omega arith) ])

-- two bytes with none of the upper four bits
pub both_small : (x y : ℕ) → x < 256 → y < 256 → bit_and (bit_or x y) 240 ≡ 0 → (x < 16) × (y < 16)
both_small x y small also none =
    let all = or_lt 8 x y small also in
    let upper : bit_and (bit_or x y) 240 ≡ bit_or x y / 16 * 16 = and_high_mask 8 4 (omega arith) (bit_or x y) all in
    let low : bit_or x y < 16 = omega (arith, upper, none) in
    (omega (arith, low, le_or_l x y), omega (arith, low, le_or_r x y))

-- ---- values put together

-- two neighbours
pub two_at : (i : ℕ) (values : List ℕ) → i + 2 ≤ length values → number_l 256 (chunk i 2 values) ≡ get_or values i 0 + 256 * get_or values (i + 1) 0
two_at i values within =
    let both : drop i values ≡ get_or values i 0 ∷ get_or values (i + 1) 0 ∷ drop (i + 1 + 1) values =
    drop_more values i 0 (omega arith) ∙ ap (λ rest. get_or values i 0 ∷ rest) (drop_more values (i + 1) 0 (omega arith)) in
    rw both (omega arith)

-- each two lanes as one number, and its product
abbrev pub twos : List ℕ → List ℕ
twos values = digits_l 65536 8 (number_l 256 values)

abbrev pub times : ℕ → ℕ → ℕ
times a b = a * b % 65536

abbrev pub products : List ℕ → List ℕ
products values = zip2 times (twos values) (replicate 8 4097)

pub length-digits_l : (p n x : ℕ) → length (digits_l p n x) ≡ n
length-digits_l p zero x = refl
length-digits_l p (suc n) x = ap suc (length-digits_l p n (x / p))

products_fit : (xs ys : List ℕ) → Each1 (λ x. x < 65536) (zip2 times xs ys)
products_fit [] ys = tt
products_fit (x ∷ xs) [] = tt
products_fit (x ∷ xs) (y ∷ ys) = (omega arith, products_fit xs ys)

-- the upper half of a product is the byte
upper_half : (high low : ℕ) → high < 16 → low < 16 → times (high + 256 * low) 4097 / 256 % 256 ≡ 16 * high + low
upper_half high low small also = omega arith

pub pair_in_product : (values : List ℕ) (i : ℕ) → length values ≡ 16 → Each1 (λ x. x < 256) values
    → get_or values (2 * i) 0 < 16 → get_or values (2 * i + 1) 0 < 16 → i < 8
    → get_or (digits_l 256 16 (number_l 65536 (products values))) (2 * i + 1) 0 ≡ pair_at values i
pair_in_product values i long bytes small also under =
    let two = get_or_wider 256 2 65536 8 values i refl bytes under ∙ two_at (2 * i) values (omega arith) in
    let product : get_or (products values) i 0 ≡ times (get_or (twos values) i 0) 4097 =
    get_or-zip2 times (twos values) (replicate 8 4097) i 0 0 0 (omega (arith, length-digits_l 65536 8 (number_l 256 values))) under
    ∙ ap (times (get_or (twos values) i 0)) (get_or-replicate 8 i 4097 0 under) in
    get_or_narrower 65536 2 256 16 (products values) i 1 refl (products_fit (twos values) (replicate 8 4097)) (omega arith) (omega arith)
    ∙ ap (λ x. x / 256 ^ 1 % 256) product ∙ ap (λ x. times x 4097 / 256 ^ 1 % 256) two
    ∙ upper_half (get_or values (2 * i) 0) (get_or values (2 * i + 1) 0) small also

-- the odd places of two lists
pub odd_at : (odd xs ys : List ℕ) (i : ℕ) → length odd ≡ 16 → length xs ≡ 16 → i < 16 → agree_below (λ k. eqb (get_or odd k 0) (2 * k + 1)) (λ _. true) 16 ≡ true
    → get_or (pick_l 0 (xs ++ ys) odd) i 0 ≡ get_or (xs ++ ys) (2 * i + 1) 0
odd_at odd xs ys i long also under all =
    let place = eqb-true (get_or odd i 0) (2 * i + 1) (agree_below_at (λ k. eqb (get_or odd k 0) (2 * k + 1)) (λ _. true) 16 i all under) in
    get_or-map (λ k. get_or (xs ++ ys) k 0) odd i 0 0 (omega (arith, long)) ∙ ap (λ k. get_or (xs ++ ys) k 0) place
