-- Reads of numbers, in this crate's words.
use Rattle.std.proofs.Common.{◌≡◌, ℕ, zero, suc, ◌+◌, ◌-◌, ◌≤◌, List, ◌++◌, take, drop, length, slice_index, sym, ap, ◌∙◌, arith, refl}
use Rattle.std.specs.Int.{w32, w64, cast_signed}
use Rattle.std.proofs.lemmas.List.{drop-append-le, length-drop, length-take, take-append-drop, take_rest, get_or_append_left}
use Rattle.byteorder.specs.Endian.{little_from, little_number}
use Rattle.mdp_sbe.specs.Number.{number_at, int32_at, int64_at}

-- a number read of what stands from an offset on is the number at that offset
pub number_at-rest : (offset size : ℕ) (text : List ℕ) → little_number size (take (length text - offset) (drop offset text)) ≡ number_at offset size text
unfolding number_at
number_at-rest offset size text = ap (little_number size) (take_rest text offset)

pub int32_at-rest : (offset : ℕ) (text : List ℕ) → cast_signed w32 (little_number 4 (take (length text - offset) (drop offset text))) ≡ int32_at offset text
unfolding int32_at
int32_at-rest offset text = ap (cast_signed w32) (number_at-rest offset 4 text)

pub int64_at-rest : (offset : ℕ) (text : List ℕ) → cast_signed w64 (little_number 8 (take (length text - offset) (drop offset text))) ≡ int64_at offset text
unfolding int64_at
int64_at-rest offset text = ap (cast_signed w64) (number_at-rest offset 8 text)

little_from-append : (i size : ℕ) (front rest : List ℕ) → i + size ≤ length front → little_from i size (front ++ rest) ≡ little_from i size front
little_from-append i zero front rest inside = refl
little_from-append i (suc size) front rest inside =
    let digit : slice_index (front ++ rest) i ≡ slice_index front i = get_or_append_left front rest 0 i (omega arith) in
    let others = little_from-append (suc i) size front rest (omega arith) in
    cc (digit, others)

-- a number is read of the front alone
pub number_at-append : (offset size : ℕ) (front rest : List ℕ) → offset + size ≤ length front → number_at offset size (front ++ rest) ≡ number_at offset size front
unfolding number_at
number_at-append offset size front rest inside =
    let within : 0 + size ≤ length (drop offset front) = simp length-drop (omega arith) in
    let before : offset ≤ length front = omega arith in
    ap (little_number size) (drop-append-le offset front rest before) ∙ little_from-append 0 size (drop offset front) rest within

pub number_at-take : (offset size most : ℕ) (text : List ℕ) → offset + size ≤ most → most ≤ length text → number_at offset size (take most text) ≡ number_at offset size text
number_at-take offset size most text inside fits =
    let long : offset + size ≤ length (take most text) = omega (arith, length-take most text) in
    sym (number_at-append offset size (take most text) (drop most text) long) ∙ ap (number_at offset size) (take-append-drop most text)
