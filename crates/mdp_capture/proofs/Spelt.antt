-- Bytes that are spelt one by one are what their digits decode to.
use Rattle.std.proofs.Common.{◌≡◌, ℕ, suc, ◌+◌, ◌-◌, ◌*◌, ◌/◌, ◌%◌, ◌<◌, ◌≤◌, List, [], ◌∷◌, length, get_or, Ok, Some, inl, inr, refl, sym, ap, subst, ◌∙◌, arith}
use Rattle.std.proofs.lemmas.Bool.{cases_lt}
use Rattle.std.proofs.lemmas.Simd.{get_or-chunk, get_or-put_chunk_at}
use lib.Lanes.{chunk, put_chunk}
use Rattle.hex.specs.Hex.{decode_of, decode_pairs, digit_or_error, hex_digit_value, pair_value, value_at}
use Rattle.hex.proofs.HexLemmas.{decode_of-even}
use Rattle.hex.proofs.Pairs.{cons_byte, decode_pairs-ok_pair}
use Rattle.mdp_capture.specs.Digits.{AreBelow16, AreValues, SpellBetween, SpellByte, pair_at}
use Rattle.mdp_capture.proofs.Values.{value_found}

-- two digits and their byte
pair_is : (high low byte i : ℕ) → SpellByte high low byte → pair_value high low i ≡ Ok byte
pair_is high low byte i is =
    let first : value_at high i ≡ Ok (byte / 16) = ap (digit_or_error high i) is.0 in
    let second : value_at low (i + 1) ≡ Ok (byte % 16) = ap (digit_or_error low (i + 1)) is.1 in
    let whole : byte / 16 * 16 + byte % 16 ≡ byte = omega arith in
    let joined : pair_value high low i ≡ Ok (byte / 16 * 16 + byte % 16) = rw (first, second) refl in
    joined ∙ ap (λ (b : ℕ). Ok b) whole

pairs_are : (i : ℕ) (digits bytes : List ℕ) → length digits ≡ 2 * length bytes → SpellBetween digits bytes 0 (length bytes)
    → decode_pairs i digits ≡ Ok bytes
unfolding decode_pairs
pairs_are i [] [] long spelt = refl
pairs_are i [] (byte ∷ bytes) long spelt = absurd (omega arith)
pairs_are i (a ∷ []) bytes long spelt = absurd (omega arith)
pairs_are i (a ∷ b ∷ digits) [] long spelt = absurd (omega arith)
pairs_are i (a ∷ b ∷ digits) (byte ∷ bytes) long spelt =
    let first = pair_is a b byte i (spelt 0 (omega arith) (omega arith)) in
    let later : SpellBetween digits bytes 0 (length bytes) = λ k from to.
    let all = a ∷ b ∷ digits in
    let one : suc (suc (2 * k)) ≡ 2 * suc k = omega arith in
    let two : suc (suc (2 * k + 1)) ≡ 2 * suc k + 1 = omega arith in
    let here = spelt (suc k) (omega arith) (omega arith) in
    (ap (λ n. hex_digit_value (get_or all n 0)) one ∙ here.0, ap (λ n. hex_digit_value (get_or all n 0)) two ∙ here.1) in
    let rest = pairs_are (i + 2) digits bytes (omega arith) later in
    decode_pairs-ok_pair i a b byte digits first ∙ ap (cons_byte byte) rest

-- all bytes of some digits
pub decodes : (digits bytes : List ℕ) → length digits ≡ 2 * length bytes → SpellBetween digits bytes 0 (length bytes) → decode_of digits ≡ Ok bytes
decodes digits bytes long spelt = decode_of-even digits (omega arith) ∙ pairs_are 0 digits bytes long spelt

-- ---- sixteen bytes from their lanes

-- the byte of two neighbouring lanes
lanes_spell : (digits lanes : List ℕ) (start i byte : ℕ) → AreValues (chunk start 16 digits) lanes → AreBelow16 lanes → i < 8 → byte ≡ pair_at lanes i
    → SpellByte (get_or digits (start + 2 * i) 0) (get_or digits (start + (2 * i + 1)) 0) byte
lanes_spell digits lanes start i byte are below under is =
    let small = below (2 * i) (omega arith) in
    let also = below (2 * i + 1) (omega arith) in
    let upper : get_or lanes (2 * i) 0 ≡ byte / 16 = omega (arith, is, small, also) in
    let lower : get_or lanes (2 * i + 1) 0 ≡ byte % 16 = omega (arith, is, small, also) in
    let even : 2 * i < 16 = omega arith in
    let odd : 2 * i + 1 < 16 = omega arith in
    let first = value_found _ _ (are (2 * i) even) small in
    let second = value_found _ _ (are (2 * i + 1) odd) also in (
      ap hex_digit_value (sym (get_or-chunk start 16 digits (2 * i) 0 even)) ∙ first ∙ ap (λ (v : ℕ). Some v) upper,
      ap hex_digit_value (sym (get_or-chunk start 16 digits (2 * i + 1) 0 odd)) ∙ second ∙ ap (λ (v : ℕ). Some v) lower,
    )

-- where the digits of a byte stand, in a load that begins at another place
moved : (digits : List ℕ) (start i k byte : ℕ) → start + 2 * i ≡ 2 * k
    → SpellByte (get_or digits (start + 2 * i) 0) (get_or digits (start + (2 * i + 1)) 0) byte → SpellByte (get_or digits (2 * k) 0) (get_or digits (2 * k + 1) 0) byte
moved digits start i k byte same is =
    let next : start + (2 * i + 1) ≡ 2 * k + 1 = omega (arith, same) in
    (ap (λ n. hex_digit_value (get_or digits n 0)) (sym same) ∙ is.0, ap (λ n. hex_digit_value (get_or digits n 0)) (sym next) ∙ is.1)

pub sixteen_spelt : (digits bytes first second written : List ℕ) (at : ℕ)
    → AreValues (chunk (2 * at) 16 digits) first → AreValues (chunk (2 * at + 16) 16 digits) second → AreBelow16 first × AreBelow16 second
    → length written ≡ 16 → at + 16 ≤ length bytes
    → ((i : ℕ) → i < 8 → get_or written i 0 ≡ pair_at first i) → ((i : ℕ) → i < 8 → get_or written (8 + i) 0 ≡ pair_at second i)
    → SpellBetween digits (put_chunk at bytes written) at (at + 16)
sixteen_spelt digits bytes first second written at one two below long room front back k from to =
    let place : at + (k - at) ≡ k = omega arith in
    let byte : get_or (put_chunk at bytes written) k 0 ≡ get_or written (k - at) 0 =
    ap (λ n. get_or (put_chunk at bytes written) n 0) (sym place) ∙ get_or-put_chunk_at at bytes written (k - at) 0 (omega (arith, long)) (omega (arith, long)) in
    elim (cases_lt (k - at) 8) [
      | inl low ↦
          moved digits (2 * at) (k - at) k _ (omega arith) (lanes_spell digits first (2 * at) (k - at) _ one below.0 low (byte ∙ front (k - at) low))
      | inr high ↦
          let back_place : 8 + (k - at - 8) ≡ k - at = omega arith in
          let there = ap (λ n. get_or written n 0) (sym back_place) ∙ back (k - at - 8) (omega arith) in
          moved digits (2 * at + 16) (k - at - 8) k _ (omega arith) (lanes_spell digits second (2 * at + 16) (k - at - 8) _ two below.1 (omega arith) (byte ∙ there))
    ]

-- what was written before stays, and what follows is spelt too
pub spelt_on : (digits old new : List ℕ) (at last : ℕ) → SpellBetween digits old 0 at → ((k : ℕ) → k < last → get_or new k 0 ≡ get_or old k 0) → last ≤ at
    → SpellBetween digits new last (last + 16) → SpellBetween digits new 0 (last + 16)
spelt_on digits old new at last before same under after k from to =
    elim (cases_lt k last) [
      | inl low ↦ subst (λ byte. SpellByte (get_or digits (2 * k) 0) (get_or digits (2 * k + 1) 0) byte) (sym (same k low)) (before k from (omega arith))
      | inr high ↦ after k (omega arith) to
    ]
