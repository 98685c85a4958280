-- Digits that spell bytes, and the fields of a line that has them.
use Rattle.std.proofs.Common.{◌≡◌, ℕ, ◌+◌, ◌<◌, ◌≤◌, true, false, eqb, leb, List, [], ◌∷◌, length, take, drop, Result, Ok, Err, Some, None, refl, ap, ◌∙◌, arith, get_or}
use Rattle.std.specs.Prelude.{IsErr}
use Rattle.std.proofs.lemmas.Bool.{cond-true, cond-false, ne_eqb, eq-eqb, le-leb, lt-leb}
use Rattle.std.proofs.lemmas.List.Splits.{slice_split_none}
use Rattle.hex.specs.Hex.{decode_of, decode_pairs, is_hex_digit}
use Rattle.hex.specs.declared.error.FromHexError.{FromHexError}
use Rattle.hex.proofs.HexLemmas.{decode_of-ok}
use Rattle.memchr.specs.Find.{IsFirstByte, is_byte}
use Rattle.mdp_templates.specs.declared.feed.Feed.{Feed}
use Rattle.mdp_capture.specs.Repeats.{IsSkippedFor, Spells}
use Rattle.mdp_capture.specs.Line.{Packet, Skipped, fields, packet, packet_of}
use Rattle.mdp_capture.specs.declared.skip.Skip.TheVariants.{LineForm, Hex, TooLong}
use Rattle.mdp_capture.proofs.Fields.{fields_some, packet_of_more}
use Rattle.mdp_capture.proofs.Splits.{parts_found, parts_none}

digit_no_space : (byte : ℕ) → is_hex_digit byte ≡ true → eqb byte 32 ≡ false
digit_no_space byte is = ne_eqb byte 32 (λ e. let bad = rw e at is in cc bad)

-- digits are one field
one_field : (digits bytes : List ℕ) → decode_of digits ≡ Ok bytes → fields digits ≡ digits ∷ []
one_field digits bytes is =
    let all = (decode_of-ok digits bytes is).1 in
    slice_split_none (λ byte. eqb byte 32) digits (λ i d below. digit_no_space (get_or digits i d) (all i d below))

-- what a line of one field brings
alone : (feed : Feed) (digits : List ℕ) → fields digits ≡ digits ∷ [] → 0 < length digits → packet_of feed (fields digits) ≡ packet feed (decode_of digits)
alone feed digits one some =
    ap (packet_of feed) one ∙ cond-false (eqb (length digits) 0) (Skipped LineForm) (packet feed (decode_of digits)) (ne_eqb (length digits) 0 (λ e. omega arith))

decoded : (feed : Feed) (digits bytes : List ℕ) → decode_of digits ≡ Ok bytes → 0 < length bytes → packet_of feed (fields digits) ≡ packet feed (Ok bytes)
decoded feed digits bytes is some =
    let twice = (decode_of-ok digits bytes is).2 in
    let first : 0 < length digits = omega (arith, twice) in
    alone feed digits (one_field digits bytes is) first ∙ ap (packet feed) is

pub spells : (digits bytes : List ℕ) → decode_of digits ≡ Ok bytes → 0 < length bytes → length bytes ≤ 2048 → Spells digits bytes
spells digits bytes is some short feed =
    decoded feed digits bytes is some ∙ cond-true (leb (length bytes) 2048) (Packet feed bytes) (Skipped TooLong) (le-leb (length bytes) 2048 short)

pub too_long : (digits bytes : List ℕ) → decode_of digits ≡ Ok bytes → 2048 < length bytes → IsSkippedFor digits TooLong
too_long digits bytes is long feed =
    let some : 0 < length bytes = omega arith in
    decoded feed digits bytes is some ∙ cond-false (leb (length bytes) 2048) (Packet feed bytes) (Skipped TooLong) (lt-leb (length bytes) 2048 long)

pub no_digits : (digits bytes : List ℕ) → decode_of digits ≡ Ok bytes → length bytes ≡ 0 → IsSkippedFor digits LineForm
no_digits digits bytes is none feed =
    let twice = (decode_of-ok digits bytes is).2 in
    let empty : length digits ≡ 0 = omega (arith, twice) in
    ap (packet_of feed) (one_field digits bytes is) ∙ cond-true (eqb (length digits) 0) (Skipped LineForm) (packet feed (decode_of digits)) (eq-eqb (length digits) 0 empty)

-- a field too many
pub two_fields : (digits : List ℕ) (k : ℕ) → IsFirstByte (is_byte 32) digits (Some k) → IsSkippedFor digits LineForm
two_fields digits k first feed =
    ap (packet_of feed) (parts_found 32 digits k first) ∙ packet_of_more feed (take k digits) (fields (drop (k + 1) digits)) (fields_some (drop (k + 1) digits))

fault_skips : (feed : Feed) (r : Result (List ℕ) FromHexError) → IsErr r → packet feed r ≡ Skipped Hex
fault_skips feed (Ok bytes) is = cc
fault_skips feed (Err e) is = refl

some_digits : (digits : List ℕ) → IsErr (decode_of digits) → 0 < length digits
unfolding decode_pairs
some_digits [] is = absurd (cc)
some_digits (digit ∷ digits) is = omega arith

-- one field of other bytes
pub bad_digits : (digits : List ℕ) → IsFirstByte (is_byte 32) digits None → IsErr (decode_of digits) → IsSkippedFor digits Hex
bad_digits digits none is feed =
    alone feed digits (parts_none 32 digits none) (some_digits digits is) ∙ fault_skips feed (decode_of digits) is
