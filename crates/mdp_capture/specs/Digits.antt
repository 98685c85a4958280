-- Digits in lanes, and the bytes that they spell.
use Rattle.std.specs.Prelude.{ℕ, ◌≡◌, ◌+◌, ◌*◌, ◌/◌, ◌%◌, ◌≤◌, ◌<◌, List, slice_index, Some, MatchOption}
use Rattle.hex.specs.Hex.{hex_digit_value}

-- a lane has a digit's value, or 16 and more where it is no digit
abbrev pub IsValue : ℕ → ℕ → Type 0
IsValue digit value = MatchOption (hex_digit_value digit) (16 ≤ value) (λ is. value ≡ is)

-- each of sixteen lanes has its digit's value
abbrev pub AreValues : List ℕ → List ℕ → Type 0
AreValues digits values = (i : ℕ) → i < 16 → IsValue (slice_index digits i) (slice_index values i)

-- each of sixteen lanes is below 16
abbrev pub AreBelow16 : List ℕ → Type 0
AreBelow16 values = (i : ℕ) → i < 16 → slice_index values i < 16

-- the byte of two values, the first of which counts sixteen times
abbrev pub pair_at : List ℕ → ℕ → ℕ
pair_at values i = 16 * slice_index values (2 * i) + slice_index values (2 * i + 1)

-- two digits spell a byte: the first its upper four bits, the second its lower four
abbrev pub SpellByte : ℕ → ℕ → ℕ → Type 0
SpellByte first second byte =
    (hex_digit_value first ≡ Some (byte / 16)) × (hex_digit_value second ≡ Some (byte % 16))

-- each byte from one place to another is the one that its two digits spell
abbrev pub SpellBetween : List ℕ → List ℕ → ℕ → ℕ → Type 0
SpellBetween digits bytes from to =
    (k : ℕ) → from ≤ k → k < to → SpellByte (slice_index digits (2 * k)) (slice_index digits (2 * k + 1))
    (slice_index bytes k)
