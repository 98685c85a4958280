-- Little-endian numbers at an offset of a text (SBE 1.0, the encoding of integer types).
use Rattle.std.specs.Prelude.{ℕ, ℤ, List, drop}
use Rattle.std.specs.Int.{w32, w64, cast_signed}
use Rattle.byteorder.specs.Endian.{little_number}

-- the unsigned number in so many bytes of a text from an offset on
unfoldable pub number_at : ℕ → ℕ → List ℕ → ℕ
number_at offset size text = little_number size (drop offset text)

-- the signed numbers of 32 and of 64 bits, in two's complement, from an offset on
unfoldable pub int32_at : ℕ → List ℕ → ℤ
int32_at offset text = cast_signed w32 (number_at offset 4 text)

unfoldable pub int64_at : ℕ → List ℕ → ℤ
int64_at offset text = cast_signed w64 (number_at offset 8 text)
