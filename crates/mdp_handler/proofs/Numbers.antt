-- What is read of an option whose text is a number.
use Rattle.std.proofs.Common.{◌≡◌, ◌<◌, ◌^◌, ℕ, List, Option, Some, None, Result, Ok, Err, ap}
use Rattle.std.specs.Str.Parse.{IsNumeral, ParsesUnsigned, digits_value, without_leading_plus}
use Rattle.clap.specs.Words.{ReadsOne}

-- a numeral that fits is read as its number
pub number_read : (E : Type 0) (G : List ℕ → Result ℕ E → Type 0) (k : ℕ) (text : List ℕ) (r : Option ℕ)
    → ((x : Result ℕ E) → G text x → ParsesUnsigned k 10 text x) → ReadsOne G text r
    → IsNumeral 10 (without_leading_plus text) → digits_value 10 (without_leading_plus text) < 2 ^ k
    → r ≡ Some (digits_value 10 (without_leading_plus text))
number_read E G k text (Some n) only read numeral fits = ap Some ((only (Ok n) read).1)
number_read E G k text None only read numeral fits = absurd (only (Err read.0) read.1 (numeral, fits))
