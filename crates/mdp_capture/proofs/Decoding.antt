-- Bytes that were written in place.
use Rattle.std.proofs.Common.{◌≡◌, List, ℕ, Result, Ok, Err, IsOk, MatchResult, sym, ap}
use Rattle.hex.specs.declared.error.FromHexError.{FromHexError}

-- what decoding in place leaves, where its answer is good
pub written_is : (decoded : Result (List ℕ) FromHexError) (answer : Result Unit FromHexError) (after : List ℕ)
    → MatchResult decoded (λ bytes. (answer ≡ Ok tt) × (after ≡ bytes)) (λ e. answer ≡ Err e) → IsOk answer → decoded ≡ Ok after
written_is (Ok bytes) answer after is good = ap (λ (b : List ℕ). Ok b) (sym is.1)
written_is (Err e) answer after is good = cc (rw is at good)
