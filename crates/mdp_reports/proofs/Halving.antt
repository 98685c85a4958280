-- A share of at most half of the moves is at most half.
use Rattle.std.proofs.Common.{◌≤◌, ◌<◌, ◌*◌, ℕ, arith}
use Rattle.std.proofs.Math.Nat.{mul-div-le, le_of_mul-le-mul_left, mul-le-mul_left}
use Rattle.mdp_reports.specs.Recent.{portion_of, up_to_most}

pub share-half : (number moves all : ℕ) → 0 < all → 2 * moves ≤ all → 2 * portion_of number moves all ≤ number
share-half number moves all some half =
    let whole : all * portion_of number moves all ≤ up_to_most (number * moves) = mul-div-le (up_to_most (number * moves)) all in
    let more : number * (2 * moves) ≤ number * all = mul-le-mul_left number half in
    let doubled : all * (2 * portion_of number moves all) ≤ all * number = grind (arith, whole, more) in
    le_of_mul-le-mul_left doubled some
