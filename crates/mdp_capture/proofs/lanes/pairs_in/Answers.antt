use Rattle.std.proofs.Common.{◌+◌, ◌*◌, arith}
use Rattle.std.proofs.lemmas.Simd.{below_from_Fits}
use lib.Lanes.{number_l}
use Rattle.mdp_capture.proofs.Values.{length-digits_l, pair_in_product, products}
use Rattle.mdp_capture.proofs.lanes.pairs_in.Goals as goal

pub returns-clause-len : goal.returns-clause-len
returns-clause-len c = length-digits_l 256 16 (number_l 65536 (products c.args.values))

pub returns-clause-pairs : goal.returns-clause-pairs
returns-clause-pairs c i under =
    let values = c.args.values in
    pair_in_product values i c.fits-values.0 (below_from_Fits _ values c.fits-values.1) (c.requires (2 * i) (omega arith)) (c.requires (2 * i + 1) (omega arith)) under
