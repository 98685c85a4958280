use Rattle.std.proofs.Common.{get_or, arith}
use Rattle.std.proofs.lemmas.Simd.{Each1-get_or}
use Rattle.mdp_capture.proofs.Values.{lane_at, lane_is_value}
use Rattle.mdp_capture.proofs.lanes.values_of.Goals as goal

pub returns : goal.returns
returns c i under =
    let digits = c.args.digits in
    let fits = Each1-get_or _ digits i 0 (omega (arith, c.fits-digits.0)) c.fits-digits.1 in
    rw (lane_at 16 digits i c.fits-digits.0 under) (lane_is_value (get_or digits i 0) fits.fits)
