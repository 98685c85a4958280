use Rattle.std.proofs.Common.{ℕ, ◌<◌, get_or, arith, eqb-true}
use Rattle.std.proofs.lemmas.Simd.{Each1-get_or}
use Rattle.mdp_capture.proofs.Values.{both_small, nothing_at}
use Rattle.mdp_capture.proofs.lanes.are_below_16.Goals as goal

pub returns : goal.returns
returns c none =
    let first = c.args.first in
    let second = c.args.second in
    let at = (nothing_at 16 0 first second c.fits-first.0 c.fits-second.0 (eqb-true _ _ none)).1 in
    let both : (i : ℕ) → i < 16 → (get_or first i 0 < 16) × (get_or second i 0 < 16) = λ i under.
    let one = Each1-get_or _ first i 0 (omega (arith, c.fits-first.0)) c.fits-first.1 in
    let two = Each1-get_or _ second i 0 (omega (arith, c.fits-second.0)) c.fits-second.1 in
    both_small (get_or first i 0) (get_or second i 0) one.fits two.fits (at i under) in
    (λ i under. (both i under).0, λ i under. (both i under).1)
