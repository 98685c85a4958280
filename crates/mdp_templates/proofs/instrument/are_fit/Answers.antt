use Rattle.std.proofs.Common.{◌<◌, length, sym, ◌∙◌, refl, arith}
use Rattle.std.proofs.lemmas.Bool.Decides.{nat_tests}
use Rattle.mdp_templates.proofs.Fits.{fit, fits_at}
use Rattle.mdp_templates.proofs.instrument.are_fit.Goals as goal

pub returns-then-not-fits_after : goal.returns-then-not-fits_after
returns-then-not-fits_after c =
    let item = c.index-instruments-place in (
      λ is. absurd (cc),
      λ fits. let at = fits_at c.args.instruments.now c.loop-place.place item.result c.loop-place-test.true fits in sym c.if-not-fits_after.true ∙ c.fits_after.ensures.1 (rw item.is at),
    )

pub returns : goal.returns
returns c = (λ _. let some : 0 < length c.args.instruments.now = grind (arith, nat_tests) in fit c.args.instruments.now some c.if-instruments-gt-MOST_INSTRUMENTS.false (λ k d below. c.loop-place.invariant k d (omega arith)), λ _. refl)
