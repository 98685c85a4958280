use Rattle.mdp_templates.proofs.Fits.{FitSoFar}
use Rattle.mdp_templates.proofs.instrument.are_fit.Given as goal

abbrev pub invariant-loop-place : goal.invariant-loop-place
invariant-loop-place l = FitSoFar l.instruments l.place
