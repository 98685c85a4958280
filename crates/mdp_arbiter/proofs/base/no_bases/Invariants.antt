use Rattle.std.proofs.Common.{◌≡◌, take, map}
use Rattle.std.specs.Prelude.{None}
use Rattle.mdp_arbiter.specs.declared.base.Base.TheVariants.{Older}
use Rattle.mdp_arbiter.proofs.base.no_bases.Given as goal

abbrev pub invariant-loop-instrument : goal.invariant-loop-instrument
invariant-loop-instrument g l = l.bases.items ≡ map (λ _. Older None) (take l._instrument-index l.instruments)
