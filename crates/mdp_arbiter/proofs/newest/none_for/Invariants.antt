use Rattle.std.proofs.Common.{◌≡◌, take, map}
use Rattle.std.specs.Prelude.{None}
use Rattle.mdp_arbiter.proofs.newest.none_for.Given as goal

abbrev pub invariant-loop-instrument : goal.invariant-loop-instrument
invariant-loop-instrument g l = l.none.items ≡ map (λ _. None) (take l._instrument-index l.instruments)
