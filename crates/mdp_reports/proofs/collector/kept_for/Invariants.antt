use Rattle.std.proofs.Common.{◌≡◌, map, take}
use Rattle.mdp_reports.proofs.collector.kept_for.Given as goal

abbrev pub invariant-loop-instrument : goal.invariant-loop-instrument
invariant-loop-instrument g l = l.kept.items ≡ map (λ _. l.empty) (take l._instrument-index l.listed)
