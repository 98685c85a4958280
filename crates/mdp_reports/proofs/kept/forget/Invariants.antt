use Rattle.std.proofs.Common.{◌≡◌, ◌++◌, map, take, drop}
use Rattle.std.specs.Prelude.{None}
use Rattle.mdp_reports.proofs.kept.forget.Given as goal

abbrev pub invariant-loop-n : goal.invariant-loop-n
invariant-loop-n l = l.kept ≡ map (λ _. None) (take l.n l.fn.kept) ++ drop l.n l.fn.kept
