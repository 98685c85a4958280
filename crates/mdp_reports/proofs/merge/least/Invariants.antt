use Rattle.std.proofs.Common.{◌≡◌, ◌≤◌, length, drop}
use Rattle.mdp_reports.specs.Next.{least_of}
use Rattle.mdp_reports.proofs.merge.least.Given as goal

abbrev pub invariant-loop-n : goal.invariant-loop-n
invariant-loop-n l = (l.n ≤ length l.left) × (l.best ≡ least_of l.n (drop l.n l.left))

abbrev pub decreases-loop-n : goal.decreases-loop-n
decreases-loop-n l = l.n
