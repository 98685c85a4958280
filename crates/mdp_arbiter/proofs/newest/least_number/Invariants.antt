use Rattle.std.proofs.Common.{◌≡◌, drop}
use Rattle.std.specs.Prelude.{fold}
use Rattle.mdp_arbiter.specs.Machine.{lesser, least_last, snapshots_of}
use Rattle.mdp_arbiter.proofs.newest.least_number.Given as goal

abbrev pub invariant-loop-snapshot : goal.invariant-loop-snapshot
invariant-loop-snapshot l = fold lesser l.least (snapshots_of (drop l.snapshot-index l.newest)) ≡ least_last (snapshots_of l.newest)
