use Rattle.std.proofs.Common.{◌≡◌, ◌++◌, drop}
use Rattle.mdp_arbiter.specs.Machine.{snapshots_of}
use Rattle.mdp_crew.proofs.feeding.snapshots_in.Given as goal

-- the snapshots so far, and those that are left, are all
abbrev pub invariant-loop-snapshot : goal.invariant-loop-snapshot
invariant-loop-snapshot g l = l.snapshots.items ++ snapshots_of (drop l.snapshot-index l.newest) ≡ snapshots_of l.newest
