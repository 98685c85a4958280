use Rattle.std.proofs.Common.{◌≡◌, drop}
use Rattle.std.specs.Prelude.{fold}
use Rattle.mdp_arbiter.specs.Bases.{bases_of}
use Rattle.mdp_arbiter.specs.Machine.{lesser, least_last, snapshots_of}
use Rattle.mdp_arbiter.proofs.base.least_base.Given as goal

-- the least of the snapshots so far, with those that are left, is the least of all
abbrev pub invariant-loop-slot : goal.invariant-loop-slot
invariant-loop-slot l =
    fold lesser l.least (snapshots_of (bases_of (drop l.slot l.newest) (drop l.slot l.bases))) ≡ least_last (snapshots_of (bases_of l.newest l.bases))
