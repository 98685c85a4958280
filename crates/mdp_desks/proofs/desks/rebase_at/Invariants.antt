use Rattle.std.proofs.Common.{◌≡◌, ◌++◌, take, drop, length}
use Rattle.mdp_desks.specs.Desks.{rebased_desks, snapshots_at}
use Rattle.mdp_desks.specs.Beside.{listed_in, marks_of}
use Rattle.mdp_desks.proofs.desks.rebase_at.Given as goal

-- the first desks have their snapshots, and the others are as they were
abbrev pub invariant-loop-n : goal.invariant-loop-n
invariant-loop-n g l = record {
  desks :
      take l.n l.desks ++ rebased_desks (drop l.n (snapshots_at l.slots l.snapshots)) (drop l.n l.desks)
      ≡ rebased_desks (snapshots_at l.slots l.snapshots) l.initial.desks;
  long : length l.desks ≡ length l.initial.desks;
  listed : listed_in l.desks ≡ listed_in l.initial.desks;
  marks : l.marked ≡ marks_of l.desks;
}
