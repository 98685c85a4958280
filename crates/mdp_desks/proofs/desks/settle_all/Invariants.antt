use Rattle.std.proofs.Common.{◌≡◌, ◌≤◌, ◌-◌, ◌++◌, take, drop, map, length}
use Rattle.mdp_desks.specs.Desks.{desk_settled}
use Rattle.mdp_desks.specs.Beside.{marks_of}
use Rattle.mdp_desks.proofs.desks.settle_all.Given as goal

-- the desks so far with the others settled are all of them settled
abbrev pub invariant-loop-n : goal.invariant-loop-n
invariant-loop-n g l = record {
  inside : l.from ≤ length l.desks;
  desks : take l.from l.desks ++ map (desk_settled l.packet) (drop l.from l.desks) ≡ map (desk_settled l.packet) l.initial.desks;
  marks : l.marked ≡ marks_of l.desks;
}

-- each turn goes behind one mark
abbrev pub decreases-loop-n : goal.decreases-loop-n
decreases-loop-n g l = length l.desks - l.from
