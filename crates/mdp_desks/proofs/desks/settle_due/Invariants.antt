use Rattle.std.proofs.Common.{◌≡◌, ◌≤◌, ◌-◌, ◌++◌, ℕ, take, drop, map, length}
use Rattle.mdp_desks.specs.Desks.{desk_settled}
use Rattle.mdp_desks.specs.Beside.{AreDueAt, marks_of}
use Rattle.mdp_desks.proofs.desks.settle_due.Given as goal

-- the desks so far with the others settled are all of them settled, and the marks stay those that are due
abbrev pub invariant-loop-slot : goal.invariant-loop-slot
invariant-loop-slot g l = record {
  inside : l.from ≤ length l.desks;
  desks : take l.from l.desks ++ map (desk_settled l.packet) (drop l.from l.desks) ≡ map (desk_settled l.packet) l.initial.desks;
  many : length l.due ≡ length l.desks;
  marks : l.marked ≡ marks_of l.desks;
  due : (k : ℕ) → AreDueAt k l.initial.due l.initial.desks → AreDueAt k l.due l.desks;
}

-- each turn goes behind one mark
abbrev pub decreases-loop-slot : goal.decreases-loop-slot
decreases-loop-slot g l = length l.desks - l.from
