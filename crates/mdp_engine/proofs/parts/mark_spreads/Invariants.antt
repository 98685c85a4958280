use Rattle.std.proofs.Common.{◌≡◌, ◌≤◌, ◌-◌, length}
use Rattle.mdp_engine.specs.Parts.{lists_in}
use Rattle.mdp_engine.proofs.Noting.{DueBelow}
use Rattle.mdp_engine.proofs.parts.mark_spreads.Given as goal

-- what is part of the spreads by the marks so far is done
abbrev pub invariant-loop-slot : goal.invariant-loop-slot
invariant-loop-slot g l = record {
  inside : l.from ≤ length l.marked;
  long : length l.due ≡ length l.initial.due;
  due : DueBelow l.from l.marked (lists_in l.parts) l.due;
}

-- each turn goes behind one mark
abbrev pub decreases-loop-slot : goal.decreases-loop-slot
decreases-loop-slot g l = length l.marked - l.from
