use Rattle.std.proofs.Common.{◌≤◌, ◌-◌, length}
use Rattle.mdp_desks.specs.Beside.{all_due_at}
use Rattle.mdp_desks.proofs.Printing.{AreMarkedTo}
use Rattle.mdp_desks.proofs.desks.mark_due_printed.Given as goal

-- the marks of the desks that are due so far are set
abbrev pub invariant-loop-n : goal.invariant-loop-n
invariant-loop-n g l = record {
  inside : l.from ≤ length l.desks;
  marked : AreMarkedTo l.initial.changed l.changed (all_due_at l.packet l.desks) l.from;
}

-- each turn goes behind one mark
abbrev pub decreases-loop-n : goal.decreases-loop-n
decreases-loop-n g l = length l.desks - l.from
