use Rattle.std.proofs.Common.{◌≡◌, ◌<◌, ◌≤◌, ◌-◌, length}
use Rattle.mdp_desks.specs.Beside.{AreAmong, marks_of}
use Rattle.mdp_desks.proofs.Ripening.{AreFound}
use Rattle.mdp_desks.proofs.desks.ripen_all.Given as goal

-- of the desks so far, those that are due before `until` have their marks
abbrev pub invariant-loop-n : goal.invariant-loop-n
invariant-loop-n g l = record {
  inside : l.from ≤ length l.desks;
  many : length l.due ≡ length l.desks;
  only : AreAmong l.due (marks_of l.desks);
  found : AreFound l.from l.until l.due l.desks;
  later : l.packet < l.until;
}

-- each turn goes behind one mark
abbrev pub decreases-loop-n : goal.decreases-loop-n
decreases-loop-n g l = length l.desks - l.from
