use Rattle.std.proofs.Common.{◌≡◌, ◌≤◌, ◌-◌, drop, length}
use Rattle.mdp_reports.specs.Reporting.{reports_with_all}
use Rattle.mdp_reports.proofs.Telling.{told_of}
use Rattle.mdp_reports.proofs.event_end.tell_marked.Given as goal

-- what is left to tell makes of the reports what all makes of those at first
abbrev pub invariant-loop-n : goal.invariant-loop-n
invariant-loop-n g l = record {
  inside : l.from ≤ length l.desks;
  told : reports_with_all (told_of l.end (drop l.from l.slots) (drop l.from l.desks)) l.out ≡ reports_with_all (told_of l.end l.slots l.desks) l.initial.out;
}

-- each turn goes behind one mark
abbrev pub decreases-loop-n : goal.decreases-loop-n
decreases-loop-n g l = length l.desks - l.from
