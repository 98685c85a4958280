use Rattle.std.proofs.Common.{◌≡◌, ◌++◌, length}
use Rattle.mdp_reports.specs.Rounds.{kept_after, all_by_slot}
use Rattle.mdp_reports.specs.Steps.{steps_with_told}
use Rattle.mdp_reports.specs.Taking.{lines_told, marks_after}
use Rattle.mdp_reports.proofs.kept.put_all_told.Given as goal

-- what the rows that are left make of what there is, is what all make of what there was
abbrev pub invariant-loop-line : goal.invariant-loop-line
invariant-loop-line g l = record {
  text : l.out.items ++ lines_told (all_by_slot l.left) ≡ l.fn.out.items ++ lines_told (all_by_slot l.fn.left);
  steps : steps_with_told l.end (all_by_slot l.left) l.steps ≡ steps_with_told l.end (all_by_slot l.fn.left) l.fn.steps;
  kept : kept_after (all_by_slot l.left) l.kept ≡ kept_after (all_by_slot l.fn.left) l.fn.kept;
  marks : marks_after (all_by_slot l.left) l.marks ≡ marks_after (all_by_slot l.fn.left) l.fn.marks;
  kept_long : length l.kept ≡ length l.fn.kept;
  marks_long : length l.marks ≡ length l.fn.marks;
}

abbrev pub decreases-loop-line : goal.decreases-loop-line
decreases-loop-line g l = length (all_by_slot l.left)
