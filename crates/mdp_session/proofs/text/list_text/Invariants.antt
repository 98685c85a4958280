use Rattle.std.proofs.Common.{◌≡◌, ◌-◌, ◌≤◌, length, drop}
use Rattle.mdp_session.specs.Listing.{entries_of_text}
use Rattle.mdp_session.proofs.Fronts.{ListsFront}
use Rattle.mdp_session.proofs.text.list_text.Given as goal

abbrev pub invariant-loop-at : goal.invariant-loop-at
invariant-loop-at l = record {
  front : ListsFront (entries_of_text l.text) l.before l.list;
  left : drop l.before (entries_of_text l.text) ≡ entries_of_text (drop l.at l.text);
  few : l.before ≤ l.at;
  inside : l.at ≤ length l.text;
}

abbrev pub decreases-loop-at : goal.decreases-loop-at
decreases-loop-at l = length l.text - l.at
