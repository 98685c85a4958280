use Rattle.std.proofs.Common.{◌≤◌, length}
use Rattle.mdp_capture.specs.Part.{Says, ListDepths, HasBytesIn}
use Rattle.mdp_capture.proofs.part.read_part.Given as goal

abbrev pub invariant-loop-end : goal.invariant-loop-end
invariant-loop-end g l = record {
  says : Says l.text l.lines.items l.rest;
  depths : ListDepths l.lines.items;
  known : HasBytesIn l.lines.items l.last;
  short : length l.rest ≤ length l.text;
}

abbrev pub decreases-loop-end : goal.decreases-loop-end
decreases-loop-end g l = length l.rest
