use Rattle.std.proofs.Common.{◌≡◌, ◌≤◌, take}
use Rattle.mdp_capture.specs.Line.{decimal}
use Rattle.mdp_capture.proofs.field.number_of.Given as goal

abbrev pub invariant-loop-digit : goal.invariant-loop-digit
invariant-loop-digit l = (l.number ≡ decimal (take l.digit-index l.field)) × (l.number ≤ l.most)
