use Rattle.std.proofs.Common.{◌+◌, ◌-◌, ◌<◌}
use Rattle.mdp_capture.specs.Digits.{SpellBetween}
use Rattle.mdp_capture.proofs.lanes.put_lanes.Given as goal

abbrev pub invariant-loop-at : goal.invariant-loop-at
invariant-loop-at l = SpellBetween l.digits l.bytes 0 l.at × (l.at < l.last + 16)

abbrev pub decreases-loop-at : goal.decreases-loop-at
decreases-loop-at l = l.last - l.at
