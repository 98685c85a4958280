use Rattle.std.proofs.Common.{◌≡◌, fold, take}
use Rattle.mdp_lanes.specs.Updates.{with_row}
use Rattle.mdp_lanes.proofs.sheet.give.Given as goal

abbrev pub invariant-loop-slot : goal.invariant-loop-slot
invariant-loop-slot l = l.rows ≡ fold with_row l.fn.rows (take l.slot-index l.pairs)
