use Rattle.std.proofs.Common.{map}
use Rattle.mdp_arbiter.specs.Arbiter.{steps_left}
use Rattle.mdp_arbiter.specs.OwnedMoves.{move_of}
use Rattle.mdp_crew.proofs.Making.{MovesTo}
use Rattle.mdp_crew.proofs.feeding.make_moves.Given as goal

-- the steps so far were the possible moves, and are appended
abbrev pub invariant-loop-step : goal.invariant-loop-step
invariant-loop-step g l = MovesTo l.initial.arbiter l.arbiter (map move_of l.initial.owned_moves.items) (map move_of l.owned_moves.items)

-- each step leaves fewer
abbrev pub decreases-loop-step : goal.decreases-loop-step
decreases-loop-step g l = steps_left l.arbiter
