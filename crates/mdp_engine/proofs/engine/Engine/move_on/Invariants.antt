use Rattle.std.proofs.Common.{◌≡◌}
use Rattle.mdp_arbiter.specs.Arbiter.{steps_left}
use Rattle.mdp_print.specs.Pieces.{BeginsWith}
use Rattle.mdp_engine.proofs.Moving.{MovesTo}
use Rattle.mdp_engine.proofs.engine.Engine.move_on.Given as goal

-- the steps so far were the possible moves, and are shown
abbrev pub invariant-loop-step : goal.invariant-loop-step
invariant-loop-step g l = record {
  moves : MovesTo l.initial.self l.self;
  channel : l.self.arbiter.channel ≡ l.initial.self.arbiter.channel;
  keeps : l.self.keeps_lines ≡ l.initial.self.keeps_lines;
  sound : l.self.has_failed ≡ l.initial.self.has_failed;
  front : BeginsWith l.self.held l.initial.self.held;
}

-- each step leaves fewer
abbrev pub decreases-loop-step : goal.decreases-loop-step
decreases-loop-step g l = steps_left l.self.arbiter
