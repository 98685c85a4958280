use Rattle.mdp_templates.specs.Side.{IsGathered}
use Rattle.mdp_templates.proofs.side.gather.Given as goal

abbrev pub invariant-loop-place : goal.invariant-loop-place
invariant-loop-place g l = IsGathered l.fn.kind l.quotes l.place l.side.items
