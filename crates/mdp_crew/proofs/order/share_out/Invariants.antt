use Rattle.std.proofs.Common.{◌≡◌, replicate}
use Rattle.mdp_crew.proofs.order.share_out.Given as goal

abbrev pub invariant-loop : goal.invariant-loop
invariant-loop g l = l.shares.items ≡ replicate l.counter l.moves
