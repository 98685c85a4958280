use Rattle.std.proofs.Common.{◌≡◌, [], ◌∷◌}
use Rattle.mdp_crew.specs.declared.order.Order.TheVariants.{Done}
use Rattle.mdp_crew.specs.Orders.{and_sent}
use Rattle.mdp_crew.proofs.Mapped.{mapped}
use Rattle.mdp_crew.proofs.order.send_done.Given as goal

abbrev pub invariant-loop-sender : goal.invariant-loop-sender
invariant-loop-sender g l = l.senders ≡ mapped (and_sent (Done ∷ [])) l.sender-index l.fn.senders
