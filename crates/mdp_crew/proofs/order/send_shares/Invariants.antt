use Rattle.std.proofs.Common.{◌≡◌, [], ◌∷◌, ◌-◌, length, replicate}
use Rattle.mdp_crew.specs.declared.order.Order.TheVariants.{Take}
use Rattle.mdp_crew.specs.Orders.{and_sent}
use Rattle.mdp_crew.proofs.Mapped.{mapped}
use Rattle.mdp_crew.proofs.order.send_shares.Given as goal

-- the first lanes have theirs, and there is a share for each of the others
abbrev pub invariant-loop-sender : goal.invariant-loop-sender
invariant-loop-sender g l = record {
  senders : l.senders ≡ mapped (and_sent (Take l.moves ∷ [])) l.sender-index l.fn.senders;
  shares : l.shares.items ≡ replicate (length l.fn.senders - l.sender-index) l.moves;
}
