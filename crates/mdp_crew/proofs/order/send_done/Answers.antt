use Rattle.std.proofs.Common.{◌≡◌, ℕ, refl, sym, ap, ◌∙◌, [], ◌∷◌, length, arith}
use Rattle.mdp_crew.specs.declared.order.Order.TheVariants.{Done}
use Rattle.mdp_crew.specs.Orders.{and_sent}
use Rattle.mdp_crew.proofs.Mapped.{mapped, mapped_next, mapped_all}
use Rattle.mdp_crew.proofs.order.send_done.Goals as goal

pub loop-sender-preserved : goal.loop-sender-preserved
loop-sender-preserved g c =
    mapped_next (and_sent (Done ∷ [])) _ _ _ _ _ _ c.loop-sender-test.true c.loop-sender.invariant c.sender-item.is (c.put.ensures ∙ ap (and_sent (Done ∷ [])) (sym c.sender-item.is)) refl

pub returns : goal.returns
returns g c =
    let end : c.loop-sender.sender-index ≡ length c.args.senders.now = omega arith in
    c.loop-sender.invariant ∙ (ap (λ (i : ℕ). mapped (and_sent (Done ∷ [])) i c.args.senders.now) end ∙ mapped_all (and_sent (Done ∷ [])) c.args.senders.now)
