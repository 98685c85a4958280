use Rattle.std.proofs.Common.{◌≡◌, ℕ, List, refl, sym, ap, ◌∙◌, [], ◌∷◌, length, arith}
use Rattle.mdp_arbiter.specs.Machine.{Move}
use Rattle.mdp_crew.specs.declared.order.Order.TheVariants.{Take}
use Rattle.mdp_crew.specs.Orders.{and_sent}
use Rattle.mdp_crew.proofs.Mapped.{mapped, mapped_next, mapped_all}
use Rattle.mdp_crew.proofs.Sharing.{next_share}
use Rattle.mdp_crew.proofs.order.send_shares.Goals as goal

pub loop-sender-preserved : goal.loop-sender-preserved
loop-sender-preserved g c =
    let at = c.loop-sender in
    let moves = c.args.moves.now in
    let next =
    next_share at.shares.items c.pop.new.self.items c.in-Some.share moves (length c.args.senders.now) at.sender-index c.loop-sender-test.true at.invariant.shares c.in-Some.ensures.items in
    let put : c.put.new.self ≡ and_sent (Take c.in-Some.share ∷ []) c.sender-item.result = c.put.ensures ∙ ap (and_sent (Take c.in-Some.share ∷ [])) (sym c.sender-item.is) in
    let given : and_sent (Take c.in-Some.share ∷ []) c.sender-item.result ≡ and_sent (Take moves ∷ []) c.sender-item.result =
    ap (λ (share : List Move). and_sent (Take share ∷ []) c.sender-item.result) next.1 in
    record {
      senders = mapped_next (and_sent (Take moves ∷ [])) _ _ _ _ _ _ c.loop-sender-test.true at.invariant.senders c.sender-item.is (put ∙ given) refl;
      shares = next.0;
    }

pub returns : goal.returns
returns g c =
    let end : c.loop-sender.sender-index ≡ length c.args.senders.now = omega arith in
    let put = and_sent (Take c.args.moves.now ∷ []) in
    c.loop-sender.invariant.senders ∙ (ap (λ (i : ℕ). mapped put i c.args.senders.now) end ∙ mapped_all put c.args.senders.now)
