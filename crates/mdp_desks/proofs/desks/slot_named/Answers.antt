use Rattle.std.proofs.Common.{◌≡◌, ◌∙◌, ℤ, List, ap, arith, rules}
use Rattle.std.specs.Prelude.{Some, slice_get}
use Rattle.mdp_desks.proofs.Hearing.{id_at}
use Rattle.mdp_desks.proofs.desks.slot_named.Goals as goal

pub returns-then-desks-at_hand-clause-some : goal.returns-then-desks-at_hand-clause-some
returns-then-desks-at_hand-clause-some g c =
    let same : c.index-desks-at_hand.result.instrument.id ≡ c.args.entry.now.security = search rules in
    ap (λ (ids : List ℤ). slice_get ids c.args.at_hand) c.requires
    ∙ id_at c.args.desks.now c.args.at_hand _ (omega (arith, c.if-at_hand-desks.true)) c.index-desks-at_hand.is
    ∙ ap (λ (id : ℤ). Some id) same
