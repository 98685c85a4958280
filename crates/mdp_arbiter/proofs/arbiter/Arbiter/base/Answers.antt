use Rattle.std.proofs.Common.{◌<◌, ◌∙◌, length, sym, ap, subst, arith}
use Rattle.std.specs.Prelude.{Some}
use Rattle.mdp_arbiter.specs.Arbiter.{View}
use Rattle.mdp_arbiter.proofs.Bases.{base_at}
use Rattle.mdp_arbiter.proofs.arbiter.Arbiter.base.Goals as goal

pub returns : goal.returns
returns g c =
    let inside = c.self.inside in
    let slot = c.args.slot in
    let under : slot < length inside.slots = subst (λ (v : View). slot < length v.channel.ids) (sym c.self.view_is) c.requires in
    let less : slot < length inside.newest.items = omega (arith, under, c.self.invariant.8) in
    let short : slot < length inside.bases.items = omega (arith, under, c.self.invariant.9) in
    rw (← c.self.view_is) (base_at inside.newest.items inside.bases.items slot _ _ less short c.index-2.ensures c.index.ensures ∙ ap (λ o. Some o) (sym c.among.ensures))
