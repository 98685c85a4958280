use Rattle.std.proofs.Common.{◌≡◌, arith, refl}
use Rattle.std.proofs.lemmas.Grind.{common_steps}
use Rattle.mdp_window.proofs.Lookups.{get-tree, holds_rest, range_from}
use Rattle.mdp_window.proofs.map_window.MapWindowWindow.take_first.Goals as goal

pub invariant_of-self-2 : goal.invariant_of-self-2
invariant_of-self-2 g c =
    let e : c.in-Ok.key ≡ c.self.inside.first = grind (arith, c.try_from.ensures, c.in-Ok.ensures, c.in-Ok.is) in
    range_from _ _ refl (omega arith) (omega (arith, e)) (holds_rest _ _ _ c.self.invariant.none_below (rw (← e) c.remove.ensures.updates.0)) c.self.invariant

pub returns : goal.returns
returns g c =
    let e : c.in-Ok.key ≡ c.self.inside.first = grind (arith, c.try_from.ensures, c.in-Ok.ensures, c.in-Ok.is) in
    rw (← c.self.view_is, ← e) (
      rw (get-tree c.self.inside.items.entries c.in-Ok.key) (grind (arith, common_steps, c.remove.ensures.value, c.in_ok-item.was)),
      refl,
      refl,
      holds_rest _ _ _ (rw e c.self.invariant.none_below) c.remove.ensures.updates.0,
    )
