use Rattle.std.proofs.Common.{arith, refl, inl, inr}
use Rattle.std.proofs.lemmas.Grind.{common_steps}
use Rattle.mdp_window.proofs.Lookups.{get-tree, holds_also, range_also}
use Rattle.mdp_window.proofs.map_window.MapWindowWindow.put.Goals as goal
use Rattle.mdp_window.proofs.map_window.MapWindowWindow.put.Goals.{then-number-self-via-then-number-self, then-number-self-via-else-number-self+then-contains_key}

pub returns-then-number-self : goal.returns-then-number-self
returns-then-number-self g c = rw (← c.self.view_is) (
  elim c.then-number-self.branch [
    | then-number-self-via-then-number-self w ↦ inl (omega (arith, w.if-number-self.true))
    | then-number-self-via-else-number-self+then-contains_key w ↦ inr (rw (get-tree c.self.inside.items.entries (g.T.Numbered.number c.args.item)) (grind (arith, common_steps, w.contains_key.ensures, w.if-contains_key.true)))
  ],
  refl,
  refl,
)

pub invariant_of-self-2 : goal.invariant_of-self-2
invariant_of-self-2 g c = range_also _ _ c.number-key.result c.args.item refl (omega arith) (omega arith) (grind (arith, c.max-first.ensures, c.saturating_sub.ensures)) (holds_also _ _ _ _ _ _ c.in_default.ensures.updates.0 c.drop_lower.ensures) c.self.invariant

pub returns : goal.returns
returns g c = rw (← c.self.view_is, ← c.number-key.ensures) (
  omega arith,
  rw (get-tree c.self.inside.items.entries c.number-key.result) (grind (arith, common_steps, c.if-contains_key.ensures)),
  grind (arith, c.max-first.ensures, c.saturating_sub.ensures),
  refl,
  holds_also _ _ _ _ _ _ c.in_default.ensures.updates.0 c.drop_lower.ensures,
)
