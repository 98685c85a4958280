use Rattle.std.proofs.lemmas.Int.{to_z-of_z}
use Rattle.mdp_templates.proofs.Places.{some_slot, only_slot, no_slot}
use Rattle.mdp_templates.proofs.slots.Slots.slot_of.Goals as goal

pub returns-clause-some : goal.returns-clause-some
returns-clause-some g c = rw (← c.self.view_is) (some_slot _ _ _ (rw (to_z-of_z _ _ c.ranges.id) at c.get_index_of.ensures.index))

pub returns-clause-only : goal.returns-clause-only
returns-clause-only g c = rw (← c.self.view_is) (only_slot _ _ _ c.self.invariant (rw (to_z-of_z _ _ c.ranges.id) at c.get_index_of.ensures.index))

pub returns-clause-none : goal.returns-clause-none
returns-clause-none g c = rw (← c.self.view_is) (no_slot _ _ _ (rw (to_z-of_z _ _ c.ranges.id) at c.get_index_of.ensures.index))
