use Rattle.std.proofs.Common.{arith, refl}
use Rattle.mdp_window.proofs.Lookups.{range_from, holds_from}
use Rattle.mdp_window.proofs.map_window.MapWindowWindow.drop_below.Goals as goal

pub invariant_of-self : goal.invariant_of-self
invariant_of-self g c = range_from _ _ refl (omega arith) c.requires (holds_from _ _ _ c.drop_lower.ensures) c.self.invariant
