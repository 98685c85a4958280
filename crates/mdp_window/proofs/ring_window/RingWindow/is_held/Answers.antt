use Rattle.std.proofs.Common.{ap, refl, Some, None, sym, ◌∙◌}
use Rattle.std.specs.Option.{option_copied}
use Rattle.mdp_window.proofs.Places.{tells_held}
use Rattle.mdp_window.proofs.ring_window.RingWindow.is_held.Goals as goal

pub returns-in-Some : goal.returns-in-Some
returns-in-Some g c =
    rw (← c.self.view_is) (tells_held c.self.inside.first c.args.number c.self.inside.places.items (Some c.in-Some.place.now) c.is_some.result c.if-number-self.false c.in-Some.ensures (sym c.is_some.ensures))

pub returns-in-None : goal.returns-in-None
returns-in-None g c =
    rw (← c.self.view_is) (tells_held c.self.inside.first c.args.number c.self.inside.places.items None _ c.if-number-self.false (sym (ap option_copied c.in-None.is) ∙ c.get.ensures) refl)
