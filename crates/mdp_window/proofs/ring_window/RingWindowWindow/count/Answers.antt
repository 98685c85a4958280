use Rattle.std.proofs.Common.{ap, ◌∙◌}
use Rattle.mdp_window.specs.Ring.{held_from}
use Rattle.mdp_window.specs.Window.{count_held}
use Rattle.mdp_window.proofs.Filled.{count_places}
use Rattle.mdp_window.proofs.ring_window.RingWindowWindow.count.Goals as goal

pub returns : goal.returns
returns g c =
    let ring = c.self.inside in
    rw (← c.self.view_is)
    (c.self.invariant.3 ∙ count_places ring.places.items ring.first ∙ ap (count_held (held_from ring.first ring.places.items) ring.first) c.self.invariant.0)
