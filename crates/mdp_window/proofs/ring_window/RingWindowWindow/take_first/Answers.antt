use Rattle.std.proofs.Common.{◌+◌, ◌++◌, ◌∷◌, [], arith, refl, ap, ◌∙◌, sym, None}
use Rattle.std.specs.Option.{option_flatten}
use Rattle.circular_buffer.specs.Buffer.{keep_last}
use Rattle.mdp_window.proofs.Filled.{count_taken, one_filled}
use Rattle.mdp_window.proofs.Places.{held_first, held_within, gives_up, moves_up, takes_first, ring_view}
use Rattle.mdp_window.proofs.ring_window.RingWindowWindow.take_first.Goals as goal

pub invariant_of-self : goal.invariant_of-self
invariant_of-self g c =
    let ring = c.self.inside in
    let room = ring.places.capacity in
    let range = c.self.invariant.1 in
    let old = ring_view ring.first room ring.places.items in
    let some = rw (← c.self.view_is) at (c.is_held.ensures.0 c.if-not-is_held.false) in
    let moves = moves_up ring.first (ring.first + 1) ring.end room 1 ring.places.items (c.self.invariant.0, c.self.invariant.1, c.self.invariant.2) (omega arith)
    (omega (arith, held_within old ring.first range some)) (omega (arith, range.room_least)) in
    let counted = count_taken room ring.places.items (sym c.self.invariant.0) (rw (held_first ring.first ring.places.items) at some) in
    rw c.push_back.ensures.items (moves.0.0, moves.0.1, moves.0.2, omega (arith, c.self.invariant.3, counted))

pub overflow_sub-self : goal.overflow_sub-self
overflow_sub-self g c =
    let ring = c.self.inside in
    let some = rw (← c.self.view_is) at (c.is_held.ensures.0 c.if-not-is_held.false) in
    omega (arith, c.self.invariant.3, one_filled ring.places.items (rw (held_first ring.first ring.places.items) at some))

pub returns : goal.returns
returns g c =
    let ring = c.self.inside in
    let room = ring.places.capacity in
    let range = c.self.invariant.1 in
    let old = ring_view ring.first room ring.places.items in
    let new = ring_view (ring.first + 1) room (keep_last room (ring.places.items ++ None ∷ [])) in
    let some = rw (← c.self.view_is) at (c.is_held.ensures.0 c.if-not-is_held.false) in
    let moves = moves_up ring.first (ring.first + 1) ring.end room 1 ring.places.items (c.self.invariant.0, c.self.invariant.1, c.self.invariant.2) (omega arith)
    (omega (arith, held_within old ring.first range some)) (omega (arith, range.room_least)) in
    let first = held_first ring.first ring.places.items in
    let gave = c.flatten.ensures ∙ ap option_flatten c.push_back.ensures.value ∙ gives_up room ring.places.items c.self.invariant.0 range.room_least in
    rw (← c.self.view_is, c.push_back.ensures.items) (takes_first old new c.flatten.result some (gave ∙ sym first) refl refl moves.1.2)
