use Rattle.std.proofs.Common.{◌≤◌, arith}
use Rattle.std.specs.FinMap.{get}
use Rattle.mdp_window.specs.Window.{IsInRange}
use Rattle.mdp_window.proofs.Filled.{count_put, filled_most}
use Rattle.mdp_window.proofs.Places.{none_held, puts_kept}
use Rattle.mdp_window.proofs.ring_window.RingWindowWindow.put.Goals as goal

pub invariant_of-self : goal.invariant_of-self
invariant_of-self g c =
    let old = c.args.self.now in
    let number = c.from-number.result in
    let ring = c.self-2.inside in
    let range : IsInRange old = rw (← c.self.view_is) c.self.invariant.1 in
    let from : old.first ≤ number = rw (← c.self.view_is) c.if-number-self.false in
    let none = none_held c.is_held.result (get old.held number) c.is_held.ensures c.if-is_held.false in
    let puts = puts_kept number c.saturating_sub.result ring.first ring.end ring.places.capacity c.args.item ring.places.items old c.drop_below.new.self
    range from (omega arith) none (omega (arith, c.saturating_sub.ensures, c.capacity.ensures.room)) c.drop_below.ensures c.self-2.view_is (c.self-2.invariant.0, c.self-2.invariant.1, c.self-2.invariant.2) in
    let counted = count_put number ring.first c.args.item ring.places.items old.held (omega (arith, puts.1.2, puts.1.3, range.room_least, from))
    (omega (arith, puts.1.2, puts.1.3, range.room_least, from, c.self-2.invariant.0)) (rw (← c.self-2.view_is) at c.drop_below.ensures.2) none in
    rw (c.fill_place.ensures, c.max-self-inside.ensures) (puts.0.0, puts.0.1, puts.0.2, omega (arith, c.self-2.invariant.3, counted))

pub overflow_add-self : goal.overflow_add-self
overflow_add-self g c =
    let ring = c.self-2.inside in
    omega (arith, c.self-2.invariant.3, filled_most ring.places.items, c.self-2.invariant.0, c.self-2.invariant.1.room_most)

pub returns : goal.returns
returns g c =
    let old = c.args.self.now in
    let number = c.from-number.result in
    let ring = c.self-2.inside in
    let range : IsInRange old = rw (← c.self.view_is) c.self.invariant.1 in
    let from : old.first ≤ number = rw (← c.self.view_is) c.if-number-self.false in
    let none = none_held c.is_held.result (get old.held number) c.is_held.ensures c.if-is_held.false in
    let puts = puts_kept number c.saturating_sub.result ring.first ring.end ring.places.capacity c.args.item ring.places.items old c.drop_below.new.self
    range from (omega arith) none (omega (arith, c.saturating_sub.ensures, c.capacity.ensures.room)) c.drop_below.ensures c.self-2.view_is (c.self-2.invariant.0, c.self-2.invariant.1, c.self-2.invariant.2) in
    rw (← c.number.ensures, ← c.from-number.ensures, c.fill_place.ensures) puts.1
