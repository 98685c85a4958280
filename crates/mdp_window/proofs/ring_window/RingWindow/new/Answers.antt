use Rattle.std.proofs.Common.{arith, refl}
use Rattle.mdp_window.proofs.Places.{held_none, ring_new}
use Rattle.mdp_window.proofs.ring_window.RingWindow.new.Goals as goal

pub invariant_of-result : goal.invariant_of-result
invariant_of-result g c =
    let ring = ring_new c.args.capacity c.requires.least c.requires.most in
    let counts = rw (c.push_empty.ensures.moves, c.in_ok-places.ensures) at c.push_empty.ensures.counts in
    rw (c.push_empty.ensures.moves, c.in_ok-places.ensures) (ring.0, ring.1, ring.2, omega (arith, counts))

pub returns : goal.returns
returns g c = rw (c.push_empty.ensures.moves, c.in_ok-places.ensures, held_none 1 c.args.capacity) refl
