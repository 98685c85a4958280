use Rattle.std.proofs.Common.{arith}
use Rattle.mdp_window.proofs.Places.{IsRing, moves_empty, moves_up}
use Rattle.mdp_window.proofs.ring_window.RingWindowWindow.drop_below.Goals as goal
use Rattle.mdp_window.proofs.ring_window.RingWindowWindow.drop_below.Goals.{then-self, else-self}

pub invariant_of-self : goal.invariant_of-self
invariant_of-self g c =
    let ring = c.self.inside in
    let room = ring.places.capacity in
    let before : IsRing ring.first ring.end room ring.places.items = (c.self.invariant.0, c.self.invariant.1, c.self.invariant.2) in
    elim c.if-self.branch [
      | then-self w ↦
          let moves = moves_up ring.first c.args.number ring.end room w.min-steps.result ring.places.items before c.if-self-number.false c.requires
          (omega (arith, w.min-steps.ensures, w.capacity-room.ensures.capacity)) in
          let counted = rw w.push_empty.ensures.moves at w.push_empty.ensures.counts in
          rw (w.self-inside-is, w.push_empty.ensures.moves) (moves.0.0, moves.0.1, moves.0.2, omega (arith, c.self.invariant.3, counted))
      | else-self w ↦
          let moves = moves_empty ring.first c.args.number ring.end room ring.places.items before c.if-self-number.false c.requires w.if-self.false in
          rw w.self-inside-is (moves.0.0, moves.0.1, moves.0.2, c.self.invariant.3)
    ]

pub returns : goal.returns
returns g c =
    let ring = c.self.inside in
    let room = ring.places.capacity in
    let before : IsRing ring.first ring.end room ring.places.items = (c.self.invariant.0, c.self.invariant.1, c.self.invariant.2) in
    elim c.if-self.branch [
      | then-self w ↦
          let moves = moves_up ring.first c.args.number ring.end room w.min-steps.result ring.places.items before c.if-self-number.false c.requires
          (omega (arith, w.min-steps.ensures, w.capacity-room.ensures.capacity)) in
          rw (← c.self.view_is, w.self-inside-is, w.push_empty.ensures.moves) moves.1
      | else-self w ↦
          rw (← c.self.view_is, w.self-inside-is)
          (moves_empty ring.first c.args.number ring.end room ring.places.items before c.if-self-number.false c.requires w.if-self.false).1
    ]
