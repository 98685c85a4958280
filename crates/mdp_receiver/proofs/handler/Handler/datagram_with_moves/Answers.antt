use Rattle.std.proofs.Common.{◌∙◌, ap, subst, sym}
use Rattle.mdp_arbiter.specs.Arbiter.{is_lost_now}
use Rattle.mdp_arbiter.specs.declared.arbiter.Standing.{Standing}
use Rattle.mdp_receiver.specs.Moved.{MovesAs, moved_told}
use Rattle.mdp_receiver.specs.Said.{brought_by, kind_of}
use Rattle.mdp_receiver.proofs.Moving.{has_moved, same_place}
use Rattle.mdp_receiver.proofs.handler.Handler.datagram_with_moves.Goals as goal

pub returns-clause-taken : goal.returns-clause-taken
returns-clause-taken g c =
    let old = c.args.self.now in
    let new = c.datagram.new.self in
    let taken = c.in_ok-taken.taken in
    let number = c.packet_number.result in
    let says = c.in_ok-taken.ensures.taken in
    let same = same_place c.next.result old.arbiter.next c.lost.result (is_lost_now old.arbiter) c.next.ensures.next c.lost.ensures.now in
    let moved = has_moved (kind_of c.args.feed) c.args.bytes.now says.0 number taken old new says.1 c.packet_number.ensures says.2 in (
      says.0,
      says.1,
      says.2,
      λ listed es gone stands. subst (MovesAs old.arbiter.channel es (brought_by says.0)) (sym (c.moves_since-moved.ensures ∙ ap (λ (p : Standing). moved_told p taken number new.arbiter) same)) (moved listed es gone stands),
    )
