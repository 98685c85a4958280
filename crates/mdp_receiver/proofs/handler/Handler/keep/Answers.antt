use Rattle.std.proofs.Common.{subst}
use Rattle.mdp_receiver.specs.Said.{IsSaid, kind_of, said_of}
use Rattle.mdp_receiver.proofs.Copying.{packet_of}
use Rattle.mdp_receiver.proofs.handler.Handler.keep.Goals as goal

pub keep-requires : goal.keep-requires
keep-requires g c =
    let said = subst (λ d. IsSaid (kind_of c.args.feed) c.args.bytes.now (said_of d)) c.in-Packet.is c.requires in
    rw c.number.ensures (packet_of c.args.feed c.args.bytes.now c.in-Packet.packet said)
