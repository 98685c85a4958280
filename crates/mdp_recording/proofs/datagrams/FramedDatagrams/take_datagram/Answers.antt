use Rattle.std.proofs.Common.{refl}
use Rattle.mdp_recording.proofs.Framing.{datagram_framed}
use Rattle.mdp_recording.proofs.datagrams.FramedDatagrams.take_datagram.Goals as goal

pub returns : goal.returns
returns g c =
    datagram_framed c.args.feed c.args.number c.args.payload.now c.in_ok-moved.moved c.args.self.now (record c.args.self.now { run = c.take_datagram_with_moves.new.self; notes = c.note_moves.new.notes })
    refl refl c.in_ok-moved.ensures c.in_ok-note_moves.ensures
