use Rattle.mdp_templates.proofs.Framed.{framed_packet, packet_of_framed, framed_snapshots, snapshots_of_framed}
use Rattle.mdp_templates.proofs.laws.datagrams_are_framed.Goals as goal

pub returns-clause-packet : goal.returns-clause-packet
returns-clause-packet c = λ text value. (framed_packet text value, packet_of_framed text value)

pub returns-clause-snapshots : goal.returns-clause-snapshots
returns-clause-snapshots c = λ text values. (framed_snapshots text values, snapshots_of_framed text values)
