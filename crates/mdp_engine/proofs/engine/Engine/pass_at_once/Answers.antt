use Rattle.mdp_engine.proofs.engine.Engine.pass_at_once.Goals as goal

pub returns-in-Packet-clause-tells : goal.returns-in-Packet-clause-tells
returns-in-Packet-clause-tells g c = rw c.in-Packet.is c.pass_packet.ensures.tells

pub returns-in-Packet-clause-passed : goal.returns-in-Packet-clause-passed
returns-in-Packet-clause-passed g c = rw c.in-Packet.is c.pass_packet.ensures.passed
