use Rattle.mdp_arbiter.proofs.Standings.{receives_stands}
use Rattle.mdp_arbiter.proofs.arbiter.Arbiter.packet.Goals as goal

pub returns-clause-stands : goal.returns-clause-stands
returns-clause-stands g c = λ es t s. receives_stands _ es _ _ _ _ t c.receive.ensures s
