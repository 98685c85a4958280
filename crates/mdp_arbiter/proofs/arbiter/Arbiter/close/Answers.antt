use Rattle.mdp_arbiter.proofs.Standings.{close_stands}
use Rattle.mdp_arbiter.proofs.arbiter.Arbiter.close.Goals as goal

pub returns-clause-stands : goal.returns-clause-stands
returns-clause-stands g c = rw (← c.self.view_is) (λ es s. close_stands es _ s)
