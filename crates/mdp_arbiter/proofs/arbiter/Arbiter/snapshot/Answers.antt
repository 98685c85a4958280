use Rattle.mdp_arbiter.proofs.Standings.{renews_stands}
use Rattle.mdp_arbiter.proofs.arbiter.Arbiter.snapshot.Goals as goal

pub returns-clause-stands : goal.returns-clause-stands
returns-clause-stands g c = λ es s. renews_stands es _ _ _ _ c.renew.ensures s
