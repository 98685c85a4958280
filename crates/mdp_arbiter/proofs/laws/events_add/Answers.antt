use Rattle.mdp_arbiter.proofs.Runs.{law_of_events}
use Rattle.mdp_arbiter.proofs.laws.events_add.Goals as goal

pub returns : goal.returns
returns c = law_of_events
