use Rattle.mdp_engine.proofs.Marking.{marks_are_the_feeds}
use Rattle.mdp_engine.proofs.laws.marks_are_the_feeds.Goals as goal

pub returns : goal.returns
returns c = marks_are_the_feeds
