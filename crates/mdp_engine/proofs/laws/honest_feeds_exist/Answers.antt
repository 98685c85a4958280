use Rattle.mdp_engine.proofs.HonestFeeds.{law_of_honest_feeds}
use Rattle.mdp_engine.proofs.laws.honest_feeds_exist.Goals as goal

pub returns : goal.returns
returns c = law_of_honest_feeds
