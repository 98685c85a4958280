use Rattle.mdp_pipeline.proofs.HandingOver.{holds_close}
use Rattle.mdp_pipeline.proofs.feed_reader.FeedReader.take.Goals as goal

pub returns-in-None-clause-holds : goal.returns-in-None-clause-holds
returns-in-None-clause-holds g c =
    holds_close c.args.feed c.args.«record».now c.args.self.now c.hold_close.new.self c.hold_close.result c.in-None.ensures c.hold_close.ensures.events c.hold_close.ensures.refusals
