use Rattle.mdp_pipeline.proofs.HandingOver.{handed_over_none}
use Rattle.mdp_pipeline.proofs.feed_reader.read_or_stop.Goals as goal

pub returns-then-not-wait : goal.returns-then-not-wait
returns-then-not-wait g c = c.stop.ensures c.args.feed c.args.records.now c.args.sender (handed_over_none c.args.feed c.args.records.now c.args.sender)

pub returns-in-Ok : goal.returns-in-Ok
returns-in-Ok g c = c.finish.ensures c.args.feed c.args.records.now c.args.sender c.in-Ok.ensures.all

pub returns-in-Err : goal.returns-in-Err
returns-in-Err g c = c.stop-in-Err.ensures c.args.feed c.args.records.now c.args.sender c.in-Err.ensures.some
