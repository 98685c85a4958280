use Rattle.mdp_crew.proofs.Sending.{takes_more}
use Rattle.mdp_crew.proofs.arbiter.take_all.Goals as goal

pub loop-preserved : goal.loop-preserved
loop-preserved g c =
    let so_far = c.loop.invariant in
    let one = c.in_ok-take_batch.ensures in
    record {
      takes = takes_more c.args.receiver.now c.loop.receiver c.take_batch.new.receiver so_far.takes one.takes;
      sends = λ channel first start. one.sends channel first (so_far.sends channel first start);
    }

pub returns-in_err-take_batch-clause-takes : goal.returns-in_err-take_batch-clause-takes
returns-in_err-take_batch-clause-takes g c = takes_more c.args.receiver.now c.loop.receiver c.take_batch.new.receiver c.loop.invariant.takes c.in_err-take_batch.ensures.takes
