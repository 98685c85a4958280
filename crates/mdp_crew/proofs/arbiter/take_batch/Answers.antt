use Rattle.mdp_crew.proofs.Sending.{batch_sends, batch_stops}
use Rattle.mdp_crew.proofs.arbiter.take_batch.Goals as goal

pub returns-clause-sends : goal.returns-clause-sends
returns-clause-sends g c =
    batch_sends c.args.receiver.now c.take-batch.new.self c.take-batch.result c.args.senders.now c.send_on.new.senders c.args.arbiter.now c.send_on.new.arbiter c.send_on.result
    c.take-batch.ensures c.send_on.ensures.sends

pub returns-clause-stops : goal.returns-clause-stops
returns-clause-stops g c =
    batch_stops c.args.receiver.now c.take-batch.new.self c.take-batch.result c.args.senders.now c.send_on.new.senders c.args.arbiter.now c.send_on.new.arbiter c.send_on.result
    c.take-batch.ensures c.send_on.ensures.stops
