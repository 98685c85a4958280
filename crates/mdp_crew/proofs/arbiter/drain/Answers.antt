use Rattle.std.proofs.Common.{[], ◌∷◌}
use Rattle.mdp_crew.proofs.Sending.{takes_more}
use Rattle.mdp_crew.proofs.arbiter.drain.Goals as goal

pub loop-preserved : goal.loop-preserved
loop-preserved g c =
    record { takes = takes_more c.args.receiver.now c.loop.receiver c.take.new.self c.loop.invariant.takes (c.take.result ∷ [], c.take.ensures) }
