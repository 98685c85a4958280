use Rattle.std.proofs.Common.{map, subst}
use Rattle.std.specs.Prelude.{OnErr}
use Rattle.mdp_arbiter.specs.Accepted.{recovered}
use Rattle.mdp_engine.specs.Engine.{HasBrokenOff}
use Rattle.mdp_receiver.proofs.handler.Handler.take_in.Goals as goal

pub returns-in-Snapshots-clause-begins : goal.returns-in-Snapshots-clause-begins
returns-in-Snapshots-clause-begins g c =
    rw c.in-Snapshots.is (subst (λ xs. OnErr c.recover.result (HasBrokenOff (map recovered xs) c.args.self.now c.recover.new.self)) c.deref.ensures.value c.recover.ensures.begins)
