use Rattle.std.proofs.Common.{[], ◌∷◌, subst}
use Rattle.std.specs.Prelude.{OnOk}
use Rattle.mdp_arbiter.specs.Accepted.{recovered}
use Rattle.mdp_engine.specs.Engine.{View}
use Rattle.mdp_receiver.specs.Handling.{GoesOn}
use Rattle.mdp_receiver.proofs.Going.{goes_on}
use Rattle.mdp_receiver.proofs.handler.Handler.on_snapshot.Goals as goal

pub returns-clause-goes : goal.returns-clause-goes
returns-clause-goes g c =
    subst (λ (v : View). OnOk c.on_snapshot.result (GoesOn (recovered c.args.snapshot.now ∷ []) v c.on_snapshot.new.self)) c.self.view_is
    (goes_on _ _ _ c.on_snapshot.result c.on_snapshot.ensures.stands c.on_snapshot.ensures.takes.channel c.on_snapshot.ensures.takes.keeps)
