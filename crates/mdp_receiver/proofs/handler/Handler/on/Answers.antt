use Rattle.std.proofs.Common.{[], ◌∷◌, subst}
use Rattle.std.specs.Prelude.{OnOk}
use Rattle.mdp_engine.specs.Engine.{View}
use Rattle.mdp_engine.specs.Steps.{event_of}
use Rattle.mdp_receiver.specs.Handling.{GoesOn}
use Rattle.mdp_receiver.proofs.Going.{goes_on}
use Rattle.mdp_receiver.proofs.handler.Handler.on.Goals as goal

pub returns-clause-goes : goal.returns-clause-goes
returns-clause-goes g c =
    subst (λ (v : View). OnOk c.on.result (GoesOn (event_of c.args.event ∷ []) v c.on.new.self)) c.self.view_is
    (goes_on _ _ _ c.on.result c.on.ensures.stands c.on.ensures.takes.channel c.on.ensures.takes.keeps)
