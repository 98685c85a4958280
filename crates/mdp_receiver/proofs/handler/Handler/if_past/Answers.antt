use Rattle.std.proofs.Common.{◌++◌, [], ◌∷◌, sym, subst}
use Rattle.mdp_engine.specs.Engine.{Stands, View}
use Rattle.mdp_arbiter.specs.Accepted.{came}
use Rattle.mdp_receiver.proofs.handler.Handler.if_past.Goals as goal

pub returns-then-is_past-clause-past : goal.returns-then-is_past-clause-past
returns-then-is_past-clause-past g c = λ listed before gone packet is stands.
    subst (λ (v : View). Stands listed (before ++ came packet ∷ []) gone v) c.self.view_is
    (c.is_past.ensures.stands c.if-is_past.true listed before gone packet is (subst (Stands listed before gone) (sym c.self.view_is) stands))
