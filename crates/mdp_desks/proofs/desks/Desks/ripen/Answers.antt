use Rattle.std.proofs.Common.{List, sym, subst}
use Rattle.mdp_desks.specs.declared.desk.Desk.{Desk}
use Rattle.mdp_desks.specs.Beside.{AreDueBefore}
use Rattle.mdp_desks.proofs.desks.Desks.ripen.Goals as goal

pub ripened-self-inside-requires-clause-due : goal.ripened-self-inside-requires-clause-due
ripened-self-inside-requires-clause-due g c =
    subst (λ (ds : List Desk). AreDueBefore c.self.inside.until c.self.inside.due ds) (sym c.deref.ensures.value) c.self.invariant.1
