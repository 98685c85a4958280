use Rattle.std.proofs.Common.{subst, arith}
use Rattle.std.specs.Prelude.{List}
use Rattle.mdp_desks.specs.declared.desk.Desk.{Desk}
use Rattle.mdp_desks.specs.Beside.{AreDueAt}
use Rattle.mdp_desks.proofs.Waiting.{due_marked}
use Rattle.mdp_desks.proofs.desks.Desks.due_at.Goals as goal

pub returns-then-from-self : goal.returns-then-from-self
returns-then-from-self g c =
    subst (λ (ds : List Desk). AreDueAt c.args.packet c.self.inside.due ds) c.self.view_is (c.self.invariant.1.due c.args.packet (omega (arith, c.if-from-self.true, c.from.ensures)))

pub returns : goal.returns
returns g c = due_marked c.args.packet c.args.self.now c.marked.result.now c.marked.ensures
