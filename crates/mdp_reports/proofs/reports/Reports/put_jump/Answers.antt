use Rattle.std.proofs.Common.{sym, subst}
use Rattle.mdp_reports.specs.Flat.{AreFlat}
use Rattle.mdp_reports.proofs.Flatting.{jumped_flat}
use Rattle.mdp_reports.proofs.reports.Reports.put_jump.Goals as goal

pub invariant_of-self-2 : goal.invariant_of-self-2
invariant_of-self-2 g c = subst (λ ms. AreFlat c.self.inside.bytes.items c.self.inside.rows.items ms) (sym c.in_ok-push.ensures.items) (jumped_flat c.self.inside.bytes.items c.self.inside.rows.items c.self.inside.places.items c.args.old c.args.new c.self.invariant)
