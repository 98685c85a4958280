use Rattle.std.proofs.Common.{sym, subst, arith}
use Rattle.mdp_reports.specs.Flat.{AreFlat}
use Rattle.mdp_reports.proofs.Flatting.{begun_flat}
use Rattle.mdp_reports.proofs.reports.Reports.begin.Goals as goal

pub invariant_of-self-2 : goal.invariant_of-self-2
invariant_of-self-2 g c = subst (λ ms. AreFlat c.self.inside.bytes.items c.self.inside.rows.items ms) (sym c.in_ok-push.ensures.items) (begun_flat c.self.inside.bytes.items c.self.inside.rows.items c.self.inside.places.items c.args.end _ (omega arith) c.self.invariant)
