use Rattle.std.proofs.Common.{List, ap, sym, subst, ◌∙◌}
use Rattle.mdp_templates.specs.declared.instrument.Instrument.{Instrument}
use Rattle.mdp_desks.specs.Beside.{listed_in}
use Rattle.mdp_desks.proofs.Hearing.{listed_through}
use Rattle.mdp_engine.specs.Parts.{AreAudited, lists_in}
use Rattle.mdp_engine.proofs.audited_desks.AuditedDesks.hear.Goals as goal

pub invariant_of-self : goal.invariant_of-self
invariant_of-self g c =
    let inside = c.self.inside in
    let listed = ap listed_in c.hear.ensures ∙ listed_through c.args.end.packet c.args.end.message 1 c.args.entries.now inside.desks in
    subst (λ (is : List Instrument). AreAudited is inside.spreads.items (lists_in inside.parts.items) inside.due) (sym listed) c.self.invariant
