use Rattle.std.proofs.Common.{List, sym, subst, arith}
use Rattle.mdp_desks.specs.declared.desk.Desk.{Desk}
use Rattle.mdp_desks.specs.Beside.{AreDueAt}
use Rattle.mdp_engine.specs.Parts.{AreDue, AreSilent, IsPart, lists_in}
use Rattle.mdp_engine.specs.Spreads.{spread_line}
use Rattle.mdp_engine.proofs.Noting.{all_silent, desks_silent, quiet_of}
use Rattle.mdp_engine.proofs.audited_desks.AuditedDesks.put_spreads.Goals as goal

pub mark_spreads-requires-clause-within : goal.mark_spreads-requires-clause-within
mark_spreads-requires-clause-within g c slot n part =
    let below = c.self.invariant.parts_are.within slot n (subst (λ ls. IsPart (lists_in ls) slot n) c.deref.ensures.value part) in
    omega (arith, below, c.self.invariant.many)

pub put_due_audits-requires-clause-silent : goal.put_due_audits-requires-clause-silent
put_due_audits-requires-clause-silent g c =
    let inside = c.self.inside in
    let ds = c.as_slice.result.now in
    let line = spread_line c.args.end ds in
    let marks = c.due_at.result.now in
    let due = c.mark_spreads.new.due in
    let at = subst (λ (xs : List Desk). AreDueAt c.args.end.packet marks xs) (sym c.as_slice.ensures) c.due_at.ensures in
    let marked = subst (λ ls. AreDue marks (lists_in ls) due) c.deref.ensures.value c.mark_spreads.ensures.due in
    let quiet = quiet_of marks _ inside.spreads.items (lists_in inside.parts.items) due c.self.invariant.parts_are marked in
    subst (λ ss. AreSilent line ss due) (sym c.deref-2.ensures.value) (all_silent line inside.spreads.items marks due (desks_silent c.args.end ds marks at) quiet)
