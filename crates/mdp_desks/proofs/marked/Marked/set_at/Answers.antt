use Rattle.std.proofs.Common.{◌<◌, length, set, true, ap, sym, ◌∙◌, subst}
use Rattle.std.specs.Prelude.{List, Bool}
use Rattle.mdp_desks.specs.Beside.{AreWithin, marks_in}
use Rattle.mdp_desks.proofs.Searching.{byte_set, set_within}
use Rattle.mdp_desks.proofs.marked.Marked.set_at.Goals as goal

pub invariant_of-self : goal.invariant_of-self
invariant_of-self g c =
    let inside = c.self.inside in
    let less = subst (λ (ms : List Bool). c.args.slot < length ms) (sym c.self.view_is) c.requires in
    let wide = c.widened-low.ensures in
    subst (λ (ms : List Bool). AreWithin c.widened-low.result.0 c.widened-low.result.1 ms) (sym (byte_set inside.marks.items c.args.slot))
    (set_within (marks_in inside.marks.items) inside.low inside.high _ _ c.args.slot c.self.invariant less wide.short wide.low wide.high wide.kept wide.first)

pub returns : goal.returns
returns g c = byte_set c.self.inside.marks.items c.args.slot ∙ ap (λ (ms : List Bool). set ms c.args.slot true) c.self.view_is
