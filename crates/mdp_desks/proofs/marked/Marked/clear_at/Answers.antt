use Rattle.std.proofs.Common.{◌≡◌, ◌<◌, ◌+◌, ◌∙◌, List, Bool, false, true, length, get_or, set, ap, sym, subst, arith}
use Rattle.mdp_desks.specs.Beside.{AreWithin, AreClear, marks_in}
use Rattle.mdp_desks.proofs.Searching.{byte_cleared, clear_on, clear_within}
use Rattle.mdp_desks.proofs.marked.Marked.clear_at.Goals as goal

pub invariant_of-self : goal.invariant_of-self
invariant_of-self g c =
    let inside = c.self.inside in
    let slot = c.args.slot in
    let less = subst (λ (ms : List Bool). slot < length ms) (sym c.self.view_is) c.requires in
    let there = ap marks_in c.deref.ensures.value ∙ byte_cleared inside.marks.items slot in
    let next = c.low_from-self-inside.result in
    let clear = subst (λ (ms : List Bool). AreClear (slot + 1) next ms) there c.low_from-self-inside.ensures.clear in
    let first = subst (λ (ms : List Bool). next < inside.high → get_or ms next false ≡ true) there c.low_from-self-inside.ensures.first in
    subst (λ (ms : List Bool). AreWithin next inside.high ms) (sym (byte_cleared inside.marks.items slot))
    (clear_on (marks_in inside.marks.items) inside.low inside.high next slot c.self.invariant less (omega (arith, c.if-slot-self.true)) clear first)

pub invariant_of-self-else-slot-self : goal.invariant_of-self-else-slot-self
invariant_of-self-else-slot-self g c =
    let inside = c.self.inside in
    let slot = c.args.slot in
    let less = subst (λ (ms : List Bool). slot < length ms) (sym c.self.view_is) c.requires in
    subst (λ (ms : List Bool). AreWithin inside.low inside.high ms) (sym (byte_cleared inside.marks.items slot)) (clear_within (marks_in inside.marks.items) inside.low inside.high slot c.self.invariant less (λ same. omega (arith, same, c.if-slot-self.false)))

pub returns-then-slot-self : goal.returns-then-slot-self
returns-then-slot-self g c = byte_cleared c.self.inside.marks.items c.args.slot ∙ ap (λ (ms : List Bool). set ms c.args.slot false) c.self.view_is

pub returns-else-slot-self : goal.returns-else-slot-self
returns-else-slot-self g c = byte_cleared c.self.inside.marks.items c.args.slot ∙ ap (λ (ms : List Bool). set ms c.args.slot false) c.self.view_is
