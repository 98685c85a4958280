use Rattle.std.proofs.Common.{◌≡◌, ◌≢◌, ◌<◌, ℤ, true, cond, List, length, set, Some, refl, sym, ap, subst, ◌∙◌, arith}
use Rattle.std.proofs.lemmas.List.{length-map, get_or-set_same}
use Rattle.std.specs.Prelude.{◌&&◌, nat_lt, slice_get}
use Rattle.std.specs.List.{AllPairs}
use Rattle.mdp_templates.specs.Instrument.{ids_of}
use Rattle.mdp_desks.specs.declared.desk.Desk.{Desk}
use Rattle.mdp_desks.proofs.Passing.{marks_put, depths_kept}
use Rattle.mdp_desks.specs.Beside.{AreDueBefore}
use Rattle.mdp_desks.proofs.Waiting.{due_entered}
use Rattle.mdp_desks.proofs.Hearing.{ids_in, slot_under, one_heard, none_heard, listed_entered}
use Rattle.mdp_desks.proofs.desks.Desks.enter.Goals as goal

pub invariant_of-self : goal.invariant_of-self
invariant_of-self g c =
    let inside = c.self.inside in
    let listed = listed_entered c.args.place c.args.entry.now inside.desks.items c.in-Some.slot c.index_mut.result.now c.index_mut.ensures.value in
    let slot = c.in-Some.slot in
    let at : slice_get (ids_in inside.desks.items) slot ≡ Some c.args.entry.now.security = ap (λ (ids : List ℤ). slice_get ids slot) (sym c.self.invariant.0.same) ∙ c.in-Some.ensures.some in
    let under = slot_under (ids_in inside.desks.items) slot c.args.entry.now.security at in
    let long : length (ids_in inside.desks.items) ≡ length inside.desks.items = simp length-map refl in
    let less : slot < length inside.desks.items = omega (arith, under, long) in
    let same = ap (λ (d : Desk). d.marked) (c.index.ensures ∙ get_or-set_same inside.desks.items slot c.enter.new.self c.index.result.now less) in
    let due = subst (λ (d : Desk). c.mark_due.new.due ≡ cond (nat_lt 0 inside.until && nat_lt d.base c.args.place.packet) (set inside.due slot true) inside.due) (c.index-2.ensures ∙ get_or-set_same inside.desks.items slot c.enter.new.self c.index-2.result.now less ∙ c.enter.ensures) c.mark_due.ensures in (
      record {
        depths = depths_kept _ _ (rw c.enter.ensures listed) c.self.invariant.0.depths;
        same = c.self.invariant.0.same ∙ ap ids_of (sym (rw c.enter.ensures listed));
        differ = c.self.invariant.0.differ;
        marks_are = marks_put inside.desks.items _ _ slot c.enter.new.self _ c.self.invariant.0.marks_are c.put.ensures same;
      },
      subst (λ (d : Desk). AreDueBefore inside.until c.mark_due.new.due (set inside.desks.items slot d)) (sym c.enter.ensures)
          (due_entered inside.until c.args.place c.args.entry.now inside.desks.items inside.due c.mark_due.new.due slot c.index_mut.result.now c.self.invariant.1 less c.index_mut.ensures.value due),
    )

pub returns : goal.returns
returns g c =
    let at : slice_get (ids_in c.self.inside.desks.items) c.in-Some.slot ≡ Some c.args.entry.now.security = ap (λ (ids : List ℤ). slice_get ids c.in-Some.slot) (sym c.self.invariant.0.same) ∙ c.in-Some.ensures.some in
    let differ = subst (λ (ids : List ℤ). AllPairs (λ a b. a ≢ b) ids) c.self.invariant.0.same c.self.invariant.0.differ in
    rw (← c.self.view_is, c.enter.ensures) (one_heard c.args.place c.args.entry.now c.self.inside.desks.items c.in-Some.slot c.index_mut.result.now differ at c.index_mut.ensures.value)

pub returns-in_default : goal.returns-in_default
returns-in_default g c =
    rw (← c.self.view_is) (sym (none_heard c.args.place c.args.entry.now c.self.inside.desks.items (λ slot there. c.in_default.ensures.none slot (ap (λ (ids : List ℤ). slice_get ids slot) c.self.invariant.0.same ∙ there))))
