use Rattle.std.proofs.Common.{◌≡◌, ℕ, List, length, map, drop, refl, sym, ap, subst, ◌∙◌, arith}
use Rattle.std.proofs.lemmas.List.{take_at, length-map}
use Rattle.mdp_desks.proofs.Passing.{depths_kept}
use Rattle.mdp_templates.specs.Instrument.{ids_of}
use Rattle.mdp_desks.specs.declared.desk.Desk.{Desk}
use Rattle.mdp_desks.specs.Desks.{desk_settled}
use Rattle.mdp_desks.specs.Beside.{listed_in, AreBeside, AreDueBefore}
use Rattle.mdp_desks.proofs.Hearing.{listed_settled}
use Rattle.mdp_desks.proofs.Waiting.{none_waits}
use Rattle.mdp_desks.proofs.desks.Desks.settle.Goals as goal

pub invariant_of-self : goal.invariant_of-self
invariant_of-self g c =
    let inside = c.self.inside in
    let after = c.settle_all.new.desks in
    let is : after ≡ map (desk_settled c.args.packet) inside.desks.items = c.settle_all.ensures.desks ∙ ap (map (desk_settled c.args.packet)) c.deref_mut.ensures.value in
    let many : length after ≡ length inside.desks.items = ap length is ∙ simp length-map refl in
    let long : length after ≡ inside.desks.len = ap length c.settle_all.ensures.desks ∙ simp length-map c.deref_mut.ensures.len in
    let kept = take_at after (drop (length after) inside.desks.items) inside.desks.len long in
    let listed : listed_in after ≡ listed_in inside.desks.items = ap listed_in is ∙ listed_settled c.args.packet inside.desks.items in
    let none : 0 ≡ inside.until = omega (arith, c.if-self-eq0.true) in
    let due = subst (λ (n : ℕ). AreDueBefore n inside.due after) none (none_waits after inside.due (c.self.invariant.1.many ∙ sym many) (c.self.invariant.1.none (sym none))) in
    subst (λ (ds : List Desk). AreBeside ds inside.slots c.settle_all.new.marked × AreDueBefore inside.until inside.due ds) (sym kept)
    (record { same = c.self.invariant.0.same ∙ ap ids_of (sym listed); differ = c.self.invariant.0.differ; marks_are = c.settle_all.ensures.marks; depths = depths_kept _ _ listed c.self.invariant.0.depths }, due)

pub invariant_of-self-2 : goal.invariant_of-self-2
invariant_of-self-2 g c =
    let inside = c.self.inside in
    let after = c.settle_waiting-self-inside.new.desks in
    let is : after ≡ map (desk_settled c.args.packet) inside.desks.items = c.settle_waiting-self-inside.ensures.desks ∙ ap (map (desk_settled c.args.packet)) c.deref_mut-2.ensures.value in
    let long : length after ≡ inside.desks.len = ap length c.settle_waiting-self-inside.ensures.desks ∙ simp length-map c.deref_mut-2.ensures.len in
    let kept = take_at after (drop (length after) inside.desks.items) inside.desks.len long in
    let listed : listed_in after ≡ listed_in inside.desks.items = ap listed_in is ∙ listed_settled c.args.packet inside.desks.items in
    subst (λ (ds : List Desk). AreBeside ds inside.slots c.settle_waiting-self-inside.new.marked × AreDueBefore c.settle_waiting-self-inside.result c.settle_waiting-self-inside.new.due ds) (sym kept)
    (record { same = c.self.invariant.0.same ∙ ap ids_of (sym listed); differ = c.self.invariant.0.differ; marks_are = c.settle_waiting-self-inside.ensures.marks; depths = depths_kept _ _ listed c.self.invariant.0.depths }, c.settle_waiting-self-inside.ensures.due)
