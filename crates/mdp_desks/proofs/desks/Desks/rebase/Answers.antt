use Rattle.std.proofs.Common.{◌≡◌, List, length, drop, sym, ap, subst, ◌∙◌}
use Rattle.std.proofs.lemmas.List.{take_at}
use Rattle.mdp_templates.specs.Instrument.{ids_of}
use Rattle.mdp_desks.specs.declared.desk.Desk.{Desk}
use Rattle.mdp_desks.specs.Desks.{rebased_desks}
use Rattle.mdp_desks.specs.Beside.{listed_in, AreBeside, AreDueBefore}
use Rattle.mdp_desks.proofs.Hearing.{length_rebased}
use Rattle.mdp_desks.proofs.Waiting.{due_rebased}
use Rattle.mdp_desks.proofs.Passing.{depths_kept}
use Rattle.mdp_desks.proofs.Showing.{listed_rebased}
use Rattle.mdp_desks.proofs.desks.Desks.rebase.Goals as goal

pub invariant_of-self : goal.invariant_of-self
invariant_of-self g c =
    let inside = c.self.inside in
    let after = c.rebase_all.new.desks in
    let bases = c.args.bases.now in
    let is : after ≡ rebased_desks bases inside.desks.items = c.rebase_all.ensures.desks ∙ ap (rebased_desks bases) c.deref_mut.ensures.value in
    let long : length after ≡ inside.desks.len = ap length c.rebase_all.ensures.desks ∙ length_rebased bases _ ∙ c.deref_mut.ensures.len in
    let kept = take_at after (drop (length after) inside.desks.items) inside.desks.len long in
    let listed : listed_in after ≡ listed_in inside.desks.items = ap listed_in is ∙ listed_rebased bases inside.desks.items in
    let due = subst (λ (ds : List Desk). AreDueBefore 1 inside.due ds) (sym is) (due_rebased inside.until inside.due bases inside.desks.items c.self.invariant.1) in
    subst (λ (ds : List Desk). AreBeside ds inside.slots c.rebase_all.new.marked × AreDueBefore 1 inside.due ds) (sym kept)
    (record { same = c.self.invariant.0.same ∙ ap ids_of (sym listed); differ = c.self.invariant.0.differ; marks_are = c.rebase_all.ensures.marks; depths = depths_kept _ _ listed c.self.invariant.0.depths }, due)

pub rebase_all-requires-clause-depths : goal.rebase_all-requires-clause-depths
rebase_all-requires-clause-depths g c = depths_kept _ _ (ap listed_in c.deref_mut.ensures.value) c.self.invariant.0.depths
