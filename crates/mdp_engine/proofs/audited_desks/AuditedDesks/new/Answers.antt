use Rattle.std.proofs.Common.{◌≡◌, length, map, ap, sym, subst, refl, ◌∙◌, arith}
use Rattle.mdp_templates.specs.declared.instrument.Instrument.{Instrument}
use Rattle.std.specs.Prelude.{List, ℕ, All, get_or}
use Rattle.std.proofs.lemmas.List.{length-map, length-replicate}
use Rattle.mdp_desks.specs.Beside.{listed_in}
use Rattle.mdp_desks.specs.Desks.{desk_at_start}
use Rattle.mdp_templates.specs.Instrument.{ids_of}
use Rattle.mdp_desks.proofs.Hearing.{start_listed, ids_differ}
use Rattle.mdp_engine.specs.Spreads.{IsUnder, spreads_from}
use Rattle.mdp_engine.specs.Parts.{AreAudited, AreParts, lists_in}
use Rattle.mdp_engine.specs.declared.spreads.Spread.{Spread}
use Rattle.mdp_engine.proofs.Auditing.{under_there}
use Rattle.mdp_engine.proofs.audited_desks.AuditedDesks.new.Goals as goal

pub parts_of-requires : goal.parts_of-requires
parts_of-requires g c =
    let listed = c.args.instruments.now in
    let ds = map desk_at_start listed in
    let spreads = c.in_ok-spreads.spreads.items in
    let slots = c.slots.ensures ∙ ap ids_of (ap listed_in c.in_ok-desks.ensures) in
    let places = c.in_ok-spreads.ensures ∙ ap (λ ids. spreads_from 0 ids listed) slots ∙ ap (spreads_from 0 (ids_of (listed_in ds))) (sym (start_listed listed)) in
    let long : length ds ≡ length listed = simp length-map refl in
    subst (λ (ss : List Spread). All (IsUnder (length listed)) ss) (sym c.deref.ensures.value)
    (λ k d less. subst (λ (n : ℕ). IsUnder n (get_or spreads k d)) long (under_there ds spreads k d places less))

pub invariant_of-result : goal.invariant_of-result
invariant_of-result g c =
    let listed = c.args.instruments.now in
    let spreads = c.in_ok-spreads.spreads.items in
    let are = ap listed_in c.in_ok-desks.ensures ∙ start_listed listed in
    let slots = c.slots.ensures ∙ ap ids_of are in
    let count : c.len.result ≡ length spreads = omega (arith, c.len.ensures) in
    let due : length c.in_ok-due.due ≡ c.len.result = ap length c.in_ok-due.ensures ∙ simp length-replicate refl in
    subst (λ (is : List Instrument). AreAudited is spreads (lists_in c.in_ok-parts.parts.items) c.in_ok-due.due) (sym are)
    (record {
      spreads_are = record { differ = ids_differ listed c.requires.ids_differ; spreads_are = c.in_ok-spreads.ensures ∙ ap (λ ids. spreads_from 0 ids listed) slots };
      parts_are = subst (λ (ss : List Spread). AreParts (length listed) (length ss) ss (lists_in c.in_ok-parts.parts.items)) c.deref.ensures.value c.in_ok-parts.ensures;
      many = due ∙ count;
    })
