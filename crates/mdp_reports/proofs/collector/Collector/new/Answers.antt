use Rattle.std.proofs.Common.{◌≡◌, length, ap, sym, subst, refl, ◌∙◌, arith}
use Rattle.std.specs.Prelude.{List, All}
use Rattle.std.proofs.lemmas.List.{length-map, length-replicate}
use Rattle.mdp_engine.specs.Spreads.{IsUnder, spreads_from}
use Rattle.mdp_engine.specs.Parts.{AreParts, lists_in}
use Rattle.mdp_engine.specs.declared.spreads.Spread.{Spread}
use Rattle.mdp_engine.proofs.Auditing.{one_under}
use Rattle.mdp_desks.proofs.Hearing.{ids_differ}
use Rattle.mdp_reports.proofs.Marking.{all_under}
use Rattle.mdp_reports.proofs.collector.Collector.new.Goals as goal

pub parts_of-requires : goal.parts_of-requires
parts_of-requires g c =
    let listed = c.args.listed.now in
    let spreads = c.in_ok-spreads.spreads.items in
    let are = c.in_ok-spreads.ensures ∙ ap (λ ids. spreads_from 0 ids listed) c.in_ok-slots.ensures in
    subst (λ (ss : List Spread). All (IsUnder (length listed)) ss) (sym c.deref.ensures.value)
    (λ k d less. one_under (length listed) spreads k d (all_under listed spreads are) less)

pub invariant_of-result : goal.invariant_of-result
invariant_of-result g c =
    let listed = c.args.listed.now in
    let spreads = c.in_ok-spreads.spreads.items in
    let are = c.in_ok-spreads.ensures ∙ ap (λ ids. spreads_from 0 ids listed) c.in_ok-slots.ensures in
    let count : c.len.result ≡ length spreads = omega (arith, c.len.ensures) in
    let due : length c.in_ok-due.due ≡ c.len.result = ap length c.in_ok-due.ensures ∙ simp length-replicate refl in
    let marks : length c.in_ok-marks.marks ≡ length listed = ap length c.in_ok-marks.ensures ∙ simp length-replicate refl in (
      record {
        spreads_are = record { differ = ids_differ listed c.requires; spreads_are = are };
        parts_are = subst (λ (ss : List Spread). AreParts (length listed) (length ss) ss (lists_in c.in_ok-parts.parts.items)) c.deref.ensures.value c.in_ok-parts.ensures;
        many = due ∙ count;
      },
      record { kept_long = ap length c.in_ok-kept.ensures ∙ simp length-map refl; long = marks },
    )
