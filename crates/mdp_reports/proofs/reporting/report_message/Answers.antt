use Rattle.std.proofs.lemmas.List.{length-map}
use Rattle.std.proofs.Common.{List, [], ◌∷◌, ◌++◌, length, map, ap, sym, ◌∙◌}
use Rattle.mdp_templates.specs.declared.entry.Entry.{Entry}
use Rattle.mdp_desks.specs.declared.desk.Desk.{Desk}
use Rattle.mdp_desks.specs.Desks.{desks_through, desk_settled}
use Rattle.mdp_desks.specs.Reports.{Report, of_event_end, report_by}
use Rattle.mdp_desks.proofs.Hearing.{ended_desks, ended_moment, open_desks}
use Rattle.mdp_reports.proofs.Telling.{told_of, through_long}
use Rattle.mdp_reports.proofs.reporting.report_message.Goals as goal

pub report_event_end-requires : goal.report_event_end-requires
report_event_end-requires g c =
    c.requires ∙ sym (ap length (c.ripen.ensures ∙ c.hear.ensures ∙ ap (λ (es : List Entry). desks_through c.args.end.packet c.args.end.message 1 es c.args.desks.now) c.entries.ensures.items)
    ∙ through_long c.args.end.packet c.args.end.message c.args.taken.now.entries c.args.desks.now)

pub returns-in_ok-report_event_end-clause-desks : goal.returns-in_ok-report_event_end-clause-desks
returns-in_ok-report_event_end-clause-desks g c =
    c.settle.ensures
    ∙ ap (map (desk_settled c.args.end.packet)) (c.ripen.ensures ∙ c.hear.ensures ∙ ap (λ (es : List Entry). desks_through c.args.end.packet c.args.end.message 1 es c.args.desks.now) c.entries.ensures.items)
    ∙ ended_desks c.args.end.packet c.args.end.message c.args.taken.now.entries c.args.desks.now c.args.taken.now.end (sym c.is_end.ensures ∙ c.if-is_end.true)

pub returns-in_ok-report_event_end-clause-reports : goal.returns-in_ok-report_event_end-clause-reports
returns-in_ok-report_event_end-clause-reports g c =
    let k = c.args.end.packet in
    let j = c.args.end.message in
    c.in_ok-report_event_end.ensures
    ∙ ap (λ (ds : List Desk). c.args.out.now ++ of_event_end (record { packet = k; message = j }) (told_of (record { packet = k; message = j }) c.args.slots.now ds) ∷ []) (c.ripen.ensures ∙ c.hear.ensures ∙ ap (λ (es : List Entry). desks_through k j 1 es c.args.desks.now) c.entries.ensures.items)
    ∙ ap (λ (t : List Report). c.args.out.now ++ t) (ap (map (report_by c.args.slots.now)) (ended_moment k j c.args.taken.now.entries c.args.desks.now c.args.taken.now.end (sym c.is_end.ensures ∙ c.if-is_end.true)))

pub returns-else-is_end-clause-desks : goal.returns-else-is_end-clause-desks
returns-else-is_end-clause-desks g c =
    c.hear.ensures
    ∙ ap (λ (es : List Entry). desks_through c.args.end.packet c.args.end.message 1 es c.args.desks.now) c.entries.ensures.items
    ∙ open_desks c.args.end.packet c.args.end.message c.args.taken.now.entries c.args.desks.now c.args.taken.now.end (sym c.is_end.ensures ∙ c.if-is_end.false)

pub returns-in_err-report_event_end-clause-many : goal.returns-in_err-report_event_end-clause-many
returns-in_err-report_event_end-clause-many g c =
    ap length (c.ripen.ensures ∙ c.hear.ensures ∙ ap (λ (es : List Entry). desks_through c.args.end.packet c.args.end.message 1 es c.args.desks.now) c.entries.ensures.items)
    ∙ through_long c.args.end.packet c.args.end.message c.args.taken.now.entries c.args.desks.now

pub returns-in_ok-report_event_end-clause-many : goal.returns-in_ok-report_event_end-clause-many
returns-in_ok-report_event_end-clause-many g c =
    ap length c.settle.ensures
    ∙ length-map _ (desk_settled c.args.end.packet)
    ∙ ap length (c.ripen.ensures ∙ c.hear.ensures ∙ ap (λ (es : List Entry). desks_through c.args.end.packet c.args.end.message 1 es c.args.desks.now) c.entries.ensures.items)
    ∙ through_long c.args.end.packet c.args.end.message c.args.taken.now.entries c.args.desks.now

pub returns-else-is_end-clause-many : goal.returns-else-is_end-clause-many
returns-else-is_end-clause-many g c =
    ap length (c.hear.ensures ∙ ap (λ (es : List Entry). desks_through c.args.end.packet c.args.end.message 1 es c.args.desks.now) c.entries.ensures.items)
    ∙ through_long c.args.end.packet c.args.end.message c.args.taken.now.entries c.args.desks.now
