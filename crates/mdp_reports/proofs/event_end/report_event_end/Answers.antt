use Rattle.std.proofs.Common.{List, [], ap, ◌∙◌}
use Rattle.mdp_desks.specs.declared.desk.Desk.{Desk}
use Rattle.mdp_reports.specs.Reporting.{reports_with_all}
use Rattle.mdp_reports.proofs.Telling.{told_of, all_behind}
use Rattle.mdp_reports.proofs.event_end.report_event_end.Goals as goal

pub returns : goal.returns
returns g c =
    let end = c.args.end in
    let slots = c.args.slots.now in
    c.in_ok-tell_marked.ensures
    ∙ ap (λ (ds : List Desk). reports_with_all (told_of end slots ds) c.begin.new.self) c.as_slice.ensures
    ∙ ap (reports_with_all (told_of end slots c.args.desks.now)) c.in_ok-begin.ensures.begun
    ∙ all_behind end (told_of end slots c.args.desks.now) [] c.args.out.now
