use Rattle.std.proofs.Common.{◌≡◌, ◌+◌, ◌++◌, ◌∷◌, List, drop, append_assoc, ap, sym, ◌∙◌}
use Rattle.mdp_templates.specs.Packet.{MessageContent}
use Rattle.mdp_templates.proofs.Spanning.{left_from}
use Rattle.mdp_books.specs.Feed.{sent_as, sent_from}
use Rattle.mdp_desks.specs.declared.desk.Desk.{Desk}
use Rattle.std.proofs.lemmas.List.{map-append}
use Rattle.mdp_desks.specs.Desks.{desks_after, desks_moment, passed_desks, passed_moments}
use Rattle.mdp_desks.specs.Reports.{Report, report_by}
use Rattle.mdp_reports.specs.Reporting.{reports_at, reports_passed}
use Rattle.mdp_reports.proofs.reporting.report_packet.Goals as goal

pub loop-n-preserved : goal.loop-n-preserved
loop-n-preserved g c =
    let slots = c.args.slots.now in
    let k = c.number-number.result in
    let n = c.loop-n.n in
    let ms = c.args.packet.now.messages in
    let m = c.message.result in
    let desks = c.loop-n.desks in
    let out = c.loop-n.out in
    let here = sent_as k (n + 1) m in
    let reports = reports_at slots here desks in
    let later = sent_from k (n + 1 + 1) (drop (n + 1) ms) in
    let left : drop n ms ≡ m ∷ drop (n + 1) ms = left_from ms n m c.message.ensures in
    record {
      many = c.loop-n.invariant.many ∙ sym c.report_message.ensures.many;
      desks =
          ap (passed_desks later) c.in_ok-report_message.ensures.desks
          ∙ sym (ap (λ (l : List MessageContent). passed_desks (sent_from k (n + 1) l) desks) left)
          ∙ c.loop-n.invariant.desks;
      reports =
          ap (λ (rs : List Report). rs ++ reports_passed slots later c.report_message.new.desks) c.in_ok-report_message.ensures.reports
          ∙ append_assoc out reports (reports_passed slots later c.report_message.new.desks)
          ∙ ap (λ (ds : List Desk). out ++ (reports ++ reports_passed slots later ds)) c.in_ok-report_message.ensures.desks
          ∙ ap (λ (rs : List Report). out ++ rs) (sym (map-append (report_by slots) (desks_moment here desks) (passed_moments later (desks_after here desks))))
          ∙ sym (ap (λ (l : List MessageContent). out ++ reports_passed slots (sent_from k (n + 1) l) desks) left)
          ∙ c.loop-n.invariant.reports;
    }
