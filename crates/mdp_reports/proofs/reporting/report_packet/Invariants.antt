use Rattle.std.proofs.Common.{◌≡◌, ◌++◌, ◌+◌, drop, length}
use Rattle.mdp_books.specs.Feed.{sent_from}
use Rattle.mdp_desks.specs.Desks.{passed_desks}
use Rattle.mdp_reports.specs.Reporting.{reports_passed}
use Rattle.mdp_reports.proofs.reporting.report_packet.Given as goal

-- the messages that are left make of the desks and the reports what all make of those at first
abbrev pub invariant-loop-n : goal.invariant-loop-n
invariant-loop-n g l = record {
  many : length l.slots ≡ length l.desks;
  desks : passed_desks (sent_from l.number (l.n + 1) (drop l.n l.packet.messages)) l.desks ≡ passed_desks (sent_from l.number 1 l.packet.messages) l.fn.desks;
  reports : l.out ++ reports_passed l.slots (sent_from l.number (l.n + 1) (drop l.n l.packet.messages)) l.desks ≡ l.fn.out ++ reports_passed l.slots (sent_from l.number 1 l.packet.messages) l.fn.desks;
}
