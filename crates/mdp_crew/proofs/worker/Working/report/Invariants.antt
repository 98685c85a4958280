use Rattle.std.proofs.Common.{◌≡◌, ◌++◌, drop, map}
use Rattle.mdp_arbiter.specs.OwnedMoves.{move_of}
use Rattle.mdp_reports.specs.Reporting.{desks_after_moves, reports_of_moves}
use Rattle.mdp_crew.proofs.worker.Working.report.Given as goal

-- the moves that are left make of the desks and the reports what all make of those at first
abbrev pub invariant-loop-owned_move : goal.invariant-loop-owned_move
invariant-loop-owned_move g l = record {
  slots : l.self.worker.slots ≡ l.initial.self.worker.slots;
  desks : desks_after_moves l.initial.self.worker.slots (map move_of (drop l.owned_move-index l.owned_moves)) l.self.worker.desks ≡ desks_after_moves l.initial.self.worker.slots (map move_of l.owned_moves) l.initial.self.worker.desks;
  reports : l.reports ++ reports_of_moves l.initial.self.worker.slots (map move_of (drop l.owned_move-index l.owned_moves)) l.self.worker.desks ≡ reports_of_moves l.initial.self.worker.slots (map move_of l.owned_moves) l.initial.self.worker.desks;
  ends : l.self.ends ≡ l.initial.self.ends;
}
