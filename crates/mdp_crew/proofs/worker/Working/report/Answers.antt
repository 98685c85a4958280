use Rattle.std.proofs.Common.{◌≡◌, ◌++◌, ℕ, List, ap, ◌∙◌}
use Rattle.mdp_arbiter.specs.OwnedMoves.{move_of}
use Rattle.mdp_reports.specs.Reporting.{desks_after_move, reports_of_move}
use Rattle.mdp_reports.specs.Worker.{View}
use Rattle.mdp_reports.proofs.Moves.{goes_on}
use Rattle.mdp_crew.proofs.worker.Working.report.Goals as goal

pub loop-owned_move-preserved : goal.loop-owned_move-preserved
loop-owned_move-preserved g c =
    let was = c.loop-owned_move.invariant in
    let slots : List ℕ = c.args.self.now.worker.slots in
    let old : View = c.loop-owned_move.self.worker in
    let move = move_of c.owned_move-item.result in
    let worker = c.in_ok-report_move.ensures.worker in
    let desks : c.report_move.new.self.desks ≡ desks_after_move slots move old.desks = ap (λ (v : View). v.desks) worker ∙ ap (λ (l : List ℕ). desks_after_move l move old.desks) was.slots in
    let reports : c.report_move.new.out ≡ c.loop-owned_move.reports ++ reports_of_move slots move old.desks =
    c.in_ok-report_move.ensures.reports ∙ ap (λ (l : List ℕ). c.loop-owned_move.reports ++ reports_of_move l move old.desks) was.slots in
    let next = goes_on move_of c.args.owned_moves.now c.loop-owned_move.owned_move-index _ c.owned_move-item.result slots old.desks c.report_move.new.self.desks c.loop-owned_move.reports c.report_move.new.out c.loop-owned_move-test.true c.owned_move-item.is desks reports in
    record { slots = ap (λ (v : View). v.slots) worker ∙ was.slots; desks = next.desks ∙ was.desks; reports = next.reports ∙ was.reports; ends = was.ends }
