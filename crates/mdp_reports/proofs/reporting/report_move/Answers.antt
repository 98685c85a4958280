use Rattle.std.proofs.Common.{length, ap, ◌∙◌}
use Rattle.mdp_desks.proofs.Hearing.{length_rebased}
use Rattle.mdp_reports.proofs.reporting.report_move.Goals as goal

pub returns-in_ok-put_jump-in-Jumped-clause-many : goal.returns-in_ok-put_jump-in-Jumped-clause-many
returns-in_ok-put_jump-in-Jumped-clause-many g c = ap length c.rebase_from.ensures ∙ length_rebased _ c.args.desks.now
