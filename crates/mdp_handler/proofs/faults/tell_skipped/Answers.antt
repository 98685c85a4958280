use Rattle.std.proofs.Common.{take, subst}
use Rattle.mdp_handler.specs.Faults.{Tells, skipped_lines}
use Rattle.mdp_handler.proofs.Telling.{lines_more, tells_both}
use Rattle.mdp_handler.proofs.faults.tell_skipped.Goals as goal

pub loop-line-preserved : goal.loop-line-preserved
loop-line-preserved g c =
    let lines = c.args.lines.now in
    let n = c.loop-line.line-index in
    subst (Tells g.F.CountedWrite.failed g.F.CountedWrite.taken c.args.faults.now c.tell_skipped_at.new.faults)
    (lines_more lines n _ c.loop-line-test.true)
    (tells_both g.F.CountedWrite.failed g.F.CountedWrite.taken c.args.faults.now c.loop-line.faults c.tell_skipped_at.new.faults (skipped_lines (take n lines)) _ c.loop-line.invariant c.tell_skipped_at.ensures)
