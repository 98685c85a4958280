use Rattle.std.proofs.Common.{List, inl, inr, subst}
use Rattle.mdp_capture.specs.declared.skip.SkippedLine.{SkippedLine}
use Rattle.mdp_handler.specs.Faults.{Tells, memory_line, output_line, skipped_lines}
use Rattle.mdp_handler.proofs.Telling.{tells_both}
use Rattle.mdp_handler.proofs.program.run_capture.Goals as goal

-- what is told behind the skipped lines
pub returns-in-Err-Memory-clause-failed : goal.returns-in-Err-Memory-clause-failed
returns-in-Err-Memory-clause-failed g c = λ is.
    let skipped = subst (λ (lines : List SkippedLine). Tells g.F.CountedWrite.failed g.F.CountedWrite.taken c.args.faults.now c.tell_skipped.new.faults (skipped_lines lines)) c.skipped.ensures c.tell_skipped.ensures in
    let told = tells_both g.F.CountedWrite.failed g.F.CountedWrite.taken c.args.faults.now c.tell_skipped.new.faults c.tell_memory.new.faults (skipped_lines c.args.capture.now.skipped) memory_line skipped c.tell_memory.ensures in
    let none = rw c.in-Err-Memory.field-0-is at c.in-Err-Memory.ensures.failed in
    (c.in-Err-Memory.ensures.begun, inl (none, told))

pub returns-in-Err-Output-clause-failed : goal.returns-in-Err-Output-clause-failed
returns-in-Err-Output-clause-failed g c = λ is.
    let skipped = subst (λ (lines : List SkippedLine). Tells g.F.CountedWrite.failed g.F.CountedWrite.taken c.args.faults.now c.tell_skipped.new.faults (skipped_lines lines)) c.skipped.ensures c.tell_skipped.ensures in
    let told = tells_both g.F.CountedWrite.failed g.F.CountedWrite.taken c.args.faults.now c.tell_skipped.new.faults c.tell_output.new.faults (skipped_lines c.args.capture.now.skipped) (output_line c.in-Err-Output.written) skipped c.tell_output.ensures in
    let one = rw c.in-Err-Output.field-0-is at c.in-Err-Output.ensures.failed in
    let counted = rw c.in-Err-Output.field-0-is at c.in-Err-Output.ensures.told in
    (c.in-Err-Output.ensures.begun, inr (one, (c.in-Err-Output.written, counted, told)))
