use Rattle.std.proofs.Common.{take}
use Rattle.mdp_handler.specs.Faults.{Tells, skipped_lines}
use Rattle.mdp_handler.proofs.faults.tell_skipped.Given as goal

-- the lines so far are told, unless a write failed
abbrev pub invariant-loop-line : goal.invariant-loop-line
invariant-loop-line g l =
    Tells g.F.CountedWrite.failed g.F.CountedWrite.taken l.initial.faults l.faults (skipped_lines (take l.line-index l.lines))
