use Rattle.std.proofs.Common.{◌≡◌, ◌+◌, ◌-◌, ℕ, List, length, inl, inr, sym, ◌∙◌, subst, arith}
use Rattle.mdp_handler.specs.Faults.{Tells, input_line, memory_line, output_line, refused_line}
use Rattle.mdp_handler.specs.Outcome.{setup_asked}
use Rattle.mdp_handler.proofs.GoingOut.{begun_and, has_counted, refused_and}
use Rattle.mdp_handler.proofs.live.run_live.Goals as goal

pub returns-in-Err-Refused-clause-refused : goal.returns-in-Err-Refused-clause-refused
returns-in-Err-Refused-clause-refused g c = λ is.
    let ended = rw c.in-Err-Refused.field-0-is at c.in-Err-Refused.ensures.ended in
    let why = refused_line c.in-Err-Refused.line c.in-Err-Refused.refusal in (
      ended.0,
      ended.1,
      (
        c.in-Err-Refused.line,
        (
          c.in-Err-Refused.refusal,
          refused_and g.F.CountedWrite.failed g.F.CountedWrite.taken (setup_asked c.args.settings) ended.0 (g.O.CountedWrite.taken c.args.output.now) (g.O.CountedWrite.taken c.handle_all.new.output) why
              c.args.faults.now c.handle_all.new.faults c.tell_refused.new.faults (record { line = c.in-Err-Refused.line; refusal = c.in-Err-Refused.refusal }) ended.2 c.tell_refused.ensures,
        ),
      ),
    )

pub returns-in-Err-Run-Memory-clause-failed : goal.returns-in-Err-Run-Memory-clause-failed
returns-in-Err-Run-Memory-clause-failed g c = λ is.
    let ended = rw c.in-Err-Run-Memory.field-0-is at c.in-Err-Run-Memory.ensures.ended in
    let reads = rw c.in-Err-Run-Memory.field-0-is at c.in-Err-Run-Memory.ensures.reads in
    let writes = rw c.in-Err-Run-Memory.field-0-0-is at (rw c.in-Err-Run-Memory.field-0-is at c.in-Err-Run-Memory.ensures.writes) in
    inr (
      reads,
      inl (
        writes,
        (
          ended.0,
          ended.1,
          begun_and g.F.CountedWrite.failed g.F.CountedWrite.taken (setup_asked c.args.settings) ended.0 (g.O.CountedWrite.taken c.args.output.now) (g.O.CountedWrite.taken c.handle_all.new.output) memory_line
              c.args.faults.now c.handle_all.new.faults c.tell_memory.new.faults ended.2 c.tell_memory.ensures,
        ),
      ),
    )

pub returns-in-Err-Run-Output-clause-failed : goal.returns-in-Err-Run-Output-clause-failed
returns-in-Err-Run-Output-clause-failed g c = λ is.
    let ended = rw c.in-Err-Run-Output.field-0-is at c.in-Err-Run-Output.ensures.ended in
    let reads = rw c.in-Err-Run-Output.field-0-is at c.in-Err-Run-Output.ensures.reads in
    let writes = rw c.in-Err-Run-Output.field-0-0-is at (rw c.in-Err-Run-Output.field-0-is at c.in-Err-Run-Output.ensures.writes) in
    let counted = rw c.in-Err-Run-Output.field-0-0-is at (rw c.in-Err-Run-Output.field-0-is at c.in-Err-Run-Output.ensures.counted) in
    let setup = setup_asked c.args.settings in
    let before = g.O.CountedWrite.taken c.args.output.now in
    let after = g.O.CountedWrite.taken c.handle_all.new.output in
    inr (
      reads,
      inr (
        writes,
        (
          c.in-Err-Run-Output.written,
          has_counted setup ended.0 before after (Tells g.F.CountedWrite.failed g.F.CountedWrite.taken c.args.faults.now c.handle_all.new.faults) c.in-Err-Run-Output.written ended.2 counted,
          (
            ended.0,
            ended.1,
            begun_and g.F.CountedWrite.failed g.F.CountedWrite.taken setup ended.0 before after (output_line c.in-Err-Run-Output.written) c.args.faults.now c.handle_all.new.faults c.tell_output.new.faults ended.2 c.tell_output.ensures,
          ),
        ),
      ),
    )

pub returns-in-Err-Input-clause-failed : goal.returns-in-Err-Input-clause-failed
returns-in-Err-Input-clause-failed g c = λ is.
    let ended = rw c.in-Err-Input.field-0-is at c.in-Err-Input.ensures.ended in
    let reads = rw c.in-Err-Input.field-0-is at c.in-Err-Input.ensures.reads in
    let writes = rw c.in-Err-Input.field-0-is at c.in-Err-Input.ensures.writes in
    inl (
      reads,
      writes,
      (
        ended.0,
        ended.1,
        begun_and g.F.CountedWrite.failed g.F.CountedWrite.taken (setup_asked c.args.settings) ended.0 (g.O.CountedWrite.taken c.args.output.now) (g.O.CountedWrite.taken c.handle_all.new.output) input_line
            c.args.faults.now c.handle_all.new.faults c.tell_input.new.faults ended.2 c.tell_input.ensures,
      ),
    )
