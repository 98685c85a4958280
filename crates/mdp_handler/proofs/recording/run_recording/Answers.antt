use Rattle.std.proofs.Common.{◌≡◌, ◌+◌, ◌-◌, ℕ, List, length, inl, inr, arith}
use Rattle.mdp_handler.specs.Faults.{Tells, input_line, memory_line, output_line}
use Rattle.mdp_handler.specs.Outcome.{setup_asked}
use Rattle.mdp_pipeline.specs.Streamed.{channel_with}
use Rattle.mdp_handler.proofs.Frames.{frames_and, frames_counted}
use Rattle.mdp_handler.proofs.recording.run_recording.Goals as goal

pub returns-in-Ok-Whole-clause-done : goal.returns-in-Ok-Whole-clause-done
returns-in-Ok-Whole-clause-done g c = λ is. rw c.in-Ok-Whole.field-0-is at c.in-Ok-Whole.ensures.ended

pub returns-in-Ok-Faulty-clause-failed : goal.returns-in-Ok-Faulty-clause-failed
returns-in-Ok-Faulty-clause-failed g c = λ is.
    inr (omega (arith, c.in-Ok-Faulty.ensures.reads), inr (inl (omega (arith, c.in-Ok-Faulty.ensures.writes), rw c.in-Ok-Faulty.field-0-is at c.in-Ok-Faulty.ensures.ended)))

pub returns-in-Ok-Refused-clause-refused : goal.returns-in-Ok-Refused-clause-refused
returns-in-Ok-Refused-clause-refused g c = λ is. rw c.in-Ok-Refused.field-0-is at c.in-Ok-Refused.ensures.ended

pub returns-in-Err-Run-Memory-clause-failed : goal.returns-in-Err-Run-Memory-clause-failed
returns-in-Err-Run-Memory-clause-failed g c = λ is.
    let begun = c.in-Err-Run-Memory.ensures.begun in
    let reads = rw c.in-Err-Run-Memory.field-0-is at c.in-Err-Run-Memory.ensures.reads in
    let writes = rw c.in-Err-Run-Memory.field-0-0-is at (rw c.in-Err-Run-Memory.field-0-is at c.in-Err-Run-Memory.ensures.writes) in
    inr (
      reads,
      inl (
        writes,
        (
          begun.0,
          begun.1,
          frames_and g.F.CountedWrite.failed g.F.CountedWrite.taken (channel_with c.args.channel.instruments (setup_asked c.args.settings)) c.args.channel.addresses begun.0 (g.O.CountedWrite.taken c.args.output.now) (g.O.CountedWrite.taken c.handle_recording.new.output) memory_line
              c.args.faults.now c.handle_recording.new.faults c.tell_memory.new.faults begun.2 c.tell_memory.ensures,
        ),
      ),
    )

pub returns-in-Err-Run-Output-clause-failed : goal.returns-in-Err-Run-Output-clause-failed
returns-in-Err-Run-Output-clause-failed g c = λ is.
    let begun = c.in-Err-Run-Output.ensures.begun in
    let reads = rw c.in-Err-Run-Output.field-0-is at c.in-Err-Run-Output.ensures.reads in
    let writes = rw c.in-Err-Run-Output.field-0-0-is at (rw c.in-Err-Run-Output.field-0-is at c.in-Err-Run-Output.ensures.writes) in
    let counted = rw c.in-Err-Run-Output.field-0-0-is at (rw c.in-Err-Run-Output.field-0-is at c.in-Err-Run-Output.ensures.counted) in
    let channel = channel_with c.args.channel.instruments (setup_asked c.args.settings) in
    let before = g.O.CountedWrite.taken c.args.output.now in
    let after = g.O.CountedWrite.taken c.handle_recording.new.output in
    let all = frames_counted channel c.args.channel.addresses begun.0 before after (Tells g.F.CountedWrite.failed g.F.CountedWrite.taken c.args.faults.now c.handle_recording.new.faults) c.in-Err-Run-Output.written begun.2 counted in
    inr (
      reads,
      inr (inr (
        writes,
        (
          c.in-Err-Run-Output.written,
          all,
          (
            begun.0,
            begun.1,
            frames_and g.F.CountedWrite.failed g.F.CountedWrite.taken channel c.args.channel.addresses begun.0 before after (output_line c.in-Err-Run-Output.written) c.args.faults.now c.handle_recording.new.faults c.tell_output.new.faults begun.2 c.tell_output.ensures,
          ),
        ),
      )),
    )

pub returns-in-Err-Input-clause-failed : goal.returns-in-Err-Input-clause-failed
returns-in-Err-Input-clause-failed g c = λ is.
    let begun = c.in-Err-Input.ensures.begun in
    let reads = rw c.in-Err-Input.field-0-is at c.in-Err-Input.ensures.reads in
    let writes = rw c.in-Err-Input.field-0-is at c.in-Err-Input.ensures.writes in
    inl (
      reads,
      writes,
      (
        begun.0,
        begun.1,
        frames_and g.F.CountedWrite.failed g.F.CountedWrite.taken (channel_with c.args.channel.instruments (setup_asked c.args.settings)) c.args.channel.addresses begun.0 (g.O.CountedWrite.taken c.args.output.now) (g.O.CountedWrite.taken c.handle_recording.new.output) input_line
            c.args.faults.now c.handle_recording.new.faults c.tell_input.new.faults begun.2 c.tell_input.ensures,
      ),
    )
