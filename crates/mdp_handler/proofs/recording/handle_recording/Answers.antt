use Rattle.std.proofs.Common.{◌-◌, ℕ, length, subst}
use Rattle.std.proofs.lemmas.Result.{err_from_is_err_and}
use Rattle.mdp_pipeline.specs.Streamed.{channel_with}
use Rattle.mdp_handler.specs.Faults.{Tells}
use Rattle.mdp_handler.specs.Outcome.{setup_asked}
use Rattle.mdp_handler.specs.Recording.{CountsEarly}
use Rattle.mdp_handler.proofs.GoingOut.{input_text}
use Rattle.mdp_handler.proofs.Telling.{tells_nothing}
use Rattle.mdp_handler.proofs.Frames.{begins_frames, begun_no_frame}
use Rattle.mdp_handler.proofs.recording.handle_recording.Goals as goal

-- there is no memory for a piece, or for the run
pub returns-in_default-clause-begun : goal.returns-in_default-clause-begun
returns-in_default-clause-begun g c =
    let whole = input_text (g.I.CountedRead.rest c.args.input.now) in (
      whole.0,
      whole.1,
      begun_no_frame (channel_with c.args.channel.instruments (setup_asked c.args.settings)) c.args.channel.addresses whole.0 (g.O.CountedWrite.taken c.args.output.now)
          (Tells g.F.CountedWrite.failed g.F.CountedWrite.taken c.args.faults.now c.args.faults.now) c.requires.listed (tells_nothing g.F.CountedWrite.failed g.F.CountedWrite.taken c.args.faults.now),
    )

pub returns-in_default-made-clause-begun : goal.returns-in_default-made-clause-begun
returns-in_default-made-clause-begun g c =
    let whole = input_text (g.I.CountedRead.rest c.args.input.now) in (
      whole.0,
      whole.1,
      begun_no_frame (channel_with c.args.channel.instruments (setup_asked c.args.settings)) c.args.channel.addresses whole.0 (g.O.CountedWrite.taken c.args.output.now)
          (Tells g.F.CountedWrite.failed g.F.CountedWrite.taken c.args.faults.now c.args.faults.now) c.requires.listed (tells_nothing g.F.CountedWrite.failed g.F.CountedWrite.taken c.args.faults.now),
    )

-- it ended early
pub returns-in_err-read_frames-clause-begun : goal.returns-in_err-read_frames-clause-begun
returns-in_err-read_frames-clause-begun g c =
    let channel = channel_with c.args.channel.instruments (setup_asked c.args.settings) in
    let start = g.O.CountedWrite.taken c.args.output.now in
    let first = begins_frames channel c.args.channel.addresses start (Tells g.F.CountedWrite.failed g.F.CountedWrite.taken c.args.faults.now c.args.faults.now) c.in-Ok-made.run' c.in-Ok-made.ensures.before c.in-Ok-made.ensures.idle
    (tells_nothing g.F.CountedWrite.failed g.F.CountedWrite.taken c.args.faults.now) in
    let fault = err_from_is_err_and c.from_residual.result c.from_residual.ensures.1 in
    rw fault.1 (c.in_err-read_frames.ensures.begun channel c.args.channel.addresses start c.args.faults.now first)

pub returns-in_err-read_frames-clause-counted : goal.returns-in_err-read_frames-clause-counted
returns-in_err-read_frames-clause-counted g c =
    let fault = err_from_is_err_and c.from_residual.result c.from_residual.ensures.1 in
    rw (fault.1, fault.2) (subst (λ (n : ℕ). CountsEarly (length (g.O.CountedWrite.taken c.read_frames.new.output) - n) c.in_err-read_frames.field-0.0) c.written-since.ensures c.in_err-read_frames.ensures.counted)

pub returns-in_err-read_frames-clause-reads : goal.returns-in_err-read_frames-clause-reads
returns-in_err-read_frames-clause-reads g c =
    let fault = err_from_is_err_and c.from_residual.result c.from_residual.ensures.1 in
    rw (fault.1, fault.2) c.in_err-read_frames.ensures.reads

pub returns-in_err-read_frames-clause-writes : goal.returns-in_err-read_frames-clause-writes
returns-in_err-read_frames-clause-writes g c =
    let fault = err_from_is_err_and c.from_residual.result c.from_residual.ensures.1 in
    rw (fault.1, fault.2) c.in_err-read_frames.ensures.writes

-- not all of its end was written
pub returns-in_err-end-clause-begun : goal.returns-in_err-end-clause-begun
returns-in_err-end-clause-begun g c =
    let channel = channel_with c.args.channel.instruments (setup_asked c.args.settings) in
    let start = g.O.CountedWrite.taken c.args.output.now in
    let first = begins_frames channel c.args.channel.addresses start (Tells g.F.CountedWrite.failed g.F.CountedWrite.taken c.args.faults.now c.args.faults.now) c.in-Ok-made.run' c.in-Ok-made.ensures.before c.in-Ok-made.ensures.idle
    (tells_nothing g.F.CountedWrite.failed g.F.CountedWrite.taken c.args.faults.now) in
    let read = c.in_ok-read_frames.ensures.read channel c.args.channel.addresses start c.args.faults.now first in
    let p = err_from_is_err_and c.from_residual-in_err-end.result c.from_residual-in_err-end.ensures.1 in
    rw p.1 (read.0, read.1, c.in_err-end.ensures.begun channel c.args.channel.addresses read.0 start c.args.faults.now read.2)

-- it came to its end
pub returns-clause-ended : goal.returns-clause-ended
returns-clause-ended g c =
    let channel = channel_with c.args.channel.instruments (setup_asked c.args.settings) in
    let start = g.O.CountedWrite.taken c.args.output.now in
    let first = begins_frames channel c.args.channel.addresses start (Tells g.F.CountedWrite.failed g.F.CountedWrite.taken c.args.faults.now c.args.faults.now) c.in-Ok-made.run' c.in-Ok-made.ensures.before c.in-Ok-made.ensures.idle
    (tells_nothing g.F.CountedWrite.failed g.F.CountedWrite.taken c.args.faults.now) in
    let read = c.in_ok-read_frames.ensures.read channel c.args.channel.addresses start c.args.faults.now first in
    (read.0, read.1, c.in_ok-end.ensures.ended channel c.args.channel.addresses read.0 start c.args.faults.now read.2)
