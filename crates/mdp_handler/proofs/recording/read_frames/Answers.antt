use Rattle.std.proofs.Common.{◌≡◌, ◌<◌, ◌++◌, ◌+◌, [], ℕ, List, length, take, refl, sym, ap, ◌∙◌, arith}
use Rattle.std.proofs.lemmas.Result.{err_from_is_err_and}
use Rattle.mdp_capture.proofs.Following.{goes_on, starts}
use Rattle.mdp_handler.specs.Faults.{Tells}
use Rattle.mdp_handler.specs.Live.{went}
use Rattle.mdp_handler.specs.Recording.{FramesSoFar, HasBegunFrames}
use Rattle.mdp_handler.proofs.GoingOut.{input_read, input_there}
use Rattle.mdp_handler.proofs.Frames.{frames_on, frames_stay}
use Rattle.mdp_handler.proofs.recording.read_frames.Goals as goal

pub loop-input-init : goal.loop-input-init
loop-input-init g c = record {
  read = ([], starts (g.I.CountedRead.rest c.args.input.now), λ channel addresses start first so_far. so_far);
  reads = refl;
  writes = refl;
  room = c.requires.room;
}

-- behind a fault nothing more is read
pub returns-in-Some-clause-read : goal.returns-in-Some-clause-read
returns-in-Some-clause-read g c = λ channel addresses start first so_far.
    let at = c.loop-input.invariant.read in
    let did = went start (g.O.CountedWrite.taken c.loop-input.output) (Tells g.F.CountedWrite.failed g.F.CountedWrite.taken first c.loop-input.faults) in
    input_there (λ (whole : List ℕ). FramesSoFar channel addresses whole did c.loop-input.run) (g.I.CountedRead.rest c.args.input.now) (g.I.CountedRead.rest c.loop-input.input) at.0 at.1
    (λ more. frames_on g.F.CountedWrite.failed g.F.CountedWrite.taken channel addresses at.0 more did c.loop-input.run _ (sym c.fault.ensures ∙ c.in-Some.is) (at.2 channel addresses start first so_far))

-- the input has ended
pub returns-in-Ok-eq0-clause-read : goal.returns-in-Ok-eq0-clause-read
returns-in-Ok-eq0-clause-read g c = λ channel addresses start first so_far.
    let at = c.loop-input.invariant.read in
    let none = c.in-Ok-eq0.field-0-test in
    let room : 0 < length c.read.new.buf = omega (arith, c.read.auto.buf, c.loop-input.invariant.room) in
    let read = rw none at c.in-Ok-eq0.ensures.bytes.0 in (
      at.0,
      input_read (g.I.CountedRead.rest c.args.input.now) (g.I.CountedRead.rest c.loop-input.input) (g.I.CountedRead.rest c.read.new.self) at.0 at.1 read (c.in-Ok-eq0.ensures.bytes.1 none room),
      at.2 channel addresses start first so_far,
    )

-- one more piece
pub loop-input-preserved : goal.loop-input-preserved
loop-input-preserved g c =
    let at = c.loop-input.invariant.read in
    let bytes = take c.in-Ok.n c.read.new.buf in
    record {
      read = (
        at.0 ++ bytes,
        goes_on (g.I.CountedRead.rest c.args.input.now) (g.I.CountedRead.rest c.loop-input.input) (g.I.CountedRead.rest c.read.new.self) at.0 bytes at.1 c.in-Ok.ensures.bytes.0,
        λ channel addresses start first so_far. c.in_ok-handle_frames-in-Ok.ensures.handled channel addresses at.0 start first (at.2 channel addresses start first so_far),
      );
      reads = c.in-Ok.ensures.failed ∙ c.loop-input.invariant.reads;
      writes = c.in_ok-handle_frames-in-Ok.ensures.failed ∙ c.loop-input.invariant.writes;
      room = omega (arith, c.read.auto.buf, c.loop-input.invariant.room);
    }

pub returns-in_err-handle_frames-in-Ok-clause-begun : goal.returns-in_err-handle_frames-in-Ok-clause-begun
returns-in_err-handle_frames-in-Ok-clause-begun g c =
    let at = c.loop-input.invariant.read in
    let bytes = take c.in-Ok.n c.read.new.buf in
    let follows = goes_on (g.I.CountedRead.rest c.args.input.now) (g.I.CountedRead.rest c.loop-input.input) (g.I.CountedRead.rest c.read.new.self) at.0 bytes at.1 c.in-Ok.ensures.bytes.0 in
    let p = err_from_is_err_and c.from_residual.result c.from_residual.ensures.1 in
    rw p.1 (λ channel addresses start first so_far.
    input_there _ (g.I.CountedRead.rest c.args.input.now) (g.I.CountedRead.rest c.read.new.self) (at.0 ++ bytes) follows
    (λ more. c.in_err-handle_frames-in-Ok.ensures.begun channel addresses at.0 more start first (at.2 channel addresses start first so_far)))

-- a read failed
pub returns-in-Err-clause-begun : goal.returns-in-Err-clause-begun
returns-in-Err-clause-begun g c = λ channel addresses start first so_far.
    let at = c.loop-input.invariant.read in
    input_there (λ (whole : List ℕ). HasBegunFrames channel addresses whole (went start (g.O.CountedWrite.taken c.loop-input.output) (Tells g.F.CountedWrite.failed g.F.CountedWrite.taken first c.loop-input.faults)))
    (g.I.CountedRead.rest c.args.input.now) (g.I.CountedRead.rest c.loop-input.input) at.0 at.1
    (λ more. frames_stay g.F.CountedWrite.failed g.F.CountedWrite.taken channel addresses at.0 more start (g.O.CountedWrite.taken c.loop-input.output) c.loop-input.faults first c.loop-input.run (at.2 channel addresses start first so_far))
