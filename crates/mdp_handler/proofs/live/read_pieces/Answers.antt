use Rattle.std.proofs.Common.{◌<◌, ◌++◌, ◌+◌, [], ℕ, List, length, take, refl, ap, ◌∙◌, subst, arith}
use Rattle.std.proofs.lemmas.Result.{err_from_is_err_and}
use Rattle.mdp_capture.proofs.Following.{goes_on, starts}
use Rattle.mdp_handler.specs.Faults.{Tells}
use Rattle.mdp_handler.specs.Live.{EndsFor, FailsOnce, went}
use Rattle.mdp_handler.specs.declared.live.LiveFault.TheVariants.{Input}
use Rattle.mdp_handler.proofs.GoingOut.{input_ended, input_failed, input_read, input_there, reads_none, stays_there}
use Rattle.mdp_handler.proofs.live.read_pieces.Goals as goal

pub loop-run-init : goal.loop-run-init
loop-run-init g c = record {
  read = ([], starts (g.I.CountedRead.rest c.args.input.now), λ setup start first so_far. so_far);
  reads = refl;
  writes = refl;
  room = c.requires.room;
}

-- ---- the end of the input

pub returns-in-Ok-eq0-clause-read : goal.returns-in-Ok-eq0-clause-read
returns-in-Ok-eq0-clause-read g c =
    let at = c.loop-run.invariant.read in
    let none = c.in-Ok-eq0.field-0-test in
    let room : 0 < length c.read.new.buf = omega (arith, c.read.auto.buf, c.loop-run.invariant.room) in
    let read = rw none at c.in-Ok-eq0.ensures.bytes.0 in
    input_ended g.F.CountedWrite.failed g.F.CountedWrite.taken c.handle_last_line.result (g.I.CountedRead.rest c.args.input.now) at.0
    (g.O.CountedWrite.taken c.args.output.now) (g.O.CountedWrite.taken c.loop-run.output) (g.O.CountedWrite.taken c.handle_last_line.new.output) c.args.faults.now c.loop-run.faults c.handle_last_line.new.faults
    c.args.run.now c.loop-run.run c.handle_last_line.new.run
    (input_read (g.I.CountedRead.rest c.args.input.now) (g.I.CountedRead.rest c.loop-run.input) (g.I.CountedRead.rest c.read.new.self) at.0 at.1 read (c.in-Ok-eq0.ensures.bytes.1 none room))
    at.2 c.handle_last_line.ensures.handled

pub returns-in-Ok-eq0-clause-ended : goal.returns-in-Ok-eq0-clause-ended
returns-in-Ok-eq0-clause-ended g c =
    let at = c.loop-run.invariant.read in
    let none = c.in-Ok-eq0.field-0-test in
    let room : 0 < length c.read.new.buf = omega (arith, c.read.auto.buf, c.loop-run.invariant.room) in
    let read = rw none at c.in-Ok-eq0.ensures.bytes.0 in
    input_failed g.F.CountedWrite.failed g.F.CountedWrite.taken c.handle_last_line.result (g.I.CountedRead.rest c.args.input.now) at.0
    (g.O.CountedWrite.taken c.args.output.now) (g.O.CountedWrite.taken c.loop-run.output) (g.O.CountedWrite.taken c.handle_last_line.new.output) c.args.faults.now c.loop-run.faults c.handle_last_line.new.faults
    c.args.run.now c.loop-run.run
    (input_read (g.I.CountedRead.rest c.args.input.now) (g.I.CountedRead.rest c.loop-run.input) (g.I.CountedRead.rest c.read.new.self) at.0 at.1 read (c.in-Ok-eq0.ensures.bytes.1 none room))
    at.2 c.handle_last_line.ensures.ended

pub returns-in-Ok-eq0-clause-counted : goal.returns-in-Ok-eq0-clause-counted
returns-in-Ok-eq0-clause-counted g c = c.handle_last_line.ensures.counted

pub returns-in-Ok-eq0-clause-reads : goal.returns-in-Ok-eq0-clause-reads
returns-in-Ok-eq0-clause-reads g c =
    reads_none c.handle_last_line.result (g.I.CountedRead.failed c.args.input.now) (g.I.CountedRead.failed c.read.new.self) (c.in-Ok-eq0.ensures.failed ∙ c.loop-run.invariant.reads) c.handle_last_line.ensures.unread

pub returns-in-Ok-eq0-clause-writes : goal.returns-in-Ok-eq0-clause-writes
returns-in-Ok-eq0-clause-writes g c =
    subst (λ (n : ℕ). FailsOnce c.handle_last_line.result n (g.O.CountedWrite.failed c.handle_last_line.new.output)) c.loop-run.invariant.writes c.handle_last_line.ensures.failed

-- ---- one more piece

pub loop-run-preserved : goal.loop-run-preserved
loop-run-preserved g c =
    let at = c.loop-run.invariant.read in
    let bytes = take c.in-Ok.n c.read.new.buf in
    record {
      read = (
        at.0 ++ bytes,
        goes_on (g.I.CountedRead.rest c.args.input.now) (g.I.CountedRead.rest c.loop-run.input) (g.I.CountedRead.rest c.read.new.self) at.0 bytes at.1 c.in-Ok.ensures.bytes.0,
        λ setup start first so_far. c.in_ok-handle_piece-in-Ok.ensures.handled setup at.0 start first (at.2 setup start first so_far),
      );
      reads = c.in-Ok.ensures.failed ∙ c.loop-run.invariant.reads;
      writes = c.in_ok-handle_piece-in-Ok.ensures.failed ∙ c.loop-run.invariant.writes;
      room = omega (arith, c.read.auto.buf, c.loop-run.invariant.room);
    }

-- it is refused, or cut off
pub returns-in_err-handle_piece-in-Ok-clause-ended : goal.returns-in_err-handle_piece-in-Ok-clause-ended
returns-in_err-handle_piece-in-Ok-clause-ended g c =
    let at = c.loop-run.invariant.read in
    let bytes = take c.in-Ok.n c.read.new.buf in
    let follows = goes_on (g.I.CountedRead.rest c.args.input.now) (g.I.CountedRead.rest c.loop-run.input) (g.I.CountedRead.rest c.read.new.self) at.0 bytes at.1 c.in-Ok.ensures.bytes.0 in
    let p = err_from_is_err_and c.from_residual.result c.from_residual.ensures.1 in
    rw (p.1, p.2) (λ setup start first so_far.
    input_there _ (g.I.CountedRead.rest c.args.input.now) (g.I.CountedRead.rest c.read.new.self) (at.0 ++ bytes) follows
    (λ more. c.in_err-handle_piece-in-Ok.ensures.ended setup at.0 more start first (at.2 setup start first so_far)))

-- ---- a read failed

pub returns-in-Err : goal.returns-in-Err
returns-in-Err g c =
    let at = c.loop-run.invariant.read in
    record {
      read = tt;
      ended = λ setup start first so_far.
          input_there (λ (whole : List ℕ). EndsFor setup whole (went start (g.O.CountedWrite.taken c.loop-run.output) (Tells g.F.CountedWrite.failed g.F.CountedWrite.taken first c.loop-run.faults)) Input)
          (g.I.CountedRead.rest c.args.input.now) (g.I.CountedRead.rest c.loop-run.input) at.0 at.1
          (λ more. stays_there g.F.CountedWrite.failed g.F.CountedWrite.taken setup at.0 more start (g.O.CountedWrite.taken c.loop-run.output) c.loop-run.faults first c.loop-run.run (at.2 setup start first so_far));
      counted = tt;
      reads = c.in-Err.ensures.failed ∙ ap (λ (n : ℕ). n + 1) c.loop-run.invariant.reads;
      writes = omega (arith, c.loop-run.invariant.writes);
    }
