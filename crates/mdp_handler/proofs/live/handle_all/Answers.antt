use Rattle.std.proofs.Common.{◌-◌, ℕ, length, subst}
use Rattle.std.specs.Prelude.{IfErr}
use Rattle.std.proofs.lemmas.Result.{err_from_is_err_and}
use Rattle.mdp_handler.specs.Faults.{Tells}
use Rattle.mdp_handler.specs.Live.{CountsTo, FailsOnce}
use Rattle.mdp_handler.specs.Outcome.{setup_asked}
use Rattle.mdp_handler.proofs.Telling.{tells_nothing}
use Rattle.mdp_handler.proofs.GoingOut.{begins_so_far, begun_none, input_text, reads_none, then_ended, then_failed}
use Rattle.mdp_handler.proofs.live.handle_all.Goals as goal

-- there is no memory for a piece
pub returns-in_default-clause-ended : goal.returns-in_default-clause-ended
returns-in_default-clause-ended g c =
    let whole = input_text (g.I.CountedRead.rest c.args.input.now) in
    let told = tells_nothing g.F.CountedWrite.failed g.F.CountedWrite.taken c.args.faults.now in (
      whole.0,
      whole.1,
      begun_none (setup_asked c.args.settings) whole.0 (g.O.CountedWrite.taken c.args.output.now)
          (Tells g.F.CountedWrite.failed g.F.CountedWrite.taken c.args.faults.now c.args.faults.now) told,
    )

-- it ended early
pub returns-in_err-read_pieces-clause-ended : goal.returns-in_err-read_pieces-clause-ended
returns-in_err-read_pieces-clause-ended g c =
    let setup = setup_asked c.args.settings in
    let start = g.O.CountedWrite.taken c.args.output.now in
    let first = begins_so_far setup start (Tells g.F.CountedWrite.failed g.F.CountedWrite.taken c.args.faults.now c.args.faults.now) c.new-run.result c.new-run.ensures
    (tells_nothing g.F.CountedWrite.failed g.F.CountedWrite.taken c.args.faults.now) in
    let fault = err_from_is_err_and c.from_residual.result c.from_residual.ensures.1 in
    rw (fault.1, fault.2) (c.in_err-read_pieces.ensures.ended setup start c.args.faults.now first)

pub returns-in_err-read_pieces-clause-counted : goal.returns-in_err-read_pieces-clause-counted
returns-in_err-read_pieces-clause-counted g c =
    let fault = err_from_is_err_and c.from_residual.result c.from_residual.ensures.1 in
    rw (fault.1, fault.2) (subst (λ (n : ℕ). CountsTo (length (g.O.CountedWrite.taken c.read_pieces.new.output) - n) c.in_err-read_pieces.field-0.0) c.written-since.ensures c.in_err-read_pieces.ensures.counted)

pub returns-in_err-read_pieces-clause-reads : goal.returns-in_err-read_pieces-clause-reads
returns-in_err-read_pieces-clause-reads g c =
    let fault = err_from_is_err_and c.from_residual.result c.from_residual.ensures.1 in
    rw (fault.1, fault.2) c.in_err-read_pieces.ensures.reads

pub returns-in_err-read_pieces-clause-writes : goal.returns-in_err-read_pieces-clause-writes
returns-in_err-read_pieces-clause-writes g c =
    let fault = err_from_is_err_and c.from_residual.result c.from_residual.ensures.1 in
    rw (fault.1, fault.2) c.in_err-read_pieces.ensures.writes

-- it came to its end
pub returns-clause-done : goal.returns-clause-done
returns-clause-done g c =
    let setup = setup_asked c.args.settings in
    let start = g.O.CountedWrite.taken c.args.output.now in
    let first = begins_so_far setup start (Tells g.F.CountedWrite.failed g.F.CountedWrite.taken c.args.faults.now c.args.faults.now) c.new-run.result c.new-run.ensures
    (tells_nothing g.F.CountedWrite.failed g.F.CountedWrite.taken c.args.faults.now) in
    let read = c.in_ok-read_pieces.ensures.read setup start c.args.faults.now first in
    then_ended g.F.CountedWrite.failed g.F.CountedWrite.taken c.finish.result setup (g.I.CountedRead.rest c.args.input.now) read.0 start (g.O.CountedWrite.taken c.read_pieces.new.output) (g.O.CountedWrite.taken c.finish.new.output)
    c.args.faults.now c.read_pieces.new.faults c.finish.new.faults c.read_pieces.new.run read.1 read.2 c.finish.ensures.done

pub returns-clause-ended : goal.returns-clause-ended
returns-clause-ended g c =
    let setup = setup_asked c.args.settings in
    let start = g.O.CountedWrite.taken c.args.output.now in
    let first = begins_so_far setup start (Tells g.F.CountedWrite.failed g.F.CountedWrite.taken c.args.faults.now c.args.faults.now) c.new-run.result c.new-run.ensures
    (tells_nothing g.F.CountedWrite.failed g.F.CountedWrite.taken c.args.faults.now) in
    let read = c.in_ok-read_pieces.ensures.read setup start c.args.faults.now first in
    then_failed g.F.CountedWrite.failed g.F.CountedWrite.taken c.finish.result setup (g.I.CountedRead.rest c.args.input.now) read.0 start (g.O.CountedWrite.taken c.read_pieces.new.output) (g.O.CountedWrite.taken c.finish.new.output)
    c.args.faults.now c.read_pieces.new.faults c.finish.new.faults c.read_pieces.new.run read.1 read.2 c.finish.ensures.ended

pub returns-clause-counted : goal.returns-clause-counted
returns-clause-counted g c =
    subst (λ (n : ℕ). IfErr c.finish.result (CountsTo (length (g.O.CountedWrite.taken c.finish.new.output) - n))) c.written-since.ensures c.finish.ensures.counted

pub returns-clause-reads : goal.returns-clause-reads
returns-clause-reads g c =
    reads_none c.finish.result (g.I.CountedRead.failed c.args.input.now) (g.I.CountedRead.failed c.read_pieces.new.input) c.in_ok-read_pieces.ensures.reads c.finish.ensures.unread

pub returns-clause-writes : goal.returns-clause-writes
returns-clause-writes g c =
    subst (λ (n : ℕ). FailsOnce c.finish.result n (g.O.CountedWrite.failed c.finish.new.output)) c.in_ok-read_pieces.ensures.writes c.finish.ensures.failed
