use Rattle.std.proofs.Common.{◌≡◌, ◌<◌, ◌++◌, [], ℕ, List, Ok, Err, length, take, refl, ap, ◌∙◌, arith}
use Rattle.std.specs.Prelude.{IfSome}
use Rattle.std.specs.Io.KnownBytes.{IsAtEnd}
use Rattle.std.proofs.lemmas.Result.{err_from_is_err_and, IfOk-weaker, IfErr-weaker}
use Rattle.mdp_capture.specs.Capture.{IsFaultOf, IsTextFaultOf, capture_of}
use Rattle.mdp_capture.specs.Reading.{HasRead}
use Rattle.mdp_capture.proofs.Following.{as_fault, comes_to, fails_there, goes_on, never_input, no_input, says_nothing, starts, whole_buffer}
use Rattle.mdp_capture.proofs.over_threads.read_capture_over_threads.Goals as goal

pub loop-reading-init : goal.loop-reading-init
loop-reading-init g c =
    record {
      read = ([], c.new-reading.ensures, starts (g.R.CountedRead.rest c.args.reader.now));
      failed = refl;
      room = c.in_ok-piece.ensures;
    }

pub returns-in-Ok-eq0-clause-capture : goal.returns-in-Ok-eq0-clause-capture
returns-in-Ok-eq0-clause-capture g c =
    let whole = g.R.CountedRead.rest c.args.reader.now in
    let old = g.R.CountedRead.rest c.loop-reading.reader in
    let new = g.R.CountedRead.rest c.read.new.self in
    let at = c.loop-reading.invariant.read in
    let none = c.in-Ok-eq0.field-0-test in
    let room : 0 < length c.read.new.buf = omega (arith, c.read.auto.buf, c.as_mut_slice.ensures.len, c.loop-reading.invariant.room) in
    let read = rw none at c.in-Ok-eq0.ensures.bytes.0 in
    IfOk-weaker c.finish.result (λ capture. (text : List ℕ) → HasRead c.loop-reading.reading text → capture_of text ≡ Ok capture) (λ capture. IfSome whole (λ text. capture_of text ≡ Ok capture))
    (λ capture is. comes_to (λ text. capture_of text ≡ Ok capture) whole old new at.0 at.2 read (c.in-Ok-eq0.ensures.bytes.1 none room) (is at.0 at.1)) c.finish.ensures.capture

pub returns-in-Ok-eq0-clause-end : goal.returns-in-Ok-eq0-clause-end
returns-in-Ok-eq0-clause-end g c =
    let room : 0 < length c.read.new.buf = omega (arith, c.read.auto.buf, c.as_mut_slice.ensures.len, c.loop-reading.invariant.room) in
    let end = c.in-Ok-eq0.ensures.bytes.1 c.in-Ok-eq0.field-0-test room in
    IfOk-weaker c.finish.result (λ capture. (text : List ℕ) → HasRead c.loop-reading.reading text → capture_of text ≡ Ok capture) (λ capture. IsAtEnd (g.R.CountedRead.rest c.read.new.self)) (λ capture is. end) c.finish.ensures.capture

pub returns-in-Ok-eq0-clause-refused : goal.returns-in-Ok-eq0-clause-refused
returns-in-Ok-eq0-clause-refused g c =
    let whole = g.R.CountedRead.rest c.args.reader.now in
    let old = g.R.CountedRead.rest c.loop-reading.reader in
    let new = g.R.CountedRead.rest c.read.new.self in
    let at = c.loop-reading.invariant.read in
    let none = c.in-Ok-eq0.field-0-test in
    let room : 0 < length c.read.new.buf = omega (arith, c.read.auto.buf, c.as_mut_slice.ensures.len, c.loop-reading.invariant.room) in
    let read = rw none at c.in-Ok-eq0.ensures.bytes.0 in
    IfErr-weaker c.finish.result (λ fault. (text : List ℕ) → HasRead c.loop-reading.reading text → IsTextFaultOf (capture_of text) fault) (λ fault. IfSome whole (λ text. IsFaultOf (capture_of text) fault))
    (λ fault is. comes_to (λ text. IsFaultOf (capture_of text) fault) whole old new at.0 at.2 read (c.in-Ok-eq0.ensures.bytes.1 none room) (as_fault (capture_of at.0) fault (is at.0 at.1))) c.finish.ensures.refused

pub returns-in-Ok-eq0-clause-input : goal.returns-in-Ok-eq0-clause-input
returns-in-Ok-eq0-clause-input g c =
    let at = c.loop-reading.invariant.read in
    never_input c.finish.result (capture_of at.0) (IfErr-weaker c.finish.result (λ fault. (text : List ℕ) → HasRead c.loop-reading.reading text → IsTextFaultOf (capture_of text) fault) (IsTextFaultOf (capture_of at.0)) (λ fault is. is at.0 at.1) c.finish.ensures.refused)

pub loop-reading-preserved : goal.loop-reading-preserved
loop-reading-preserved g c =
    let whole = g.R.CountedRead.rest c.args.reader.now in
    let old = g.R.CountedRead.rest c.loop-reading.reader in
    let new = g.R.CountedRead.rest c.read.new.self in
    let at = c.loop-reading.invariant.read in
    let bytes = c.read.new.buf in
    let full : length bytes ≡ c.loop-reading.piece.len = omega (arith, c.read.auto.buf, c.as_mut_slice.ensures.len) in
    let same = whole_buffer c.loop-reading.piece.len bytes c.loop-reading.piece.items c.deref.result.now full c.deref.ensures.value in
    let took = rw same at c.in_ok-take_large_piece-in-Ok.ensures.taken in
    record {
      read = (at.0 ++ take c.in-Ok.n bytes, took at.0 at.1, goes_on whole old new at.0 (take c.in-Ok.n bytes) at.2 c.in-Ok.ensures.bytes.0);
      failed = c.in-Ok.ensures.failed ∙ c.loop-reading.invariant.failed;
      room = c.loop-reading.invariant.room;
    }

pub returns-in_err-take_large_piece-in-Ok-clause-refused : goal.returns-in_err-take_large_piece-in-Ok-clause-refused
returns-in_err-take_large_piece-in-Ok-clause-refused g c =
    let whole = g.R.CountedRead.rest c.args.reader.now in
    let old = g.R.CountedRead.rest c.loop-reading.reader in
    let new = g.R.CountedRead.rest c.read.new.self in
    let at = c.loop-reading.invariant.read in
    let bytes = c.read.new.buf in
    let full : length bytes ≡ c.loop-reading.piece.len = omega (arith, c.read.auto.buf, c.as_mut_slice.ensures.len) in
    let same = whole_buffer c.loop-reading.piece.len bytes c.loop-reading.piece.items c.deref.result.now full c.deref.ensures.value in
    let refused = rw same at c.in_err-take_large_piece-in-Ok.ensures.refused in
    let p = err_from_is_err_and c.from_residual-in_err-take_large_piece-in-Ok.result c.from_residual-in_err-take_large_piece-in-Ok.ensures.1 in
    rw (p.1, p.2) (fails_there whole old new at.0 (take c.in-Ok.n bytes) _ at.2 c.in-Ok.ensures.bytes.0 (λ more. refused at.0 more at.1))

pub returns-in_err-take_large_piece-in-Ok-clause-input : goal.returns-in_err-take_large_piece-in-Ok-clause-input
returns-in_err-take_large_piece-in-Ok-clause-input g c =
    let at = c.loop-reading.invariant.read in
    let p = err_from_is_err_and c.from_residual-in_err-take_large_piece-in-Ok.result c.from_residual-in_err-take_large_piece-in-Ok.ensures.1 in
    no_input _ _ _ (c.in_err-take_large_piece-in-Ok.ensures.refused at.0 [] at.1) (p.1 ∙ ap Err p.2)

pub returns-in-Err-clause-refused : goal.returns-in-Err-clause-refused
returns-in-Err-clause-refused g c = says_nothing (g.R.CountedRead.rest c.args.reader.now)
