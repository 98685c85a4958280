use Rattle.std.proofs.Common.{◌+◌, ◌++◌, drop, refl, ◌∙◌, arith}
use Rattle.std.specs.List.{flat_map}
use Rattle.std.proofs.lemmas.Result.{err_from_is_err_and}
use Rattle.mdp_pipeline.specs.RefusalTexts.{word_text}
use Rattle.mdp_pipeline.proofs.Sending.{sends_nothing, sends_word, sends_words}
use Rattle.mdp_pipeline.proofs.pieces.write_words.Goals as goal

pub loop-word-init : goal.loop-word-init
loop-word-init g c = record {
  sends = sends_nothing (c.args.held.now.items ++ flat_map word_text c.args.words.now) (g.W.CountedWrite.taken c.args.writer.now);
  failed = refl;
}

pub loop-word-preserved : goal.loop-word-preserved
loop-word-preserved g c =
    let words = c.args.words.now in
    record {
      sends = sends_word words c.loop-word.word-index _ (c.args.held.now.items ++ flat_map word_text words) (g.W.CountedWrite.taken c.args.writer.now) (g.W.CountedWrite.taken c.loop-word.writer) (g.W.CountedWrite.taken c.write_word.new.writer)
          c.loop-word.held.items c.write_word.new.held.items c.loop-word-test.true c.loop-word.invariant.sends c.in_ok-write_word.ensures.sends;
      failed = c.in_ok-write_word.ensures.failed ∙ c.loop-word.invariant.failed;
    }

-- a line was not held, or a piece not written
pub returns-in_err-write_word-clause-begins : goal.returns-in_err-write_word-clause-begins
returns-in_err-write_word-clause-begins g c =
    let fault = err_from_is_err_and c.from_residual.result c.from_residual.ensures.1 in
    let words = c.args.words.now in
    let i = c.loop-word.word-index in
    let some = c.in_err-write_word.ensures.begins in
    rw fault.1 (
      some.0 ++ flat_map word_text (drop (i + 1) words),
      sends_word words i _ (c.args.held.now.items ++ flat_map word_text words) (g.W.CountedWrite.taken c.args.writer.now) (g.W.CountedWrite.taken c.loop-word.writer) (g.W.CountedWrite.taken c.write_word.new.writer)
          c.loop-word.held.items some.0 c.loop-word-test.true c.loop-word.invariant.sends some.1,
    )

pub returns-in_err-write_word-clause-told : goal.returns-in_err-write_word-clause-told
returns-in_err-write_word-clause-told g c =
    let fault = err_from_is_err_and c.from_residual.result c.from_residual.ensures.1 in
    rw (fault.1, fault.2) c.in_err-write_word.ensures.told

pub returns-in_err-write_word-clause-failed : goal.returns-in_err-write_word-clause-failed
returns-in_err-write_word-clause-failed g c =
    let fault = err_from_is_err_and c.from_residual.result c.from_residual.ensures.1 in
    rw (fault.1, fault.2) (rw (← c.loop-word.invariant.failed) c.in_err-write_word.ensures.failed)

pub returns-clause-sends : goal.returns-clause-sends
returns-clause-sends g c =
    let words = c.args.words.now in
    sends_words words c.loop-word.word-index (c.args.held.now.items ++ flat_map word_text words) (g.W.CountedWrite.taken c.args.writer.now) (g.W.CountedWrite.taken c.loop-word.writer) c.loop-word.held.items
    (omega (arith, c.loop-word-test.false)) c.loop-word.invariant.sends
