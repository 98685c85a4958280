use Rattle.std.proofs.Common.{◌++◌, ◌∙◌}
use Rattle.std.proofs.lemmas.Result.{err_from_is_err_and}
use Rattle.mdp_pipeline.proofs.Sending.{sends_a, sends_b, sends_s}
use Rattle.mdp_pipeline.proofs.refusals.Refusals.write_lines.Goals as goal

-- ---- feed A's lines

pub returns-in_err-write_words-clause-begins : goal.returns-in_err-write_words-clause-begins
returns-in_err-write_words-clause-begins g c =
    let fault = err_from_is_err_and c.from_residual.result c.from_residual.ensures.1 in
    let lines = c.self.inside in
    let some = c.in_err-write_words.ensures.begins in
    rw (fault.1, ← c.self.view_is) (
      some.0 ++ (lines.b ++ lines.s),
      sends_a c.args.held.now.items lines.a lines.b lines.s (g.W.CountedWrite.taken c.args.writer.now) (g.W.CountedWrite.taken c.write_words.new.writer) some.0 c.words.ensures some.1,
    )

pub returns-in_err-write_words-clause-told : goal.returns-in_err-write_words-clause-told
returns-in_err-write_words-clause-told g c =
    let fault = err_from_is_err_and c.from_residual.result c.from_residual.ensures.1 in
    rw (fault.1, fault.2) c.in_err-write_words.ensures.told

pub returns-in_err-write_words-clause-failed : goal.returns-in_err-write_words-clause-failed
returns-in_err-write_words-clause-failed g c =
    let fault = err_from_is_err_and c.from_residual.result c.from_residual.ensures.1 in
    rw (fault.1, fault.2) c.in_err-write_words.ensures.failed

-- ---- feed B's

pub returns-in_err-write_words-2-clause-begins : goal.returns-in_err-write_words-2-clause-begins
returns-in_err-write_words-2-clause-begins g c =
    let from = c.from_residual-in_err-write_words-2 in
    let fault = err_from_is_err_and from.result from.ensures.1 in
    let lines = c.self.inside in
    let some = c.in_err-write_words-2.ensures.begins in
    rw (fault.1, ← c.self.view_is) (
      some.0 ++ lines.s,
      sends_b c.args.held.now.items lines.a lines.b lines.s (g.W.CountedWrite.taken c.args.writer.now) (g.W.CountedWrite.taken c.write_words.new.writer) (g.W.CountedWrite.taken c.write_words-2.new.writer)
          c.write_words.new.held.items some.0 c.words.ensures c.words-2.ensures c.in_ok-write_words.ensures.sends some.1,
    )

pub returns-in_err-write_words-2-clause-told : goal.returns-in_err-write_words-2-clause-told
returns-in_err-write_words-2-clause-told g c =
    let from = c.from_residual-in_err-write_words-2 in
    let fault = err_from_is_err_and from.result from.ensures.1 in
    rw (fault.1, fault.2) c.in_err-write_words-2.ensures.told

pub returns-in_err-write_words-2-clause-failed : goal.returns-in_err-write_words-2-clause-failed
returns-in_err-write_words-2-clause-failed g c =
    let from = c.from_residual-in_err-write_words-2 in
    let fault = err_from_is_err_and from.result from.ensures.1 in
    rw (fault.1, fault.2) (rw (← c.in_ok-write_words.ensures.failed) c.in_err-write_words-2.ensures.failed)

-- ---- feed S's

pub returns-in_err-write_words-3-clause-begins : goal.returns-in_err-write_words-3-clause-begins
returns-in_err-write_words-3-clause-begins g c =
    let from = c.from_residual-in_err-write_words-3 in
    let fault = err_from_is_err_and from.result from.ensures.1 in
    let lines = c.self.inside in
    let some = c.in_err-write_words-3.ensures.begins in
    rw (fault.1, ← c.self.view_is) (
      some.0,
      sends_s c.args.held.now.items lines.a lines.b lines.s (g.W.CountedWrite.taken c.args.writer.now) (g.W.CountedWrite.taken c.write_words.new.writer) (g.W.CountedWrite.taken c.write_words-2.new.writer) (g.W.CountedWrite.taken c.write_words-3.new.writer)
          c.write_words.new.held.items c.write_words-2.new.held.items some.0 c.words.ensures c.words-2.ensures c.words-3.ensures c.in_ok-write_words.ensures.sends c.in_ok-write_words-2.ensures.sends some.1,
    )

pub returns-in_err-write_words-3-clause-told : goal.returns-in_err-write_words-3-clause-told
returns-in_err-write_words-3-clause-told g c =
    let from = c.from_residual-in_err-write_words-3 in
    let fault = err_from_is_err_and from.result from.ensures.1 in
    rw (fault.1, fault.2) c.in_err-write_words-3.ensures.told

pub returns-in_err-write_words-3-clause-failed : goal.returns-in_err-write_words-3-clause-failed
returns-in_err-write_words-3-clause-failed g c =
    let from = c.from_residual-in_err-write_words-3 in
    let fault = err_from_is_err_and from.result from.ensures.1 in
    rw (fault.1, fault.2) (rw (← (c.in_ok-write_words-2.ensures.failed ∙ c.in_ok-write_words.ensures.failed)) c.in_err-write_words-3.ensures.failed)

-- ---- all of them

pub returns-clause-sends : goal.returns-clause-sends
returns-clause-sends g c =
    let lines = c.self.inside in
    rw (← c.self.view_is)
    (sends_s c.args.held.now.items lines.a lines.b lines.s (g.W.CountedWrite.taken c.args.writer.now) (g.W.CountedWrite.taken c.write_words.new.writer) (g.W.CountedWrite.taken c.write_words-2.new.writer) (g.W.CountedWrite.taken c.write_words-3.new.writer)
    c.write_words.new.held.items c.write_words-2.new.held.items c.write_words-3.new.held.items c.words.ensures c.words-2.ensures c.words-3.ensures c.in_ok-write_words.ensures.sends c.in_ok-write_words-2.ensures.sends c.in_ok-write_words-3.ensures.sends)

pub returns-clause-failed : goal.returns-clause-failed
returns-clause-failed g c = c.in_ok-write_words-3.ensures.failed ∙ c.in_ok-write_words-2.ensures.failed ∙ c.in_ok-write_words.ensures.failed
