use Rattle.std.proofs.Common.{◌++◌, List, ℕ, take, ap, ◌∙◌, arith}
use Rattle.std.proofs.lemmas.Result.{err_from_is_err_and}
use Rattle.mdp_print.specs.Texts.{last_line}
use Rattle.mdp_pipeline.specs.Running.{joined_texts}
use Rattle.mdp_pipeline.proofs.Sending.{begins_end, begins_rest, sends_lines, sends_rest}
use Rattle.mdp_pipeline.proofs.summary.write_end.Goals as goal

pub returns-clause-text : goal.returns-clause-text
returns-clause-text g c =
    let lines = joined_texts c.args.refusals in
    let start = g.W.CountedWrite.taken c.args.writer.now in
    let taken = g.W.CountedWrite.taken c.write_lines.new.writer in
    let held = c.write_lines.new.held.items in
    sends_rest lines (last_line c.args.standing.next c.args.standing.lost) start taken (g.W.CountedWrite.taken c.hand_on.new.writer) held
    (sends_lines c.new-held.result.items lines start taken held c.new-held.ensures.items c.in_ok-write_lines.ensures.sends)
    (c.in_ok-hand_on.ensures.taken ∙ ap (λ (t : List ℕ). taken ++ t) (c.deref.ensures.value ∙ c.in-Ok.ensures.ok))

-- a line of a refused datagram was not held, or a piece not written
pub returns-in_err-write_lines-clause-begins : goal.returns-in_err-write_lines-clause-begins
returns-in_err-write_lines-clause-begins g c =
    let fault = err_from_is_err_and c.from_residual.result c.from_residual.ensures.1 in
    let lines = joined_texts c.args.refusals in
    let start = g.W.CountedWrite.taken c.args.writer.now in
    let taken = g.W.CountedWrite.taken c.write_lines.new.writer in
    let some = c.in_err-write_lines.ensures.begins in
    rw fault.1
    (begins_end lines (last_line c.args.standing.next c.args.standing.lost) start taken some.0 (sends_lines c.new-held.result.items lines start taken some.0 c.new-held.ensures.items some.1))

pub returns-in_err-write_lines-clause-told : goal.returns-in_err-write_lines-clause-told
returns-in_err-write_lines-clause-told g c =
    let fault = err_from_is_err_and c.from_residual.result c.from_residual.ensures.1 in
    rw (fault.1, fault.2) c.in_err-write_lines.ensures.told

pub returns-in_err-write_lines-clause-failed : goal.returns-in_err-write_lines-clause-failed
returns-in_err-write_lines-clause-failed g c =
    let fault = err_from_is_err_and c.from_residual.result c.from_residual.ensures.1 in
    rw (fault.1, fault.2) c.in_err-write_lines.ensures.failed

-- there was no memory for the last line
pub returns-in_default-clause-begins : goal.returns-in_default-clause-begins
returns-in_default-clause-begins g c =
    let lines = joined_texts c.args.refusals in
    let start = g.W.CountedWrite.taken c.args.writer.now in
    let taken = g.W.CountedWrite.taken c.write_lines.new.writer in
    let held = c.write_lines.new.held.items in
    begins_end lines (last_line c.args.standing.next c.args.standing.lost) start taken held (sends_lines c.new-held.result.items lines start taken held c.new-held.ensures.items c.in_ok-write_lines.ensures.sends)

pub returns-in_default-clause-failed : goal.returns-in_default-clause-failed
returns-in_default-clause-failed g c = rw c.out_of_memory.ensures (omega (arith, c.in_ok-write_lines.ensures.failed))

-- the last write failed
pub returns-in_err-hand_on-clause-begins : goal.returns-in_err-hand_on-clause-begins
returns-in_err-hand_on-clause-begins g c =
    let from = c.from_residual-in_err-hand_on in
    let fault = err_from_is_err_and from.result from.ensures.1 in
    let lines = joined_texts c.args.refusals in
    let start = g.W.CountedWrite.taken c.args.writer.now in
    let taken = g.W.CountedWrite.taken c.write_lines.new.writer in
    let held = c.write_lines.new.held.items in
    let front = c.in_err-hand_on.ensures.begins in
    rw fault.1
    (begins_rest lines (last_line c.args.standing.next c.args.standing.lost) start taken (g.W.CountedWrite.taken c.hand_on.new.writer) held front.0
    (sends_lines c.new-held.result.items lines start taken held c.new-held.ensures.items c.in_ok-write_lines.ensures.sends)
    (front.1 ∙ ap (λ (t : List ℕ). taken ++ take front.0 t) (c.deref.ensures.value ∙ c.in-Ok.ensures.ok)))

pub returns-in_err-hand_on-clause-told : goal.returns-in_err-hand_on-clause-told
returns-in_err-hand_on-clause-told g c =
    let from = c.from_residual-in_err-hand_on in
    let fault = err_from_is_err_and from.result from.ensures.1 in
    rw (fault.1, fault.2) c.in_err-hand_on.ensures.told

pub returns-in_err-hand_on-clause-failed : goal.returns-in_err-hand_on-clause-failed
returns-in_err-hand_on-clause-failed g c =
    let from = c.from_residual-in_err-hand_on in
    let fault = err_from_is_err_and from.result from.ensures.1 in
    rw (fault.1, fault.2) (rw (← c.in_ok-write_lines.ensures.failed) c.in_err-hand_on.ensures.failed)
