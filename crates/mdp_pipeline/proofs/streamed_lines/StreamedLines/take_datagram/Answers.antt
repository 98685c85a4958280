use Rattle.std.proofs.Common.{◌≡◌, ◌++◌, ℕ, List, Some, refl, ap, subst, ◌∙◌}
use Rattle.mdp_capture.specs.Record.{Datagram}
use Rattle.mdp_pipeline.specs.Notes.{moved_notes}
use Rattle.mdp_pipeline.specs.Running.{TakesMoving}
use Rattle.mdp_pipeline.proofs.LinesBehind.{datagram_run, datagram_unrun}
use Rattle.mdp_pipeline.proofs.streamed_lines.StreamedLines.take_datagram.Goals as goal

pub returns-in_default-clause-taken : goal.returns-in_default-clause-taken
returns-in_default-clause-taken g c =
    datagram_unrun c.args.self.now c.begin.new.self c.args.feed c.args.self.now.decoder.bytes c.in_ok-begin.ensures.begins c.in_default.is

pub returns-clause-taken : goal.returns-clause-taken
returns-clause-taken g c =
    let mid = c.begin.new.self in
    let bytes = c.args.self.now.decoder.bytes in
    let moved = c.in_ok-moved.moved in
    let left = c.take_datagram_with_moves.new.self in
    let line_is = c.begin.ensures.line in
    let bytes_is : c.bytes-bytes.result.now ≡ bytes = c.bytes-bytes.ensures ∙ ap (λ d. d.bytes) c.begin.ensures.decoder in
    let takes = subst (λ (n : ℕ). TakesMoving c.args.feed (record { line = n; received = Datagram bytes }) moved c.in-Some.run' left) line_is
    (subst (λ (b : List ℕ). TakesMoving c.args.feed (record { line = mid.line; received = Datagram b }) moved c.in-Some.run' left) bytes_is c.in_ok-moved.ensures) in
    datagram_run c.args.self.now mid (record mid { run = Some left; notes = c.note_moves.new.notes }) c.args.feed bytes moved c.in-Some.run' left c.in_ok-begin.ensures.begins refl c.in-Some.is refl takes
    (c.in_ok-note_moves.ensures ∙ ap (λ (n : ℕ). mid.notes.items ++ moved_notes n moved) line_is)
