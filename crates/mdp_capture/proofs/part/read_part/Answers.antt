use Rattle.std.proofs.Common.{◌+◌, length, length-drop, arith, ap, ◌∙◌}
use Rattle.std.proofs.lemmas.List.{take_rest}
use Rattle.mdp_capture.specs.Line.{line_of}
use Rattle.mdp_capture.proofs.Splits.{free_of}
use Rattle.mdp_capture.proofs.Parts.{depths_more, depths_none, has_more, none_newest, says_more, says_none}
use Rattle.mdp_capture.proofs.part.read_part.Goals as goal

pub loop-end-preserved : goal.loop-end-preserved
loop-end-preserved g c =
    let rest = c.loop-end.rest.now in
    let k = c.in-Some.end in
    let read = c.loop-end.lines.items in
    let line = c.in_ok-line.line in
    let brought = c.in_ok-line.ensures.content in
    record {
      says = rw (c.in_ok-push.ensures.items, take_rest rest (k + 1)) (says_more c.args.text.now rest k read line c.loop-end.invariant.says c.in-Some.ensures (brought ∙ ap line_of c.without_carriage_return-text.ensures));
      depths = rw c.in_ok-push.ensures.items (depths_more read line c.loop-end.invariant.depths c.in_ok-line.ensures.depth);
      known = rw c.in_ok-push.ensures.items (has_more read line c.without_carriage_return-text.result.now brought);
      short = omega (arith, ap length (take_rest rest (k + 1)), length-drop (k + 1) rest, c.loop-end.invariant.short);
    }

pub loop-end-init : goal.loop-end-init
loop-end-init g c =
    let read = c.new-lines.result.items in
    let none = c.new-lines.ensures.items in
    record {
      says = says_none c.args.text.now read none;
      depths = depths_none read none;
      known = λ bytes is. absurd (none_newest read bytes none is);
      short = omega arith;
    }

pub returns-clause-unfinished : goal.returns-clause-unfinished
returns-clause-unfinished g c = free_of 10 c.loop-end.rest.now c.in_default.ensures
