use Rattle.std.proofs.Common.{◌≡◌, ◌++◌, List, length}
use Rattle.std.specs.Vec.Iter.{into_iter_items, into_iter_len}
use Rattle.mdp_capture.specs.Line.{LineContent}
use Rattle.mdp_capture.specs.Part.{ListDepths, capture_after, contents_of}
use Rattle.mdp_capture.proofs.draft.Draft.add_lines.Given as goal

-- with the lines that are left the capture comes to what it did with all of them
abbrev pub invariant-loop-line : goal.invariant-loop-line
invariant-loop-line g l = record {
  capture : (rest : List LineContent) → capture_after l.initial.self (contents_of l.fn.lines.items ++ rest) ≡ capture_after l.self (contents_of (into_iter_items l.line-iterator) ++ rest);
  depths : ListDepths (into_iter_items l.line-iterator);
  left : into_iter_len l.line-iterator ≡ length (into_iter_items l.line-iterator);
}
