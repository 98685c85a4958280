use Rattle.std.proofs.Common.{◌∷◌, ◌++◌, length, sym, ap, ◌∙◌, arith}
use Rattle.std.specs.Vec.Iter.{into_iter_items}
use Rattle.std.proofs.lemmas.List.{nil_from_length}
use Rattle.std.proofs.lemmas.List.Elements.{All-tail}
use Rattle.std.proofs.lemmas.Result.{err_from_is_err_and}
use Rattle.mdp_capture.specs.Parsed.{ListsDepth, content_of}
use Rattle.mdp_capture.specs.Part.{ListDepths, capture_after, contents_of}
use Rattle.mdp_capture.proofs.Parts.{content_added, content_refused, next_contents}
use Rattle.mdp_capture.proofs.Drafts.{out_is_fault}
use Rattle.mdp_capture.proofs.Pieces.{same_fault}
use Rattle.mdp_capture.proofs.draft.Draft.add_lines.Goals as goal

pub loop-line-preserved : goal.loop-line-preserved
loop-line-preserved g c =
    let at = c.loop-line in
    let x = c.in-Some.line in
    let steps = c.in-Some.ensures.steps in
    let left = into_iter_items at.line-iterator in
    let further = into_iter_items c.next.new.self in
    let added = c.in_ok-add_line.ensures in
    record {
      capture = λ rest.
          at.invariant.capture rest
          ∙ ap (capture_after at.self) (next_contents left further x rest steps.0)
          ∙ content_added at.self c.add_line.new.self (content_of x) (contents_of further ++ rest) added.capture added.line;
      depths = let all : ListDepths (x ∷ further) = rw steps.0 at at.invariant.depths in All-tail (λ line. ListsDepth (content_of line)) x further all;
      left =
          let was = at.invariant.left in
          let gone = steps.1 in
          let short = ap length steps.0 in
          omega arith;
    }

pub returns-in_err-add_line-clause-refused : goal.returns-in_err-add_line-clause-refused
returns-in_err-add_line-clause-refused g c =
    let p = err_from_is_err_and c.from_residual.result c.from_residual.ensures.1 in
    let at = c.loop-line in
    let x = c.in-Some.line in
    let left = into_iter_items at.line-iterator in
    let further = into_iter_items c.next.new.self in
    rw (p.1, p.2) (λ rest. same_fault _ _ _ (at.invariant.capture rest ∙ ap (capture_after at.self) (next_contents left further x rest c.in-Some.ensures.steps.0)) (content_refused at.self (content_of x) (contents_of further ++ rest) _ (out_is_fault at.self c.add_line.new.self (content_of x) _ c.in_err-add_line.ensures.refused)))

pub returns-clause-capture : goal.returns-clause-capture
returns-clause-capture g c rest =
    let at = c.loop-line in
    let none = nil_from_length (into_iter_items at.line-iterator) (sym at.invariant.left ∙ c.in-None.ensures.steps.0) in
    at.invariant.capture rest ∙ ap (λ lines. capture_after at.self (contents_of lines ++ rest)) none
