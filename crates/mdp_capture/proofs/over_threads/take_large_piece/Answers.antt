use Rattle.std.proofs.Common.{◌++◌, ℕ, List, take, drop, sym, ap, ◌∙◌, subst, append_assoc}
use Rattle.std.proofs.lemmas.List.{take_rest}
use Rattle.std.proofs.lemmas.Result.{err_from_is_err_and, IfErr-weaker, on_ok_weaker}
use Rattle.mdp_capture.specs.Capture.{capture_of}
use Rattle.mdp_capture.specs.Reading.{HasRead, RefusesPiece}
use Rattle.mdp_capture.proofs.Parts.{cut_whole, two_parts}
use Rattle.mdp_capture.proofs.Pieces.{same_fault}
use Rattle.mdp_capture.proofs.over_threads.take_large_piece.Goals as goal

pub returns-in_err-take_piece-clause-refused : goal.returns-in_err-take_piece-clause-refused
returns-in_err-take_piece-clause-refused g c =
    let p = err_from_is_err_and c.from_residual.result c.from_residual.ensures.1 in
    let old = c.args.reading.now in
    let piece = c.args.piece.now in
    let end = c.end_of_part-end.result in
    let rest = drop end piece in
    rw (p.1, p.2) (λ text more taken.
    same_fault _ _ _ (ap capture_of (two_parts text (take end piece) rest more (text ++ piece) (cut_whole end text piece)))
    (c.in_err-take_piece.ensures.refused text (rest ++ more) taken))

pub returns-clause-taken : goal.returns-clause-taken
returns-clause-taken g c =
    let piece = c.args.piece.now in
    let end = c.end_of_part-end.result in
    let further = rw (take_rest piece end) at c.take_by_parts.ensures.taken in
    on_ok_weaker c.take_by_parts.result
    (λ on text taken. subst (HasRead c.take_by_parts.new.reading) (append_assoc text (take end piece) (drop end piece) ∙ cut_whole end text piece)
    (on (text ++ take end piece) (c.in_ok-take_piece.ensures.taken text taken)))
    further

pub returns-clause-refused : goal.returns-clause-refused
returns-clause-refused g c =
    let old = c.args.reading.now in
    let mid = c.take_piece-2.new.self in
    let piece = c.args.piece.now in
    let end = c.end_of_part-end.result in
    let refused = rw (take_rest piece end) at c.take_by_parts.ensures.refused in
    IfErr-weaker c.take_by_parts.result (RefusesPiece mid (drop end piece)) (RefusesPiece old piece)
    (λ fault is text more taken.
    same_fault _ _ fault (ap capture_of (ap (λ (t : List ℕ). t ++ more) (sym (append_assoc text (take end piece) (drop end piece) ∙ cut_whole end text piece))))
    (is (text ++ take end piece) more (c.in_ok-take_piece.ensures.taken text taken)))
    refused
