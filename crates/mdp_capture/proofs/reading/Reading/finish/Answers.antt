use Rattle.std.proofs.Common.{◌≡◌, ℕ, List, Ok, ◌∙◌}
use Rattle.std.specs.Str.Lines.{lines}
use Rattle.std.proofs.lemmas.Result.{err_from_is_err_and, IfErr-weaker, IfOk-weaker}
use Rattle.mdp_capture.specs.Capture.{IsTextFaultOf, capture_of, needs_instrument}
use Rattle.mdp_capture.specs.Draft.{HoldsLines, capture_so_far}
use Rattle.mdp_capture.specs.Reading.{HasRead}
use Rattle.mdp_capture.proofs.Drafts.{end_refused, read_all, whole_text}
use Rattle.mdp_capture.proofs.Pieces.{same_fault}
use Rattle.mdp_capture.proofs.reading.Reading.finish.Goals as goal

pub returns-in_err-end-clause-refused : goal.returns-in_err-end-clause-refused
returns-in_err-end-clause-refused g c =
    let p = err_from_is_err_and c.from_residual.result c.from_residual.ensures.1 in
    rw (p.1, p.2) (end_refused c.args.self c.end.new.taker _ c.in_err-end.ensures.refused)

pub returns-clause-capture : goal.returns-clause-capture
returns-clause-capture g c =
    let draft = c.end.new.taker in
    let held : (text : List ℕ) → HasRead c.args.self text → HoldsLines draft (lines text) = λ text read. read_all c.args.self draft text c.in_ok-end.ensures.taken read in
    IfOk-weaker c.finish.result (λ capture. needs_instrument (Ok (capture_so_far draft)) ≡ Ok capture) (λ capture. (text : List ℕ) → HasRead c.args.self text → capture_of text ≡ Ok capture)
    (λ capture is text read. whole_text draft text (held text read) ∙ is) c.finish.ensures.capture

pub returns-clause-refused : goal.returns-clause-refused
returns-clause-refused g c =
    let draft = c.end.new.taker in
    let held : (text : List ℕ) → HasRead c.args.self text → HoldsLines draft (lines text) = λ text read. read_all c.args.self draft text c.in_ok-end.ensures.taken read in
    IfErr-weaker c.finish.result (IsTextFaultOf (needs_instrument (Ok (capture_so_far draft)))) (λ fault. (text : List ℕ) → HasRead c.args.self text → IsTextFaultOf (capture_of text) fault)
    (λ fault is text read. same_fault _ _ fault (whole_text draft text (held text read)) is) c.finish.ensures.refused
