use Rattle.std.proofs.Common.{◌+◌, List, ℕ, [], ◌∷◌, length, take, drop, sym, ap, ◌∙◌, arith}
use Rattle.std.specs.Str.Lines.{lines}
use Rattle.std.proofs.lemmas.List.{take_all, drop_all}
use Rattle.mdp_capture.proofs.Pieces.{lines_at, lines_last}
use Rattle.mdp_capture.proofs.Splits.{free_before, free_of, split_there}
use Rattle.mdp_session.proofs.text.first_line.Goals as goal

pub returns-in-Some-clause-line : goal.returns-in-Some-clause-line
returns-in-Some-clause-line c =
    let text = c.args.text.now in
    let end = c.in-Some.end in
    let behind = drop (end + 1) text in
    ap lines (split_there 10 text end c.in-Some.ensures) ∙ lines_at (take end text) behind (free_before 10 text end c.in-Some.ensures)
    ∙ ap (λ (line : List ℕ). line ∷ lines behind) (sym c.bytes_before.ensures.line)

pub returns-in-None-clause-line : goal.returns-in-None-clause-line
returns-in-None-clause-line c =
    let text = c.args.text.now in
    lines_last text (free_of 10 text c.in-None.ensures) c.requires
    ∙ ap (λ (line : List ℕ). line ∷ []) (sym (take_all (length text) text (omega arith)))
    ∙ ap (λ (rest : List ℕ). take (length text) text ∷ lines rest) (sym (drop_all (length text) text (omega arith)))
