use Rattle.std.proofs.Common.{◌≡◌, ℕ, ◌+◌, ◌-◌, ◌<◌, List, ◌∷◌, Some, length, take, drop, sym, ap, ◌∙◌, arith}
use Rattle.std.specs.Str.Lines.{lines, strip_carriage_return}
use Rattle.std.proofs.lemmas.Bool.{eqb-false}
use Rattle.std.proofs.lemmas.List.{drop_all, take_rest}
use denote.Ref.{Bor}
use Rattle.memchr.specs.Find.{IsFirstByte, is_byte}
use Rattle.mdp_capture.proofs.Pieces.{lines_at, lines_last}
use Rattle.mdp_capture.proofs.Splits.{free_before, free_of, split_there}
use Rattle.mdp_channel.proofs.Stripping.{stripped}
use Rattle.mdp_channel.proofs.lines.LinesIterator.next.Goals as goal

-- the line before the first line feed, and those behind it
cut_there : (text line : List ℕ) (end : ℕ) → IsFirstByte (is_byte 10) text (Some end) → line ≡ strip_carriage_return (take end text)
    → lines text ≡ line ∷ lines (take (length text - (end + 1)) (drop (end + 1) text))
cut_there text line end first is =
    let behind = drop (end + 1) text in
    ap lines (split_there 10 text end first) ∙ lines_at (take end text) behind (free_before 10 text end first)
    ∙ ap (λ (l : List ℕ). l ∷ lines behind) (sym is) ∙ ap (λ (rest : List ℕ). line ∷ lines rest) (sym (take_rest text (end + 1)))

pub returns-in_default-clause-steps : goal.returns-in_default-clause-steps
returns-in_default-clause-steps c =
    let text = c.args.self.now.rest.now in
    let some : 0 < length text = omega (arith, eqb-false (length text) 0 (sym c.is_empty.ensures ∙ c.if-is_empty.false)) in
    lines_last text (free_of 10 text c.in_default.ensures) some
    ∙ ap (λ (rest : List ℕ). text ∷ lines rest) (sym (take_rest text (length text) ∙ drop_all (length text) text (omega arith)))

pub returns-clause-steps : goal.returns-clause-steps
returns-clause-steps c =
    let is = ap (λ (line : Bor (List ℕ)). line.now) c.unwrap_or.ensures ∙ stripped _ c.strip_suffix.result c.strip_suffix.ensures.cases in
    cut_there c.args.self.now.rest.now c.unwrap_or.result.now c.in-Some.end c.in-Some.ensures is

pub returns-clause-goes : goal.returns-clause-goes
returns-clause-goes c =
    let is = ap (λ (line : Bor (List ℕ)). line.now) c.unwrap_or.ensures ∙ stripped _ c.strip_suffix.result c.strip_suffix.ensures.cases in
    let steps = cut_there c.args.self.now.rest.now c.unwrap_or.result.now c.in-Some.end c.in-Some.ensures is in
    record { on = λ finite. (tt, tt, omega (arith, ap length steps)); keeps = tt; rests = λ finite. tt }
