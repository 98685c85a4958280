use Rattle.std.proofs.Common.{◌≡◌, ◌+◌, ◌++◌, [], List, ℕ, length, sym, ◌∙◌, subst, arith}
use Rattle.std.specs.Prelude.{IfErr}
use Rattle.std.proofs.lemmas.Bool.Decides.{nat_tests}
use Rattle.std.proofs.lemmas.List.{nil_from_length, take_rest}
use Rattle.std.proofs.lemmas.Result.{err_from_is_err_and, IfErr-weaker, on_ok_weaker}
use Rattle.mdp_capture.specs.Capture.{IfRefused}
use Rattle.mdp_capture.specs.Cutting.{BeginsWithLines, IsStopped}
use Rattle.mdp_capture.proofs.LinesCut.{ended_cut, stops_at_pending, stops_later}
use Rattle.mdp_capture.proofs.Pieces.{free_append}
use Rattle.mdp_capture.proofs.Splits.{IsFreeOf, free_before, free_of}
use Rattle.mdp_capture.proofs.cutter.LineCutter.take_piece.Goals as goal

-- with nothing pending, a piece begins with a line
pub returns-then-is_empty-clause-refused : goal.returns-then-is_empty-clause-refused
returns-then-is_empty-clause-refused g c =
    let empty : length c.self.inside.pending.items ≡ 0 = grind (arith, nat_tests) in
    let none : c.args.self.now ≡ [] = sym c.self.view_is ∙ nil_from_length c.self.inside.pending.items empty in
    subst (λ (t : List ℕ). IfErr c.take_lines.result (λ fault. IfRefused fault (IsStopped (BeginsWithLines (t ++ c.args.piece.now)) (λ front. g.L.TakesLines.takes c.args.taker.now front c.take_lines.new.taker) (g.L.TakesLines.refuses c.take_lines.new.taker)))) (sym none) c.take_lines.ensures.refused

-- no line feed: all is pending
pub invariant_of-self-in_default : goal.invariant_of-self-in_default
invariant_of-self-in_default g c =
    let piece = c.args.piece.now in
    subst (IsFreeOf 10) (sym c.in_ok-extend_from_slice.ensures.items) (free_append 10 c.self.inside.pending.items piece c.self.invariant (free_of 10 piece c.in_default.ensures))

pub end_line-requires : goal.end_line-requires
end_line-requires g c = free_before 10 c.args.piece.now c.in-Some.end c.in-Some.ensures

pub returns-in_err-end_line-clause-refused : goal.returns-in_err-end_line-clause-refused
returns-in_err-end_line-clause-refused g c =
    let p = err_from_is_err_and c.from_residual-in_err-end_line.result c.from_residual-in_err-end_line.ensures.1 in
    let t = g.L.TakesLines in
    let laws = g.met.L.TakesLines in
    let free : IsFreeOf 10 c.args.self.now = subst (IsFreeOf 10) c.self.view_is c.self.invariant in
    rw (p.1, p.2) (stops_at_pending t.takes laws.takes_none laws.takes_more (t.refuses c.end_line.new.taker) c.args.taker.now c.end_line.new.taker c.args.self.now c.args.piece.now c.in-Some.end _ free c.in-Some.ensures c.in_err-end_line.ensures.refused)

pub returns-clause-taken : goal.returns-clause-taken
returns-clause-taken g c =
    let piece = c.args.piece.now in
    let k = c.in-Some.end in
    let t = g.L.TakesLines in
    let laws = g.met.L.TakesLines in
    let free : IsFreeOf 10 c.args.self.now = subst (IsFreeOf 10) c.self.view_is c.self.invariant in
    let further = rw (take_rest piece (k + 1)) at c.take_lines-2.ensures.taken in
    on_ok_weaker c.take_lines-2.result
    (λ cut. ended_cut t.takes laws.takes_none laws.takes_more c.args.taker.now c.end_line.new.taker c.take_lines-2.new.taker c.args.self.now piece _ k free c.in-Some.ensures c.in_ok-end_line.ensures.taken cut)
    further

pub returns-clause-refused : goal.returns-clause-refused
returns-clause-refused g c =
    let piece = c.args.piece.now in
    let k = c.in-Some.end in
    let t = g.L.TakesLines in
    let laws = g.met.L.TakesLines in
    let free : IsFreeOf 10 c.args.self.now = subst (IsFreeOf 10) c.self.view_is c.self.invariant in
    let refused = rw (take_rest piece (k + 1)) at c.take_lines-2.ensures.refused in
    IfErr-weaker c.take_lines-2.result _ _
    (λ fault stop. stops_later t.takes laws.takes_none laws.takes_more (t.refuses c.take_lines-2.new.taker) c.args.taker.now c.end_line.new.taker c.take_lines-2.new.taker c.args.self.now piece k fault free c.in-Some.ensures c.in_ok-end_line.ensures.taken stop)
    refused
