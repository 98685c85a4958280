use Rattle.std.proofs.Common.{◌≡◌, ◌<◌, ◌∷◌, [], ℕ, List, length, sym, ap, ◌∙◌, subst, arith}
use Rattle.std.proofs.lemmas.Bool.Decides.{nat_tests}
use Rattle.std.specs.Prelude.{IfErr}
use Rattle.std.proofs.lemmas.Result.{IfErr-weaker, on_ok_weaker}
use Rattle.mdp_capture.specs.Capture.{IfRefused}
use Rattle.mdp_capture.specs.Cutting.{IsStopped}
use Rattle.std.specs.Str.Lines.{lines}
use Rattle.mdp_capture.proofs.LinesCut.{stops_last}
use Rattle.mdp_capture.proofs.Pieces.{lines_last}
use Rattle.mdp_capture.proofs.Splits.{IsFreeOf}
use Rattle.mdp_capture.proofs.cutter.LineCutter.end.Goals as goal

pub returns-clause-taken : goal.returns-clause-taken
returns-clause-taken g c =
    let t = g.L.TakesLines in
    let pending = c.self.inside.pending.items in
    let some : 0 < length pending = grind (arith, nat_tests) in
    let is : pending ∷ [] ≡ lines c.args.self.now = sym (lines_last pending c.self.invariant some) ∙ ap lines c.self.view_is in
    let step = rw c.as_slice-last.ensures.value at c.take_line.ensures.taken in
    on_ok_weaker c.take_line.result (λ taken. subst (λ (ls : List (List ℕ)). t.takes c.args.taker.now ls c.take_line.new.self) is taken) step

pub returns-clause-refused : goal.returns-clause-refused
returns-clause-refused g c =
    let t = g.L.TakesLines in
    let laws = g.met.L.TakesLines in
    let pending = c.self.inside.pending.items in
    let some : 0 < length pending = grind (arith, nat_tests) in
    let left = rw c.as_slice-last.ensures.value at c.take_line.ensures.refused in
    let stops = stops_last t.takes laws.takes_none laws.takes_more (t.refuses c.take_line.new.self) c.args.taker.now c.take_line.new.self pending in
    let free : IsFreeOf 10 pending = c.self.invariant in
    subst (λ (p : List ℕ). IfErr c.take_line.result (λ fault. IfRefused fault (IsStopped (λ all. all ≡ lines p) (λ front. t.takes c.args.taker.now front c.take_line.new.self) (t.refuses c.take_line.new.self)))) c.self.view_is
    (IfErr-weaker c.take_line.result _ _ (λ fault out. stops fault free some out) left)
