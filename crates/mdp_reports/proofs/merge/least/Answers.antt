use Rattle.std.proofs.Common.{◌≡◌, ◌-◌, ◌+◌, ℕ, length, drop, refl, sym, ap, ◌∙◌, arith}
use Rattle.std.specs.Prelude.{Option}
use Rattle.mdp_reports.specs.Next.{lesser, least_of}
use Rattle.mdp_reports.specs.Contents.{slot_first}
use Rattle.mdp_reports.proofs.Least.{from_back, none_behind}
use Rattle.mdp_reports.proofs.merge.least.Goals as goal

pub loop-n-init : goal.loop-n-init
loop-n-init c = (omega arith, none_behind c.args.left.now (length c.args.left.now) refl)

pub loop-n-preserved : goal.loop-n-preserved
loop-n-preserved c =
    let n : ℕ = c.loop-n.n - 1 in
    let over = c.loop-n-test.true in
    let most = c.loop-n.invariant.0 in
    let same : n + 1 ≡ c.loop-n.n = omega (arith, over) in (
      omega (arith, most),
      c.lesser-best.ensures
          ∙ ap (λ (s : Option ℕ). lesser n s c.loop-n.best) (c.slot.ensures ∙ ap slot_first c.index-left-n.is)
          ∙ ap (lesser n _) (c.loop-n.invariant.1 ∙ ap (λ (k : ℕ). least_of k (drop k c.args.left.now)) (sym same))
          ∙ sym (from_back c.args.left.now n _ (omega (arith, over, most))),
    )

pub returns : goal.returns
returns c =
    let none = c.loop-n-test.false in
    let zero_n : c.loop-n.n ≡ 0 = omega (arith, none) in
    c.loop-n.invariant.1 ∙ ap (λ (k : ℕ). least_of k (drop k c.args.left.now)) zero_n
