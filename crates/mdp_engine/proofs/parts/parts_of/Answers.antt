use Rattle.std.proofs.Common.{◌≡◌, ◌<◌, length, subst, arith}
use Rattle.mdp_engine.specs.Parts.{AreParts, lists_in}
use Rattle.mdp_engine.proofs.Noting.{noted_more}
use Rattle.mdp_engine.proofs.parts.parts_of.Goals as goal

pub loop-n-preserved : goal.loop-n-preserved
loop-n-preserved g c =
    let less : c.loop-n.n < length c.args.spreads.now = omega (arith, c.loop-n-test.true) in
    noted_more c.args.count c.loop-n.n c.loop-n.parts.len c.args.spreads.now _ c.loop-n.parts.items c.deref_mut.result.now c.note_spread.new.parts c.requires less c.deref_mut.ensures.value c.deref_mut.ensures.len c.in_ok-note_spread.ensures c.loop-n.invariant

pub returns : goal.returns
returns g c =
    let all : c.loop-n.n ≡ length c.args.spreads.now = omega (arith, c.loop-n-test.false, c.loop-n.auto.n-end) in
    subst (λ n. AreParts c.args.count n c.args.spreads.now (lists_in c.loop-n.parts.items)) all c.loop-n.invariant
