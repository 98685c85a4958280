use Rattle.std.proofs.Common.{arith}
use Rattle.mdp_lanes.proofs.SheetSteps.{copied}
use Rattle.mdp_lanes.proofs.reader.copy_rows.Goals as goal

pub returns : goal.returns
returns c =
    copied c.args.rows.now c.args.slots.now c.loop-k.out c.loop-k.invariant.0
    (λ k lt. c.loop-k.invariant.1 k (omega (arith, c.loop-k-test.false, lt)))
