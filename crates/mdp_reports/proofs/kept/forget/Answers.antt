use Rattle.std.proofs.Common.{arith}
use Rattle.std.specs.Prelude.{None}
use Rattle.mdp_reports.proofs.Marking.{filled_more, filled_all}
use Rattle.mdp_reports.proofs.kept.forget.Goals as goal

pub loop-n-preserved : goal.loop-n-preserved
loop-n-preserved c = filled_more None c.args.kept.now c.loop-n.kept c.loop-n.n (omega (arith, c.loop-n-test.true, c.loop-n.auto.kept)) c.loop-n.invariant

pub returns : goal.returns
returns c = filled_all None c.args.kept.now c.loop-n.kept c.loop-n.n (omega (arith, c.loop-n-test.false, c.loop-n.auto.kept)) c.loop-n.invariant
