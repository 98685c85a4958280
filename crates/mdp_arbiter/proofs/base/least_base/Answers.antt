use Rattle.std.proofs.Common.{◌<◌, length, arith, ◌∙◌}
use Rattle.mdp_arbiter.proofs.Bases.{least_more, least_all}
use Rattle.mdp_arbiter.proofs.base.least_base.Goals as goal

pub loop-slot-preserved : goal.loop-slot-preserved
loop-slot-preserved c =
    let newest = c.args.newest.now in
    let bases = c.args.bases.now in
    let slot = c.loop-slot.slot in
    let less : slot < length newest = omega (arith, c.loop-slot-test.true) in
    let short : slot < length bases = omega (arith, c.loop-slot-test.true) in
    least_more newest bases slot c.index-newest-slot.result c.index-bases-slot.result c.loop-slot.least c.lesser_with-least.result less short
    c.index-newest-slot.is c.index-bases-slot.is c.lesser_with-least.ensures ∙ c.loop-slot.invariant

pub returns : goal.returns
returns c =
    least_all c.args.newest.now c.args.bases.now c.loop-slot.slot c.loop-slot.least (omega (arith, c.loop-slot-test.false)) ∙ c.loop-slot.invariant
