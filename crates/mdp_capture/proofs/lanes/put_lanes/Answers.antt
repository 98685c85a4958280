use Rattle.std.proofs.Common.{◌≡◌, ◌+◌, ◌-◌, length, subst, arith}
use Rattle.mdp_capture.specs.Digits.{SpellBetween}
use Rattle.mdp_capture.proofs.Spelt.{decodes, spelt_on}
use Rattle.mdp_capture.proofs.lanes.put_lanes.Goals as goal

pub returns : goal.returns
returns c good =
    let digits = c.args.digits.now in
    let old = c.loop-at.bytes in
    let new = c.put_sixteen-2.new.bytes in
    let last = length c.args.bytes.now - 16 in
    let same : length new ≡ length c.args.bytes.now = omega (arith, c.put_sixteen-2.ensures.len, c.loop-at.auto.bytes) in
    let all : last + 16 ≡ length new = omega (arith, same, c.requires.enough) in
    let spelt = spelt_on digits old new c.loop-at.at last c.loop-at.invariant.0 c.put_sixteen-2.ensures.before c.loop-at-test.false (c.put_sixteen-2.ensures.spelt good) in
    decodes digits new (omega (arith, same, c.requires.twice)) (subst (SpellBetween digits new 0) all spelt)
