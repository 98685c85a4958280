use Rattle.std.proofs.Common.{◌<◌, min, length, sym, ap, ◌∙◌, ◌≡◌, arith}
use Rattle.std.proofs.lemmas.List.{get_or-set_same, length-set}
use Rattle.mdp_desks.specs.declared.desk.Desk.{Desk}
use Rattle.mdp_desks.proofs.Hearing.{rebased_past}
use Rattle.mdp_desks.proofs.Passing.{marks_put, rebased_more, depths_kept, depth_at, listed_more}
use Rattle.mdp_desks.proofs.desks.rebase_all.Goals as goal

pub loop-n-preserved : goal.loop-n-preserved
loop-n-preserved g c =
    let less : c.loop-n.n < length c.loop-n.desks = omega (arith, c.loop-n-test.true, c.min-both.ensures, c.loop-n.auto.desks) in
    let short : c.loop-n.n < length c.args.bases.now = omega (arith, c.loop-n-test.true, c.min-both.ensures) in
    let same = ap (λ (d : Desk). d.marked) (get_or-set_same c.loop-n.desks c.loop-n.n c.jump.new.self c.index-desks-n-in-loop-n.result less) in
    record {
      desks = rebased_more c.loop-n.n c.args.bases.now c.loop-n.desks c.index-bases-n.result c.jump.new.self c.index-desks-n.result less short c.index-bases-n.is c.jump.ensures ∙ c.loop-n.invariant.desks;
      long = length-set c.loop-n.desks c.loop-n.n c.jump.new.self ∙ c.loop-n.invariant.long;
      listed = listed_more c.loop-n.n c.loop-n.desks c.index-bases-n.result c.jump.new.self c.index-desks-n.result c.jump.ensures ∙ c.loop-n.invariant.listed;
      marks = marks_put c.loop-n.desks _ _ c.loop-n.n c.jump.new.self _ c.loop-n.invariant.marks c.put.ensures same;
    }

pub returns-clause-desks : goal.returns-clause-desks
returns-clause-desks g c =
    let past : c.loop-n.n ≡ min (length c.loop-n.desks) (length c.args.bases.now) = omega (arith, c.loop-n.invariant.long) in
    sym (rebased_past c.loop-n.n c.args.bases.now c.loop-n.desks past) ∙ c.loop-n.invariant.desks

pub jump-requires : goal.jump-requires
jump-requires g c =
    let less : c.loop-n.n < length c.loop-n.desks = omega (arith, c.loop-n-test.true, c.min-both.ensures, c.loop-n.auto.desks) in
    depth_at c.loop-n.desks c.loop-n.n _ less (depths_kept _ _ c.loop-n.invariant.listed c.requires.depths)
