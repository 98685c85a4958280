use Rattle.std.proofs.Common.{◌<◌, ℕ, min, length, sym, ap, ◌∙◌, ◌≡◌, arith}
use Rattle.std.specs.Prelude.{Option, get_or, slice_get}
use Rattle.std.proofs.lemmas.List.{get_or-map, get_or-set_same, length-map, length-set}
use Rattle.mdp_templates.specs.Snapshot.{SnapshotContent}
use Rattle.mdp_desks.specs.declared.desk.Desk.{Desk}
use Rattle.mdp_desks.specs.Desks.{snapshots_at}
use Rattle.mdp_desks.proofs.Hearing.{rebased_past}
use Rattle.mdp_desks.proofs.Passing.{marks_put, rebased_more, depths_kept, depth_at, listed_more}
use Rattle.mdp_desks.proofs.desks.rebase_at.Goals as goal

pub loop-n-preserved : goal.loop-n-preserved
loop-n-preserved g c =
    let slots = c.args.slots.now in
    let bases = snapshots_at slots c.args.snapshots.now in
    let slot = get_or slots c.loop-n.n 0 in
    let base : Option SnapshotContent = slice_get c.args.snapshots.now slot in
    let many : length bases ≡ length slots = length-map slots (λ (k : ℕ). slice_get c.args.snapshots.now k) in
    let less : c.loop-n.n < length c.loop-n.desks = omega (arith, c.loop-n-test.true, c.min-both.ensures, c.loop-n.auto.desks) in
    let under : c.loop-n.n < length slots = omega (arith, c.loop-n-test.true, c.min-both.ensures) in
    let short : c.loop-n.n < length bases = omega (arith, under, many) in
    let at = sym (get_or-map (λ (k : ℕ). slice_get c.args.snapshots.now k) slots c.loop-n.n 0 base under) in
    let same = ap (λ (d : Desk). d.marked) (get_or-set_same c.loop-n.desks c.loop-n.n c.jump_at.new.desk c.index-desks-n-in-loop-n.result less) in
    record {
      desks = rebased_more c.loop-n.n bases c.loop-n.desks base c.jump_at.new.desk c.index-desks-n.result less short at c.jump_at.ensures ∙ c.loop-n.invariant.desks;
      long = length-set c.loop-n.desks c.loop-n.n c.jump_at.new.desk ∙ c.loop-n.invariant.long;
      listed = listed_more c.loop-n.n c.loop-n.desks base c.jump_at.new.desk c.index-desks-n.result c.jump_at.ensures ∙ c.loop-n.invariant.listed;
      marks = marks_put c.loop-n.desks _ _ c.loop-n.n c.jump_at.new.desk _ c.loop-n.invariant.marks c.put.ensures same;
    }

pub returns-clause-desks : goal.returns-clause-desks
returns-clause-desks g c =
    let bases = snapshots_at c.args.slots.now c.args.snapshots.now in
    let many : length bases ≡ length c.args.slots.now = length-map c.args.slots.now (λ (k : ℕ). slice_get c.args.snapshots.now k) in
    let past : c.loop-n.n ≡ min (length c.loop-n.desks) (length bases) = omega (arith, many, c.loop-n.invariant.long) in
    sym (rebased_past c.loop-n.n bases c.loop-n.desks past) ∙ c.loop-n.invariant.desks

pub jump_at-requires : goal.jump_at-requires
jump_at-requires g c =
    let less : c.loop-n.n < length c.loop-n.desks = omega (arith, c.loop-n-test.true, c.min-both.ensures, c.loop-n.auto.desks) in
    depth_at c.loop-n.desks c.loop-n.n _ less (depths_kept _ _ c.loop-n.invariant.listed c.requires.depths)
