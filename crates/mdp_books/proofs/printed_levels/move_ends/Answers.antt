use Rattle.std.proofs.Common.{arith, ◌≡◌, ◌≤◌, ◌<◌, ◌+◌, ℕ, length, ◌∙◌, ap}
use Rattle.mdp_books.proofs.Ends.{move_from, all_stay, next_is, left_behind, one_moved, none_left}
use Rattle.mdp_books.proofs.printed_levels.move_ends.Goals as goal

pub returns-then-less-more : goal.returns-then-less-more
returns-then-less-more g c = all_stay c.args.less c.args.more c.args.from c.args.ends.now.items c.if-less-more.true c.requires.enough

pub overflow_sub-all : goal.overflow_sub-all
overflow_sub-all g c =
    let left = c.loop-n.invariant.left in
    let lent = c.as_mut_slice-all.ensures.value in
    next_is (λ end. c.args.less ≤ end) c.args.from c.loop-n.n _ _ _ c.requires.enough c.loop-n.auto.n c.loop-n-test.true left lent

pub overflow_add-all : goal.overflow_add-all
overflow_add-all g c =
    let lent = c.as_mut_slice-all.ensures.value in
    let left = c.loop-n.invariant.left in
    let CanGrow : ℕ → Type 0 = λ end. end + c.args.more < 65536 in
    let room = next_is CanGrow c.args.from c.loop-n.n _ _ _ c.requires.room c.loop-n.auto.n c.loop-n-test.true left lent in
    omega (arith, room)

pub loop-n-preserved : goal.loop-n-preserved
loop-n-preserved g c = record {
  ends = one_moved c.args.less c.args.more c.loop-n.n c.loop-n.all (omega (arith, c.loop-n.auto.all)) ∙ c.loop-n.invariant.ends;
  left = left_behind c.loop-n.n _ c.loop-n.all _ c.loop-n.invariant.left;
}

pub returns : goal.returns
returns g c =
    let items = c.args.ends.now.items in
    let lent = c.as_mut_slice-all.ensures.value in
    let whole : length c.loop-n.all ≡ length items = omega (arith, c.loop-n.auto.all, ap length lent) in
    let past : length items ≤ c.loop-n.n = omega (arith, c.loop-n-test.false, ap length lent) in
    none_left c.args.less c.args.more c.loop-n.n (length items) items c.loop-n.all whole past
    ∙ c.loop-n.invariant.ends ∙ ap (move_from c.args.less c.args.more c.args.from) lent
