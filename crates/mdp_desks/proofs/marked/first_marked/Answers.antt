use Rattle.std.proofs.Common.{◌<◌, arith}
use Rattle.mdp_desks.proofs.Searching.{first_behind, none_behind}
use Rattle.mdp_desks.proofs.marked.first_marked.Goals as goal

pub returns-in-Some-clause-some : goal.returns-in-Some-clause-some
returns-in-Some-clause-some c =
    let less : c.args.low < c.args.high = omega (arith, c.if-low-high.false) in
    first_behind c.args.marks.now c.args.low c.args.high c.in-Some.n less c.requires c.in-Some.ensures

pub returns-in-None-clause-none : goal.returns-in-None-clause-none
returns-in-None-clause-none c =
    let less : c.args.low < c.args.high = omega (arith, c.if-low-high.false) in
    none_behind c.args.marks.now c.args.low c.args.high less c.requires c.in-None.ensures
