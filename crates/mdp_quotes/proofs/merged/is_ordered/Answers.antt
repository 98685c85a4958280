use Rattle.std.proofs.Common.{◌≤◌, ◌-◌, suc, length, sym, ◌∙◌, arith}
use Rattle.mdp_quotes.proofs.Merging.{ordered_end}
use Rattle.mdp_quotes.proofs.merged.is_ordered.Goals as goal

pub returns : goal.returns
returns c =
    let short : length c.args.levels.now ≤ suc (c.loop-at.at - 1) = omega (arith, c.loop-at-test.false) in
    sym (c.loop-at.invariant ∙ ordered_end c.args.way c.args.levels.now (c.loop-at.at - 1) short)
