use Rattle.std.proofs.Common.{rules, arith}
use Rattle.mdp_quotes.proofs.Merging.{ahead_is}
use Rattle.mdp_quotes.proofs.merged.ahead_of.Goals as goal

pub returns-else-is_better-clause-ahead : goal.returns-else-is_better-clause-ahead
returns-else-is_better-clause-ahead c =
    ahead_is c.args.way c.args.level.now c.args.direct.now c.loop-ahead.ahead c.loop-ahead.invariant.inside c.loop-ahead.invariant.before (λ inside. search rules)

pub returns-after-loop-ahead-clause-ahead : goal.returns-after-loop-ahead-clause-ahead
returns-after-loop-ahead-clause-ahead c =
    ahead_is c.args.way c.args.level.now c.args.direct.now c.loop-ahead.ahead c.loop-ahead.invariant.inside c.loop-ahead.invariant.before (λ inside. absurd (omega arith))
