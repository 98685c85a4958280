use Rattle.std.proofs.Common.{rules}
use Rattle.mdp_quotes.proofs.Merging.{quotes_merged}
use Rattle.mdp_quotes.proofs.merged.are_in_order.Goals as goal

pub returns-clause-merges : goal.returns-clause-merges
returns-clause-merges c = λ last. quotes_merged c.args.sides.now (search rules) (search rules) (search rules) (search rules)
