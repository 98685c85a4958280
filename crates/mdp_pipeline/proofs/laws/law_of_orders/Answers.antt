use Rattle.mdp_pipeline.proofs.TextOrder.{by_line_is_text_order, captured, merges_alike}
use Rattle.mdp_pipeline.proofs.laws.law_of_orders.Goals as goal

pub returns-clause-lines : goal.returns-clause-lines
returns-clause-lines c = by_line_is_text_order

pub returns-clause-capture : goal.returns-clause-capture
returns-clause-capture c = captured

pub returns-clause-merge : goal.returns-clause-merge
returns-clause-merge c = merges_alike
