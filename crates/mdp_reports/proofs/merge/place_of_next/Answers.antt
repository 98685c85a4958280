use Rattle.std.proofs.Common.{sym, ◌∙◌}
use Rattle.mdp_reports.specs.Next.{least_of}
use Rattle.mdp_reports.proofs.Least.{found, next_there, none_there}
use Rattle.mdp_reports.proofs.merge.place_of_next.Goals as goal

pub returns-in-Some : goal.returns-in-Some
returns-in-Some c = next_there c.args.left.now (least_of 0 c.args.left.now) (found 0 c.args.left.now) _ _ (sym c.least.ensures ∙ c.in-Some.is)

pub returns-in-None : goal.returns-in-None
returns-in-None c = none_there c.args.left.now (least_of 0 c.args.left.now) (found 0 c.args.left.now) (sym c.least.ensures ∙ c.in-None.is)
