use Rattle.std.proofs.Common.{sym, ap, ◌∙◌}
use Rattle.std.specs.Option.{option_map}
use Rattle.mdp_reports.specs.Steps.{posted}
use Rattle.mdp_crew.proofs.Boards.{published_next}
use Rattle.mdp_crew.proofs.publishing.publish_all.Goals as goal

pub loop-n-preserved : goal.loop-n-preserved
loop-n-preserved g c =
    published_next c.args.publisher.now c.loop-n.publisher c.publish_one.new.publisher c.args.steps.now c.loop-n.n (posted c.in-Some.posting)
    c.loop-n.invariant (ap (option_map posted) (sym c.in-Some.is) ∙ c.at.ensures) c.in_ok-publish_one.ensures
