use Rattle.mdp_templates.proofs.Fits.{depth_some, depth_few}
use Rattle.mdp_desks.proofs.desk.Desk.rebase.Goals as goal

pub of_snapshot-self-requires-clause-some : goal.of_snapshot-self-requires-clause-some
of_snapshot-self-requires-clause-some c = depth_some _ _ c.requires

pub of_snapshot-self-requires-clause-few : goal.of_snapshot-self-requires-clause-few
of_snapshot-self-requires-clause-few c = depth_few _ _ c.requires
