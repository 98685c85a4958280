use Rattle.mdp_templates.proofs.Fits.{depth_some, depth_few}
use Rattle.mdp_desks.proofs.desk.Desk.new.Goals as goal

pub empty-book-requires-clause-some : goal.empty-book-requires-clause-some
empty-book-requires-clause-some c = depth_some _ _ c.requires

pub empty-book-requires-clause-few : goal.empty-book-requires-clause-few
empty-book-requires-clause-few c = depth_few _ _ c.requires
