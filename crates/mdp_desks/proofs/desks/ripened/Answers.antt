use Rattle.std.proofs.Common.{arith}
use Rattle.mdp_desks.proofs.desks.ripened.Goals as goal

pub ripen_all-requires-clause-only : goal.ripen_all-requires-clause-only
ripen_all-requires-clause-only g c = (c.requires.due.due 0 (omega (arith, c.requires.some))).only
