use Rattle.std.proofs.Common.{arith}
use Rattle.mdp_books.proofs.Positions.{side_remove}
use Rattle.mdp_books.proofs.side.Side.delete.Goals as goal

pub invariant_of-self : goal.invariant_of-self
invariant_of-self g c = rw c.remove.ensures (side_remove _ _ _ _ c.self.invariant (omega arith))
