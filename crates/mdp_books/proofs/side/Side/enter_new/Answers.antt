use Rattle.std.proofs.Common.{arith, rules}
use Rattle.mdp_books.proofs.Positions.{new_is, side_insert}
use Rattle.mdp_books.proofs.side.Side.enter_new.Goals as goal

pub invariant_of-self : goal.invariant_of-self
invariant_of-self g c =
    rw (c.insert.ensures, c.truncate.ensures) (side_insert _ _ c.args.position _ _ (search rules) c.self.invariant (omega arith) (omega arith) (omega arith))

pub returns-clause-after : goal.returns-clause-after
returns-clause-after g c =
    rw (← c.self.view_is, c.insert.ensures, c.truncate.ensures) (new_is c.self.inside.depth c.args.position c.args.with c.self.inside.levels (omega arith) (omega arith) (omega arith))
