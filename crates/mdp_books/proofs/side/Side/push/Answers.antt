use Rattle.std.proofs.Common.{rules, arith, ap, length}
use Rattle.mdp_books.proofs.Positions.{side_of, side_push, insert_at_end}
use Rattle.mdp_books.proofs.side.Side.push.Goals as goal

pub invariant_of-self : goal.invariant_of-self
invariant_of-self g c =
    rw (c.insert.ensures, insert_at_end _ _ c.args.level c.len.ensures.value)
    (side_push _ _ _ _ (search rules) c.self.invariant (omega (arith, ap (λ s. length s.levels) c.self.view_is, ap (λ s. s.depth) c.self.view_is)))

pub returns : goal.returns
returns g c = rw (← c.self.view_is, c.insert.ensures) (ap (side_of c.self.inside.depth) (insert_at_end c.len.result c.self.inside.levels c.args.level c.len.ensures.value))
