use Rattle.std.proofs.Common.{◌≡◌, ◌+◌, ◌-◌, get_or, length, ◌∙◌, ap, arith}
use Rattle.mdp_books.proofs.Ends.{begins}
use Rattle.mdp_books.proofs.Printed.{count_of_ends, end_is, is_low}
use Rattle.mdp_books.proofs.printed_levels.PrintedLevels.start_of.Goals as goal

pub bounds-deref-at : goal.bounds-deref-at
bounds-deref-at g c = omega (arith, ap length c.deref.ensures.0, ap length c.self.view_is, count_of_ends c.self.invariant)

pub returns-clause-value : goal.returns-clause-value
returns-clause-value g c =
    let at = c.args.at in
    let next : at - 1 + 1 ≡ at = omega arith in
    let end = end_is c.self.invariant (at - 1) 0 (omega (arith, ap length c.self.view_is)) in
    c.from.ensures ∙ ap (λ es. get_or es (at - 1) 0) c.deref.ensures.0 ∙ end
    ∙ ap (λ n. begins n c.self.inside.levels.items) next ∙ ap (begins at) c.self.view_is

pub returns-clause-small : goal.returns-clause-small
returns-clause-small g c =
    let low = is_low c.self.invariant c.args.at (omega (arith, ap length c.self.view_is)) in
    omega (arith, returns-clause-value g c, low, ap (begins c.args.at) c.self.view_is)
