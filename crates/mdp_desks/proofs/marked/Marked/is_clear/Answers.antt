use Rattle.std.proofs.Common.{◌≤◌, arith}
use Rattle.std.proofs.lemmas.Bool.Decides.{nat_tests}
use Rattle.mdp_desks.specs.Beside.{marks_in}
use Rattle.mdp_desks.proofs.Searching.{clear_between}
use Rattle.mdp_desks.proofs.marked.Marked.is_clear.Goals as goal

pub returns : goal.returns
returns g c =
    let inside = c.self.inside in
    let between = clear_between (marks_in inside.marks.items) inside.low inside.high c.self.invariant in
    rw (← c.self.view_is)
    (λ is. between.0 (grind (arith, nat_tests, is)), λ clear. let past : inside.high ≤ inside.low = between.1 clear in grind (arith, nat_tests, past))
