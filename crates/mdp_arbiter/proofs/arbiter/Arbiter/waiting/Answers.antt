use Rattle.std.proofs.Common.{◌≤◌, ◌+◌, arith, ◌∙◌}
use Rattle.mdp_arbiter.proofs.Counted.{all_wait}
use Rattle.mdp_arbiter.proofs.arbiter.Arbiter.waiting.Goals as goal

pub returns-in-Some : goal.returns-in-Some
returns-in-Some g c =
    let inside = c.self.inside in
    let window = g.W.Window.view inside.window in
    let begun : window.first ≤ inside.top + 1 = omega (arith, c.self.invariant.0, c.self.invariant.2, c.self.invariant.5) in
    let within : inside.top + 1 ≤ window.first + window.room = omega (arith, c.self.invariant.0, c.self.invariant.1) in
    rw (← c.self.view_is, ← c.self.invariant.0)
    (c.in-Some.ensures ∙ all_wait window.held window.first window.room inside.top begun within c.self.invariant.7)
