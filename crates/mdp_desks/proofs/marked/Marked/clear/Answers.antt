use Rattle.std.proofs.Common.{◌≡◌, Bool, List, length, map, false, ap, subst, ◌∙◌, arith}
use Rattle.mdp_desks.specs.Beside.{marks_in}
use Rattle.mdp_desks.proofs.Clearing.{clear_already, filled}
use Rattle.mdp_desks.proofs.Searching.{none_within}
use Rattle.mdp_desks.proofs.marked.Marked.clear.Goals as goal

pub invariant_of-self : goal.invariant_of-self
invariant_of-self g c = none_within c.fill.new.self.items _ (c.fill.ensures.items (λ y is. is))

pub returns-then-self : goal.returns-then-self
returns-then-self g c =
    let long : length c.fill.new.self.items ≡ length c.self.inside.marks.items = omega (arith, c.fill.ensures.len) in
    filled c.self.inside.marks.items c.fill.new.self.items _ (c.fill.ensures.items (λ y is. is)) long ∙ ap (map (λ _. false)) c.self.view_is

pub returns-else-self : goal.returns-else-self
returns-else-self g c =
    subst (λ (marks : List Bool). marks ≡ map (λ _. false) marks) c.self.view_is
    (clear_already (marks_in c.self.inside.marks.items) c.self.inside.low c.self.inside.high c.if-self.false c.self.invariant)
