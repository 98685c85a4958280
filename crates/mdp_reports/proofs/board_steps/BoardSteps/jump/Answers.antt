use Rattle.std.proofs.Common.{◌≡◌, ◌++◌, ◌∷◌, ◌∙◌, ℕ, [], ap, sym, subst, length, arith, true}
use Rattle.mdp_reports.specs.Steps.{AreInPlace, steps_in_places}
use Rattle.mdp_reports.proofs.Stepping.{step_place, places-push, steps-push}
use Rattle.mdp_reports.proofs.board_steps.BoardSteps.jump.Goals as goal

pub invariant_of-self-2 : goal.invariant_of-self-2
invariant_of-self-2 g c =
    let count = length c.self.inside.rows.items in
    let from : c.len-from.result ≡ count = omega (arith, c.len-from.ensures) in
    subst (λ ms. AreInPlace count ms) (sym (c.in_ok-push.ensures.items ∙ ap (λ (n : ℕ). c.self.inside.places.items ++ step_place true n ∷ []) from))
    (places-push count c.self.inside.places.items true c.self.invariant)

pub returns : goal.returns
returns g c =
    let from : c.len-from.result ≡ length c.self.inside.rows.items = omega (arith, c.len-from.ensures) in
    rw (← c.self.view_is)
    (ap (steps_in_places c.self.inside.rows.items) (c.in_ok-push.ensures.items ∙ ap (λ (n : ℕ). c.self.inside.places.items ++ step_place true n ∷ []) from)
    ∙ steps-push c.self.inside.rows.items c.self.inside.places.items true)
