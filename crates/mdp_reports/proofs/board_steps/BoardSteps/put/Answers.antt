use Rattle.std.proofs.Common.{ℕ, List, ◌∙◌, ap, sym, subst, length}
use Rattle.std.proofs.lemmas.List.{length-append}
use Rattle.mdp_reports.specs.Steps.{AreInPlace, steps_in_places}
use Rattle.mdp_reports.proofs.Stepping.{Pair, places_more, rows-push}
use Rattle.mdp_reports.proofs.board_steps.BoardSteps.put.Goals as goal

pub invariant_of-self-2 : goal.invariant_of-self-2
invariant_of-self-2 g c =
    subst (λ (n : ℕ). AreInPlace n c.self.inside.places.items) (sym (ap length c.in_ok-push.ensures.items ∙ length-append c.self.inside.rows.items _))
    (places_more (length c.self.inside.rows.items) c.self.inside.places.items c.self.invariant)

pub returns : goal.returns
returns g c =
    rw (← c.self.view_is)
    (ap (λ (rows : List Pair). steps_in_places rows c.self.inside.places.items) c.in_ok-push.ensures.items
    ∙ rows-push c.self.inside.rows.items (c.args.slot, c.args.row) c.self.inside.places.items c.self.invariant)
