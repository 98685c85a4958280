use Rattle.std.proofs.Common.{◌≡◌, length, sym, arith, ◌∙◌}
use Rattle.mdp_reports.proofs.Stepping.{as_many}
use Rattle.mdp_reports.proofs.board_steps.BoardSteps.len.Goals as goal

pub returns : goal.returns
returns g c =
    let count : c.len.result ≡ length c.self.inside.places.items = omega (arith, c.len.ensures) in
    rw (← c.self.view_is) (count ∙ sym (as_many c.self.inside.rows.items c.self.inside.places.items))
