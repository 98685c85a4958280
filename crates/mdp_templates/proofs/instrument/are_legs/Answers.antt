use Rattle.std.proofs.Common.{refl, ap, w32, of_z, to_z-of_z}
use Rattle.mdp_templates.proofs.instrument.are_legs.Goals as goal

pub returns-then-has_outright : goal.returns-then-has_outright
returns-then-has_outright c =
    let fits1 = c.ranges.leg1 in
    let fits2 = c.ranges.leg2 in
    let first = simp to_z-of_z at c.if-has_outright.ensures in
    let second = simp to_z-of_z at c.has_outright-then-has_outright.ensures in (
      λ is. (λ same. c.if-leg1-leg2.false (ap (of_z w32) same), first.0 refl, second.0 is),
      λ legs. second.1 legs.2,
    )

pub returns-else-has_outright : goal.returns-else-has_outright
returns-else-has_outright c =
    let fits1 = c.ranges.leg1 in
    let first = simp to_z-of_z at c.has_outright.ensures in (λ is. absurd (cc), λ legs. first.1 legs.1)
