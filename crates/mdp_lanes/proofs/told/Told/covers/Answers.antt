use Rattle.std.proofs.Common.{List, ap, subst}
use mathlib.Core.List.{IsPrefix}
use Rattle.mdp_lanes.specs.declared.step.Step.{Step}
use Rattle.mdp_lanes.proofs.Fronts.{by_length}
use Rattle.mdp_lanes.proofs.told.Told.covers.Goals as goal

pub returns : goal.returns
returns g c =
    let told : List Step = c.self.inside.front.log in
    let read : List Step = c.reader.inside.front.log in
    let both : List Step = c.learn.new.self.log in
    let front : IsPrefix told both = subst (λ (steps : List Step). IsPrefix steps both) (ap (λ s. s.log) c.again-both.ensures) c.learn.ensures.2 in
    rw (← c.self.view_is, ← c.reader.view_is, c.self.invariant, c.reader.invariant.1) (by_length read told both c.learn.ensures.3 front)
