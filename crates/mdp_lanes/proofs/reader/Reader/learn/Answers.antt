use Rattle.std.proofs.Common.{◌≤◌, ap, subst, arith, length, List}
use mathlib.Core.List.{IsPrefix}
use Rattle.mdp_lanes.specs.declared.step.Step.{Step}
use Rattle.mdp_lanes.proofs.Fronts.{front_of_longer}
use Rattle.mdp_lanes.proofs.reader.Reader.learn.Goals as goal

pub returns-then-self-told-clause-this : goal.returns-then-self-told-clause-this
returns-then-self-told-clause-this g c =
    let mine : List Step = c.self.inside.front.log in
    let told : List Step = c.told.inside.front.log in
    let both : List Step = c.learn.new.self.log in
    let front : IsPrefix mine both = subst (λ (steps : List Step). IsPrefix steps both) (ap (λ s. s.log) c.again-both.ensures) c.learn.ensures.2 in
    let less : length mine ≤ length told = omega (arith, c.self.invariant.1, c.told.invariant) in
    rw (← c.self.view_is) (front_of_longer mine told both front c.learn.ensures.3 less)

pub returns-else-self-told-clause-that : goal.returns-else-self-told-clause-that
returns-else-self-told-clause-that g c =
    let mine : List Step = c.self.inside.front.log in
    let told : List Step = c.told.inside.front.log in
    let both : List Step = c.learn.new.self.log in
    let front : IsPrefix mine both = subst (λ (steps : List Step). IsPrefix steps both) (ap (λ s. s.log) c.again-both.ensures) c.learn.ensures.2 in
    let less : length told ≤ length mine = omega (arith, c.self.invariant.1, c.told.invariant) in
    rw (← c.self.view_is, ← c.told.view_is) (front_of_longer told mine both c.learn.ensures.3 front less)
