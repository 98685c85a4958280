use Rattle.std.proofs.Common.{[], ◌∷◌, sym, ap, subst, ◌∙◌}
use Rattle.std.proofs.lemmas.Result.{err_from_is_err_and}
use Rattle.mdp_engine.specs.Engine.{View, Stands, HasBrokenOff}
use Rattle.mdp_engine.specs.Steps.{event_of}
use Rattle.mdp_engine.proofs.Breaking.{broken_off_before, broken_off_on_way}
use Rattle.mdp_engine.proofs.Keeping.{as_before}
use Rattle.mdp_engine.proofs.Moving.{stands_further}
use Rattle.mdp_engine.proofs.engine.Engine.advance.Goals as goal

pub returns-then-branch-clause-stands : goal.returns-then-branch-clause-stands
returns-then-branch-clause-stands g c = λ listed es gone stands. c.in_ok-pass_at_once.ensures.passed c.if-branch.true listed es gone stands

pub returns-clause-stands : goal.returns-clause-stands
returns-clause-stands g c = λ listed es gone stands.
    let same = subst (Stands listed es gone) (sym (c.in_ok-pass_at_once.ensures.kept c.if-branch.false)) stands in
    stands_further listed es (event_of c.args.event) gone c.pass_at_once.new.self c.take_in.new.self c.move_on.new.self
    (c.in_ok-take_in.ensures.stands es same.settled.stands) c.in_ok-take_in.ensures.keeps c.in_ok-take_in.ensures.channel
    (as_before c.pass_at_once.new.self c.take_in.new.self c.take_in.ensures.rest)
    c.in_ok-move_on.ensures.channel c.in_ok-move_on.ensures.advances same

pub returns-in_err-move_on-clause-begins : goal.returns-in_err-move_on-clause-begins
returns-in_err-move_on-clause-begins g c =
    let fault = err_from_is_err_and c.from_residual-in_err-move_on.result c.from_residual-in_err-move_on.ensures.1 in
    let e = event_of c.args.event in
    rw fault.1 (subst (λ (v : View). HasBrokenOff (e ∷ []) v c.move_on.new.self) (c.in_ok-pass_at_once.ensures.kept c.if-branch.false)
    (broken_off_on_way e c.pass_at_once.new.self c.take_in.new.self c.move_on.new.self
    c.in_ok-take_in.ensures.stands c.in_ok-take_in.ensures.keeps c.in_ok-take_in.ensures.channel
    (as_before c.pass_at_once.new.self c.take_in.new.self c.take_in.ensures.rest) c.in_err-move_on.ensures.begins))

pub returns-in_err-take_in-clause-begins : goal.returns-in_err-take_in-clause-begins
returns-in_err-take_in-clause-begins g c =
    let fault = err_from_is_err_and c.from_residual-in_err-take_in.result c.from_residual-in_err-take_in.ensures.1 in
    rw fault.1 (broken_off_before _ c.args.self.now c.take_in.new.self (ap (λ (v : View). v.held) c.take_in.ensures.rest ∙ ap (λ (v : View). v.held) (c.in_ok-pass_at_once.ensures.kept c.if-branch.false)))
