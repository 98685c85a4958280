use Rattle.std.proofs.Common.{[], ◌∷◌, sym, subst}
use Rattle.std.proofs.lemmas.Result.{err_from_is_err_and}
use Rattle.mdp_arbiter.specs.Accepted.{came}
use Rattle.mdp_engine.specs.Engine.{View, Stands, HasBrokenOff}
use Rattle.mdp_engine.proofs.Breaking.{broken_off_passing}
use Rattle.mdp_engine.proofs.Moving.{stands_passed}
use Rattle.mdp_engine.proofs.engine.Engine.pass_packet.Goals as goal

pub returns-clause-passed : goal.returns-clause-passed
returns-clause-passed g c = λ passed listed es gone stands.
    let old : View = record { arbiter = c.self.inside.arbiter; desks = c.self.inside.desks; held = c.self.inside.held.text.items; changed = c.self.inside.held.changed; keeps_lines = c.self.inside.held.keeps_lines; has_failed = c.self.inside.has_failed } in
    let new : View = record { arbiter = c.pass_at_once.new.self; desks = c.pass.new.self; held = c.pass.new.out.text.items; changed = c.pass.new.out.changed; keeps_lines = c.pass.new.out.keeps_lines; has_failed = c.self.inside.has_failed } in
    let stood : Stands listed es gone old = subst (Stands listed es gone) (sym c.self.view_is) stands in
    stands_passed listed es c.args.packet.now gone old new
    (c.pass_at_once.ensures.passes c.if-not-pass_at_once.false es stood.settled.stands) c.pass_at_once.ensures.channel
    c.in_ok-pass.ensures.desks (record { lines = c.in_ok-pass.ensures.text; changed = c.in_ok-pass.ensures.changed; keeps = c.pass.ensures.keeps }) stood

pub returns-in_err-pass-clause-begins : goal.returns-in_err-pass-clause-begins
returns-in_err-pass-clause-begins g c =
    let fault = err_from_is_err_and c.from_residual.result c.from_residual.ensures.1 in
    let old : View = record { arbiter = c.self.inside.arbiter; desks = c.self.inside.desks; held = c.self.inside.held.text.items; changed = c.self.inside.held.changed; keeps_lines = c.self.inside.held.keeps_lines; has_failed = c.self.inside.has_failed } in
    let new : View = record { arbiter = c.pass_at_once.new.self; desks = c.pass.new.self; held = c.pass.new.out.text.items; changed = c.pass.new.out.changed; keeps_lines = c.pass.new.out.keeps_lines; has_failed = c.self.inside.has_failed } in
    rw fault.1 (subst (λ (v : View). HasBrokenOff (came c.args.packet.now ∷ []) v new) c.self.view_is
    (broken_off_passing c.args.packet.now old new c.pass_at_once.new.self (c.pass_at_once.ensures.passes c.if-not-pass_at_once.false) c.pass_at_once.ensures.channel c.in_err-pass.ensures.err))
