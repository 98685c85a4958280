use Rattle.std.proofs.Common.{refl, sym, ◌∙◌, arith}
use Rattle.mdp_sbe.proofs.Framings.{IsFront, number_at-front, is_message, begins_message}
use Rattle.mdp_sbe.proofs.message.Messages.next.Goals as goal

pub lend-requires : goal.lend-requires
lend-requires c =
    let is : IsFront c.self.inside.rest.now c.split_at.result.0.now c.split_at.result.1.now c.u16_at-size.result =
    record { stated = c.u16_at-size.ensures; long = omega arith; inside = omega arith; front_is = c.split_at.ensures.front; after_is = c.split_at.ensures.back } in
    is_message _ _ _ _ is (sym c.u16_at.ensures ∙ c.if-u16_at-ne-SCHEMA.false)

pub returns-clause-ok : goal.returns-clause-ok
returns-clause-ok c =
    let is : IsFront c.self.inside.rest.now c.split_at.result.0.now c.split_at.result.1.now c.u16_at-size.result =
    record { stated = c.u16_at-size.ensures; long = omega arith; inside = omega arith; front_is = c.split_at.ensures.front; after_is = c.split_at.ensures.back } in
    let good = is_message _ _ _ _ is (sym c.u16_at.ensures ∙ c.if-u16_at-ne-SCHEMA.false) in
    rw (← c.self.view_is) (begins_message _ _ _ _ _ is good c.lend.ensures)

pub returns-then-u16_at-ne-SCHEMA-clause-err : goal.returns-then-u16_at-ne-SCHEMA-clause-err
returns-then-u16_at-ne-SCHEMA-clause-err c =
    let is : IsFront c.self.inside.rest.now c.split_at.result.0.now c.split_at.result.1.now c.u16_at-size.result =
    record { stated = c.u16_at-size.ensures; long = omega arith; inside = omega arith; front_is = c.split_at.ensures.front; after_is = c.split_at.ensures.back } in
    let same = number_at-front _ _ _ _ 6 2 is (omega arith) in
    rw (← c.self.view_is) ((omega arith, omega arith, λ e. c.if-u16_at-ne-SCHEMA.true (c.u16_at.ensures ∙ same ∙ e)), refl)
