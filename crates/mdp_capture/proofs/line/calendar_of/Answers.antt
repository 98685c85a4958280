use Rattle.std.proofs.Common.{sym, ◌∙◌}
use Rattle.mdp_capture.proofs.Fields.{calendar_of_left}
use Rattle.mdp_capture.proofs.line.calendar_of.Goals as goal

pub returns-then-is_some : goal.returns-then-is_some
returns-then-is_some c =
    let first = rw c.in_ok-rest.was at c.next_field.ensures in
    let many = calendar_of_left c.next_field.result.0.now c.next_field-2.result.0.now c.next_field-2.result.1 (sym c.is_some.ensures ∙ c.if-is_some.true) in
    rw (c.in_ok-legs.was, first, c.next_field-2.ensures) (sym many)
