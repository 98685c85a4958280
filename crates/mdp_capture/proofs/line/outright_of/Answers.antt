use Rattle.std.proofs.Common.{sym, ◌∙◌}
use Rattle.mdp_capture.proofs.Fields.{outright_of_left}
use Rattle.mdp_capture.proofs.line.outright_of.Goals as goal

pub returns-then-is_some : goal.returns-then-is_some
returns-then-is_some c =
    let many = outright_of_left c.next_field.result.0.now c.next_field.result.1 (sym c.is_some.ensures ∙ c.if-is_some.true) in
    rw (c.in-Some.is, c.next_field.ensures) (sym many)
