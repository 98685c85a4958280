use Rattle.std.proofs.Common.{arith}
use Rattle.mdp_desks.proofs.desks.settle_waiting.Goals as goal

pub settle_due-requires-clause-due : goal.settle_due-requires-clause-due
settle_due-requires-clause-due g c =
    let before = c.ripened-until.ensures in
    before.due.due c.args.packet (before.later (omega (arith, c.if-until-eq0.false)))

pub returns-else-until-eq0-clause-due : goal.returns-else-until-eq0-clause-due
returns-else-until-eq0-clause-due g c =
    let before = c.ripened-until.ensures in
    let later = before.later (omega (arith, c.if-until-eq0.false)) in
    let here = c.settle_due.ensures.due c.args.packet (before.due.due c.args.packet later) in
    record { many = here.many; due = λ k under. c.settle_due.ensures.due k (before.due.due k under); none = λ no. absurd (omega (arith, no, later)) }
