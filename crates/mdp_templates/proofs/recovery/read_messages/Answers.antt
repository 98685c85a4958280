use Rattle.std.proofs.lemmas.Result.{err_from_is_err_and, IfOk-at_ok}
use Rattle.mdp_sbe.specs.declared.message.Message as lent
use Rattle.mdp_sbe.specs.Framing.{BeginsMessage, parts}
use Rattle.mdp_templates.specs.Recovery.{IsRecovery, IsRefusedRecovery}
use Rattle.mdp_templates.proofs.Messages.{refused_message, Give-more}
use Rattle.mdp_templates.proofs.recovery.read_messages.Goals as goal

pub returns-in_err-read_message-clause-refused : goal.returns-in_err-read_message-clause-refused
returns-in_err-read_message-clause-refused g c =
    let p = err_from_is_err_and c.from_residual-in_err-read_message.result c.from_residual-in_err-read_message.ensures.1 in
    let begins = IfOk-at_ok (λ (m : lent.Message). BeginsMessage c.loop-next.cursor (parts m) c.next.new.self) c.in_ok-message.was c.in-Some.ensures.ok in
    rw (p.1, p.2) (refused_message IsRecovery IsRefusedRecovery c.args.rest.now c.loop-next.invariant.each c.loop-next.cursor (parts c.in_ok-message.message) c.next.new.self c.in_err-read_message.field-0.0 c.loop-next.invariant.follow begins c.in_err-read_message.ensures.refused)

pub loop-next-preserved : goal.loop-next-preserved
loop-next-preserved g c =
    let begins = IfOk-at_ok (λ (m : lent.Message). BeginsMessage c.loop-next.cursor (parts m) c.next.new.self) c.in_ok-message.was c.in-Some.ensures.ok in
    Give-more c.args.rest.now c.loop-next.list.items c.read_message.new.list.items c.loop-next.cursor (parts c.in_ok-message.message) c.next.new.self c.loop-next.invariant begins c.in_ok-read_message.ensures.ok
