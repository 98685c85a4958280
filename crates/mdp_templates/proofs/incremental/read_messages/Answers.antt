use Rattle.std.proofs.Common.{length}
use Rattle.std.proofs.lemmas.Result.{err_from_is_err_and, IfOk-at_ok}
use Rattle.mdp_sbe.specs.declared.message.Message as lent
use Rattle.mdp_sbe.specs.Framing.{BeginsMessage, parts}
use Rattle.mdp_templates.specs.Incremental.{IsIncremental, IsRefusedIncremental}
use Rattle.mdp_templates.specs.Spans.{messages_at}
use Rattle.mdp_templates.proofs.Messages.{refused_message}
use Rattle.mdp_templates.proofs.Spanning.{counted-read, messages-read, within-read}
use Rattle.mdp_templates.proofs.incremental.read_messages.Goals as goal

pub returns-in_err-span-clause-refused : goal.returns-in_err-span-clause-refused
returns-in_err-span-clause-refused g c =
    let p = err_from_is_err_and c.from_residual-in_err-span.result c.from_residual-in_err-span.ensures.1 in
    let begins = IfOk-at_ok (λ (m : lent.Message). BeginsMessage c.loop-next.cursor (parts m) c.next.new.self) c.in_ok-message.was c.in-Some.ensures.ok in
    rw (p.1, p.2) (refused_message IsIncremental IsRefusedIncremental c.args.rest.now (messages_at c.loop-next.entries.items c.loop-next.spans) c.loop-next.cursor (parts c.in_ok-message.message) c.next.new.self c.in_err-span.field-0.0 c.loop-next.invariant.read begins c.in_err-span.ensures.refused)

pub loop-next-preserved : goal.loop-next-preserved
loop-next-preserved g c =
    let old = c.loop-next.entries.items in
    let new = c.read_message.new.entries.items in
    let spans = c.loop-next.spans in
    let begins = IfOk-at_ok (λ (m : lent.Message). BeginsMessage c.loop-next.cursor (parts m) c.next.new.self) c.in_ok-message.was c.in-Some.ensures.ok in
    rw c.in_ok-push.ensures.ok (record {
      counted = counted-read (length old) (length new) spans c.in_ok-span.span c.loop-next.invariant.counted c.in_ok-span.ensures.count;
      within = within-read (IsIncremental (parts c.in_ok-message.message)) old new spans c.in_ok-span.span c.loop-next.invariant.within c.in_ok-span.ensures.ok;
      read = messages-read IsIncremental c.args.rest.now old new spans c.in_ok-span.span c.loop-next.cursor (parts c.in_ok-message.message) c.next.new.self c.loop-next.invariant.within c.loop-next.invariant.read begins c.in_ok-span.ensures.ok;
    })
