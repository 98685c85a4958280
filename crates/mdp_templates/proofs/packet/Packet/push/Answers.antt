use Rattle.std.proofs.Common.{◌≡◌, List, length, ap, arith}
use Rattle.std.proofs.lemmas.Result.{err_from_is_err_and}
use Rattle.mdp_templates.specs.Packet.{MessageContent}
use Rattle.mdp_templates.proofs.Spanning.{messages-grown, messages-more}
use Rattle.mdp_templates.proofs.packet.Packet.push.Goals as goal

pub returns-in_err-push-clause-err : goal.returns-in_err-push-clause-err
returns-in_err-push-clause-err g c =
    let p = err_from_is_err_and c.from_residual-in_err-push.result c.from_residual-in_err-push.ensures.1 in
    rw (p.1, ← c.self.view_is, c.in_err-push.ensures.err, c.in_ok-extend_from_slice.ensures.items)
    (ap (λ (ms : List MessageContent). record { number = c.self.inside.number; messages = ms }) (messages-grown c.self.inside.entries.items c.args.entries.now c.self.inside.spans c.self.invariant))

pub returns-clause-ok : goal.returns-clause-ok
returns-clause-ok g c =
    let start : c.len-start.result ≡ length c.self.inside.entries.items = omega (arith, c.len-start.ensures) in
    rw (← c.self.view_is, c.in_ok-push.ensures.ok, c.in_ok-extend_from_slice.ensures.items, start)
    (ap (λ (ms : List MessageContent). record { number = c.self.inside.number; messages = ms }) (messages-more c.self.inside.entries.items c.args.entries.now c.self.inside.spans c.args.end c.self.invariant))
