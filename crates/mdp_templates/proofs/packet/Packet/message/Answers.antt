use Rattle.std.proofs.Common.{◌<◌, Bool, List, Some, length, take, drop, get_or, false, ap, sym, ◌∙◌, arith}
use Rattle.mdp_templates.specs.declared.entry.Entry.{Entry}
use Rattle.mdp_templates.specs.Packet.{MessageContent, PacketContent}
use Rattle.mdp_templates.proofs.Spanning.{message-there, as_many_spans, span_of}
use Rattle.mdp_templates.proofs.packet.Packet.message.Goals as goal

abbrev with_end : Bool → List Entry → MessageContent
with_end end entries = record { entries = entries; end = end }

pub returns : goal.returns
returns g c =
    let entries = c.self.inside.entries.items in
    let spans = c.self.inside.spans in
    let held = c.as_slice-spans.ensures in
    let span = get_or spans c.args.n (span_of 0 0 false) in
    let there = rw held at c.entries_at.ensures.items in
    let lent = there ∙ ap (λ (es : List Entry). take span.count (drop span.start es)) c.deref.ensures.value in
    let seen = ap (λ (p : PacketContent). length p.messages) c.self.view_is in
    let under : c.args.n < length spans = omega (arith, c.requires, seen, as_many_spans entries spans) in
    rw (← c.self.view_is, held)
    (message-there entries spans c.args.n (span_of 0 0 false) under
    ∙ ap Some (ap (with_end span.end) (sym lent)))
