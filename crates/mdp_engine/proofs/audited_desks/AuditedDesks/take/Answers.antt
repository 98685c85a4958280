use Rattle.std.proofs.Common.{◌≡◌, ℕ, true, List, [], ◌∷◌, ◌++◌, map, ap, subst, sym, ◌∙◌}
use Rattle.std.proofs.lemmas.List.{append-nil}
use Rattle.std.proofs.lemmas.Result.{err_from_is_err_and}
use Rattle.mdp_templates.specs.Packet.{MessageContent}
use Rattle.mdp_templates.specs.declared.entry.Entry.{Entry}
use Rattle.mdp_books.specs.declared.event_end.EventEnd.{EventEnd}
use Rattle.mdp_books.specs.Feed.{sent_as}
use Rattle.mdp_print.specs.Pieces.{BreaksOff}
use Rattle.mdp_desks.specs.declared.desk.Desk.{Desk}
use Rattle.mdp_desks.specs.Desks.{desks_moment, desks_through, desk_settled, desk_standing}
use Rattle.mdp_desks.specs.Changed.{changed_through}
use Rattle.mdp_desks.specs.Moments.{Moment, at_event_end}
use Rattle.mdp_desks.proofs.Hearing.{ended_desks, ended_moment, open_desks, open_moment}
use Rattle.mdp_engine.specs.Kept.{kept_lines}
use Rattle.mdp_engine.proofs.Keeping.{none_kept}
use Rattle.mdp_engine.proofs.audited_desks.AuditedDesks.take.Goals as goal

pub returns-in_ok-show-clause-desks : goal.returns-in_ok-show-clause-desks
returns-in_ok-show-clause-desks g c =
    c.settle.ensures
    ∙ ap (map (desk_settled c.args.end.packet)) (c.show.ensures.same ∙ c.ripen.ensures ∙ c.hear.ensures ∙ ap (λ (es : List Entry). desks_through c.args.end.packet c.args.end.message 1 es c.args.self.now) c.entries.ensures.items)
    ∙ ended_desks c.args.end.packet c.args.end.message c.args.taken.now.entries c.args.self.now c.args.taken.now.end (sym c.is_end.ensures ∙ c.if-is_end.true)

-- the event that a message ends, and the desks that heard it
shown_moment : (k j : ℕ) (m : MessageContent) (before heard : List Desk) → m.end ≡ true → heard ≡ desks_through k j 1 m.entries before
    → at_event_end (record { packet = k; message = j }) (map (desk_standing k) heard) ∷ [] ≡ desks_moment (sent_as k j m) before
shown_moment k j m before heard ends is =
    let end : EventEnd = record { packet = k; message = j } in
    ap (λ (ds : List Desk). at_event_end end (map (desk_standing k) ds) ∷ []) is ∙ ended_moment k j m.entries before m.end ends

pub returns-in_ok-show-clause-text : goal.returns-in_ok-show-clause-text
returns-in_ok-show-clause-text g c =
    let heard = c.ripen.ensures ∙ c.hear.ensures ∙ ap (λ (es : List Entry). desks_through c.args.end.packet c.args.end.message 1 es c.args.self.now) c.entries.ensures.items in
    c.in_ok-show.ensures.text
    ∙ ap (λ (ms : List Moment). c.args.out.now.text.items ++ kept_lines c.args.out.now.keeps_lines ms) (shown_moment c.args.end.packet c.args.end.message c.args.taken.now c.args.self.now _ (sym c.is_end.ensures ∙ c.if-is_end.true) heard)

pub returns-in_ok-show-clause-changed : goal.returns-in_ok-show-clause-changed
returns-in_ok-show-clause-changed g c =
    let heard = c.ripen.ensures ∙ c.hear.ensures ∙ ap (λ (es : List Entry). desks_through c.args.end.packet c.args.end.message 1 es c.args.self.now) c.entries.ensures.items in
    c.show.ensures.changed
    ∙ ap (changed_through c.args.out.now.changed) (shown_moment c.args.end.packet c.args.end.message c.args.taken.now c.args.self.now _ (sym c.is_end.ensures ∙ c.if-is_end.true) heard)

pub returns-in_err-show-clause-err : goal.returns-in_err-show-clause-err
returns-in_err-show-clause-err g c =
    let fault = err_from_is_err_and c.from_residual.result c.from_residual.ensures.1 in
    let heard = c.ripen.ensures ∙ c.hear.ensures ∙ ap (λ (es : List Entry). desks_through c.args.end.packet c.args.end.message 1 es c.args.self.now) c.entries.ensures.items in
    let is = shown_moment c.args.end.packet c.args.end.message c.args.taken.now c.args.self.now _ (sym c.is_end.ensures ∙ c.if-is_end.true) heard in
    rw fault.1 (subst (λ (ms : List Moment). BreaksOff (kept_lines c.args.out.now.keeps_lines ms) c.args.out.now.text.items c.show.new.out.text.items) is c.in_err-show.ensures.err)

pub returns-else-is_end-clause-desks : goal.returns-else-is_end-clause-desks
returns-else-is_end-clause-desks g c =
    c.hear.ensures
    ∙ ap (λ (es : List Entry). desks_through c.args.end.packet c.args.end.message 1 es c.args.self.now) c.entries.ensures.items
    ∙ open_desks c.args.end.packet c.args.end.message c.args.taken.now.entries c.args.self.now c.args.taken.now.end (sym c.is_end.ensures ∙ c.if-is_end.false)

pub returns-else-is_end-clause-text : goal.returns-else-is_end-clause-text
returns-else-is_end-clause-text g c =
    let keeps = c.args.out.now.keeps_lines in
    sym (append-nil c.args.out.now.text.items) ∙ ap (λ (t : List ℕ). c.args.out.now.text.items ++ t) (none_kept keeps)
    ∙ ap (λ (ms : List Moment). c.args.out.now.text.items ++ kept_lines keeps ms) (sym (open_moment c.args.end.packet c.args.end.message c.args.taken.now.entries c.args.self.now c.args.taken.now.end (sym c.is_end.ensures ∙ c.if-is_end.false)))

pub returns-else-is_end-clause-changed : goal.returns-else-is_end-clause-changed
returns-else-is_end-clause-changed g c =
    ap (changed_through c.args.out.now.changed) (sym (open_moment c.args.end.packet c.args.end.message c.args.taken.now.entries c.args.self.now c.args.taken.now.end (sym c.is_end.ensures ∙ c.if-is_end.false)))
