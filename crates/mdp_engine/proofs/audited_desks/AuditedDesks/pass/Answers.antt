use Rattle.std.proofs.Common.{◌≡◌, ◌+◌, ◌++◌, [], ◌∷◌, ℕ, Bool, List, drop, append_assoc, ap, sym, subst, rules, ◌∙◌, arith}
use Rattle.std.proofs.lemmas.List.{append-nil, drop_all}
use Rattle.std.proofs.lemmas.List.Sums.{fold-append}
use Rattle.mdp_templates.specs.Packet.{MessageContent}
use Rattle.mdp_templates.proofs.Spanning.{left_from}
use Rattle.mdp_print.specs.Pieces.{BeginsWith, BreaksOff}
use Rattle.mdp_print.proofs.Fronts.{begins_more, breaks_within}
use Rattle.mdp_books.specs.Feed.{sent_as, sent_from}
use Rattle.mdp_desks.specs.declared.desk.Desk.{Desk}
use Rattle.mdp_desks.specs.Changed.{changed_by, changed_through}
use Rattle.mdp_desks.specs.Desks.{desks_after, desks_moment, passed_desks, passed_moments}
use Rattle.mdp_engine.specs.Kept.{kept_lines}
use Rattle.mdp_engine.proofs.Keeping.{kept-append, none_kept}
use Rattle.mdp_engine.proofs.audited_desks.AuditedDesks.pass.Goals as goal

-- the lines of a message, and then those of the messages that are left, are the ones of all of them
message_more : (keeps : Bool) (k n : ℕ) (m : MessageContent) (ms : List MessageContent) (desks : List Desk) (out : List ℕ) → drop n ms ≡ m ∷ drop (n + 1) ms
    → (out ++ kept_lines keeps (desks_moment (sent_as k (n + 1) m) desks)) ++ kept_lines keeps (passed_moments (sent_from k (n + 1 + 1) (drop (n + 1) ms)) (desks_after (sent_as k (n + 1) m) desks))
    ≡ out ++ kept_lines keeps (passed_moments (sent_from k (n + 1) (drop n ms)) desks)
message_more keeps k n m ms desks out left =
    let here = desks_moment (sent_as k (n + 1) m) desks in
    let later = passed_moments (sent_from k (n + 1 + 1) (drop (n + 1) ms)) (desks_after (sent_as k (n + 1) m) desks) in
    append_assoc out (kept_lines keeps here) (kept_lines keeps later)
    ∙ ap (λ (t : List ℕ). out ++ t) (sym (kept-append keeps here later))
    ∙ sym (ap (λ (l : List MessageContent). out ++ kept_lines keeps (passed_moments (sent_from k (n + 1) l) desks)) left)

-- and so are the marks
marks_more : (k n : ℕ) (m : MessageContent) (ms : List MessageContent) (desks : List Desk) (marks : List Bool) → drop n ms ≡ m ∷ drop (n + 1) ms
    → changed_through (changed_through marks (desks_moment (sent_as k (n + 1) m) desks)) (passed_moments (sent_from k (n + 1 + 1) (drop (n + 1) ms)) (desks_after (sent_as k (n + 1) m) desks))
    ≡ changed_through marks (passed_moments (sent_from k (n + 1) (drop n ms)) desks)
marks_more k n m ms desks marks left =
    sym (fold-append changed_by marks (desks_moment (sent_as k (n + 1) m) desks) (passed_moments (sent_from k (n + 1 + 1) (drop (n + 1) ms)) (desks_after (sent_as k (n + 1) m) desks)))
    ∙ sym (ap (λ (l : List MessageContent). changed_through marks (passed_moments (sent_from k (n + 1) l) desks)) left)

pub loop-n-preserved : goal.loop-n-preserved
loop-n-preserved g c =
    let k = c.number-number.result in
    let n = c.loop-n.n in
    let ms = c.args.packet.now.messages in
    let m = c.message.result in
    let desks = c.loop-n.self in
    let out = c.loop-n.out.text.items in
    let keeps = c.args.out.now.keeps_lines in
    let here = desks_moment (sent_as k (n + 1) m) desks in
    let later = sent_from k (n + 1 + 1) (drop (n + 1) ms) in
    let left : drop n ms ≡ m ∷ drop (n + 1) ms = left_from ms n m c.message.ensures in
    let text : c.take.new.out.text.items ≡ out ++ kept_lines keeps here = c.in_ok-take.ensures.text ∙ ap (λ (b : Bool). out ++ kept_lines b here) c.loop-n.invariant.keeps in
    record {
      desks =
          ap (passed_desks later) c.in_ok-take.ensures.desks
          ∙ sym (ap (λ (l : List MessageContent). passed_desks (sent_from k (n + 1) l) desks) left)
          ∙ c.loop-n.invariant.desks;
      text =
          ap (λ (t : List ℕ). t ++ kept_lines keeps (passed_moments later c.take.new.self)) text
          ∙ ap (λ (ds : List Desk). (out ++ kept_lines keeps here) ++ kept_lines keeps (passed_moments later ds)) c.in_ok-take.ensures.desks
          ∙ message_more keeps k n m ms desks out left
          ∙ c.loop-n.invariant.text;
      changed =
          ap (λ (marks : List Bool). changed_through marks (passed_moments later c.take.new.self)) c.in_ok-take.ensures.changed
          ∙ ap (λ (ds : List Desk). changed_through (changed_through c.loop-n.out.changed here) (passed_moments later ds)) c.in_ok-take.ensures.desks
          ∙ marks_more k n m ms desks c.loop-n.out.changed left
          ∙ c.loop-n.invariant.changed;
      keeps = c.take.ensures.keeps ∙ c.loop-n.invariant.keeps;
      front = subst (λ (ys : List ℕ). BeginsWith ys c.args.out.now.text.items) (sym text) (begins_more c.args.out.now.text.items out (kept_lines keeps here) c.loop-n.invariant.front);
    }

pub returns-clause-text : goal.returns-clause-text
returns-clause-text g c =
    let k = c.number-number.result in
    let n = c.loop-n.n in
    let ms = c.args.packet.now.messages in
    let out = c.loop-n.out.text.items in
    let keeps = c.args.out.now.keeps_lines in
    let none : drop n ms ≡ [] = drop_all n ms (omega (arith, c.loop-n-test.false, c.len-n-end.ensures)) in
    sym (append-nil out) ∙ ap (λ (t : List ℕ). out ++ t) (none_kept keeps)
    ∙ ap (λ (l : List MessageContent). out ++ kept_lines keeps (passed_moments (sent_from k (n + 1) l) c.loop-n.self)) (sym none)
    ∙ c.loop-n.invariant.text
    ∙ ap (λ (number : ℕ). c.args.out.now.text.items ++ kept_lines keeps (passed_moments (sent_from number 1 ms) c.args.self.now)) c.number-number.ensures

pub returns-in_err-take-clause-err : goal.returns-in_err-take-clause-err
returns-in_err-take-clause-err g c =
    let k = c.number-number.result in
    let n = c.loop-n.n in
    let ms = c.args.packet.now.messages in
    let m = c.message.result in
    let before = c.args.out.now.text.items in
    let keeps = c.args.out.now.keeps_lines in
    let here = desks_moment (sent_as k (n + 1) m) c.loop-n.self in
    let left : drop n ms ≡ m ∷ drop (n + 1) ms = left_from ms n m c.message.ensures in
    let text = message_more keeps k n m ms c.loop-n.self c.loop-n.out.text.items left ∙ c.loop-n.invariant.text in
    let broken = subst (λ (b : Bool). BreaksOff (kept_lines b here) c.loop-n.out.text.items c.take.new.out.text.items) c.loop-n.invariant.keeps c.in_err-take.ensures.err in
    let off : BreaksOff _ before c.take.new.out.text.items = breaks_within _ before c.loop-n.out.text.items _ _ c.take.new.out.text.items c.loop-n.invariant.front text broken in
    search rules
