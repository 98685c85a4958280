use Rattle.std.proofs.Common.{◌≡◌, ◌++◌, ℕ, List, Bool, length, map, drop, sym, ap, subst, ◌∙◌, append_assoc, arith}
use Rattle.std.specs.Prelude.{Option, false}
use Rattle.std.specs.List.{AllByRecursion, flat_map}
use Rattle.std.proofs.lemmas.List.{length-map, take_at}
use Rattle.mdp_quotes.specs.declared.best.Best.{Best}
use Rattle.mdp_engine.specs.declared.spreads.Spread.{Spread}
use Rattle.mdp_engine.specs.Parts.{AreDue, AreQuiet, IsPart, lists_in}
use Rattle.mdp_engine.specs.Spreads.{IsUnder}
use Rattle.mdp_reports.specs.Rounds.{all_by_slot, kept_after, kept_line}
use Rattle.mdp_engine.proofs.Noting.{quiet_of}
use Rattle.mdp_reports.specs.Taking.{AreKept, lines_told, marked_line, marks_after}
use Rattle.mdp_reports.proofs.Marking.{all_under, all_lines}
use Rattle.mdp_reports.proofs.collector.Collector.put_event.Goals as goal

pub mark_spreads-requires-clause-within : goal.mark_spreads-requires-clause-within
mark_spreads-requires-clause-within g c slot n part =
    let below = c.self.invariant.0.parts_are.within slot n (subst (λ ls. IsPart (lists_in ls) slot n) c.deref.ensures.value part) in
    omega (arith, below, c.self.invariant.0.many)

pub put_audits-requires-clause-under : goal.put_audits-requires-clause-under
put_audits-requires-clause-under g c =
    let inside = c.self.inside in
    let long : length c.put_all_told.new.marks ≡ length inside.listed.now =
    c.in_ok-put_all_told.ensures.marks_long ∙ ap length c.clear.ensures ∙ length-map inside.marks (λ (b : Bool). false) ∙ c.self.invariant.1.long in
    subst (λ (ss : List Spread). AllByRecursion (IsUnder (length c.put_all_told.new.marks)) ss) (sym c.deref-2.ensures.value)
    (subst (λ (n : ℕ). AllByRecursion (IsUnder n) inside.spreads.items) (sym long) (all_under inside.listed.now inside.spreads.items c.self.invariant.0.spreads_are.spreads_are))

pub put_audits-requires-clause-quiet : goal.put_audits-requires-clause-quiet
put_audits-requires-clause-quiet g c =
    let inside = c.self.inside in
    let marks = c.put_all_told.new.marks in
    let due = c.mark_spreads.new.due in
    let marked = subst (λ ls. AreDue marks (lists_in ls) due) c.deref.ensures.value c.mark_spreads.ensures.due in
    subst (λ ss. AreQuiet marks ss due) (sym c.deref-2.ensures.value) (quiet_of marks _ inside.spreads.items (lists_in inside.parts.items) due c.self.invariant.0.parts_are marked)

pub invariant_of-self-2 : goal.invariant_of-self-2
invariant_of-self-2 g c =
    let inside = c.self.inside in
    let kept = c.put_all_told.new.kept in
    let told = c.in_ok-put_all_told.ensures in
    let was = c.self.invariant in
    let whole = take_at kept (drop (length kept) inside.kept.items) inside.kept.len (told.kept_long ∙ c.deref_mut.ensures.len) in
    let beside : AreKept inside.listed.now kept c.put_all_told.new.marks = record {
      kept_long = told.kept_long ∙ ap length c.deref_mut.ensures.value ∙ was.1.kept_long;
      long = told.marks_long ∙ ap length c.clear.ensures ∙ length-map inside.marks (λ (b : Bool). false) ∙ was.1.long;
    } in (
      record { spreads_are = was.0.spreads_are; parts_are = was.0.parts_are; many = c.put_audits.ensures.long ∙ c.mark_spreads.ensures.long ∙ was.0.many },
      subst (λ (ks : List (Option Best)). AreKept inside.listed.now ks c.put_all_told.new.marks) (sym whole) beside,
    )

pub returns-clause-text : goal.returns-clause-text
returns-clause-text g c =
    let inside = c.self.inside in
    let end = c.args.end in
    let listed = inside.listed.now in
    let ts = all_by_slot c.args.left.now in
    let spreads = inside.spreads.items in
    let out = c.args.out.now.items in
    let marks = c.put_all_told.new.marks in
    let kept = c.put_all_told.new.kept in
    let told = c.in_ok-put_all_told.ensures in
    let are = c.self.invariant.0.spreads_are.spreads_are in
    let under = subst (λ (n : ℕ). AllByRecursion (IsUnder n) spreads) (sym c.self.invariant.1.long) (all_under listed spreads are) in
    let cleared = map (λ (b : Bool). false) inside.marks in
    let whole = take_at kept (drop (length kept) inside.kept.items) inside.kept.len (told.kept_long ∙ c.deref_mut.ensures.len) in
    let all : List ℕ = out ++ lines_told ts in
    rw (← c.self.view_is) (
    c.in_ok-put_audits.ensures.text
    ∙ ap (λ (ss : List Spread). c.put_all_told.new.out.items ++ flat_map (marked_line end listed marks c.deref-3.result.now) ss) c.deref-2.ensures.value
    ∙ ap (λ (ks : List (Option Best)). c.put_all_told.new.out.items ++ flat_map (marked_line end listed marks ks) spreads) (c.deref-3.ensures.value ∙ whole ∙ told.kept ∙ ap (kept_after ts) c.deref_mut.ensures.value)
    ∙ ap (λ (l : List ℕ). l ++ flat_map (marked_line end listed marks (kept_after ts inside.kept.items)) spreads) told.text
    ∙ ap (λ (ms : List Bool). all ++ flat_map (marked_line end listed ms (kept_after ts inside.kept.items)) spreads) (told.marks ∙ ap (marks_after ts) c.clear.ensures)
    ∙ append_assoc out (lines_told ts) (flat_map (marked_line end listed (marks_after ts cleared) (kept_after ts inside.kept.items)) spreads)
    ∙ ap (λ (l : List ℕ). out ++ (lines_told ts ++ l)) (all_lines end listed ts inside.marks (kept_after ts inside.kept.items) spreads under)
    ∙ ap (λ (ss : List Spread). out ++ (lines_told ts ++ flat_map (kept_line end listed ts (kept_after ts inside.kept.items)) ss)) are
    )
