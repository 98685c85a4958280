-- What is told and kept gives the lines of an event end.
use Rattle.std.proofs.Common.{◌≡◌, ◌≢◌, ◌≤◌, ℕ, ◌+◌, zero, suc, Bool, true, false, cond, List, [], ◌∷◌, ◌++◌, map, Option, Some, None, refl, sym, ap, ◌∙◌, subst, arith}
use Rattle.std.specs.Prelude.{nat_lt, ◌==◌, ◌&&◌, ◌||◌, slice_get}
use Rattle.std.specs.List.{AllPairs, AllZip, flat_map}
use Rattle.std.specs.Option.{IfSome}
use Rattle.std.proofs.lemmas.Bool.Decides.{nat_tests}
use Rattle.std.proofs.lemmas.List.Concat.{flat_map-append}
use Rattle.std.proofs.lemmas.List.Folds.{list_any-append}
use Rattle.std.proofs.lemmas.List.{append-nil}
use Rattle.mdp_templates.specs.declared.instrument.Instrument.{Instrument}
use Rattle.mdp_books.specs.declared.event_end.EventEnd.{EventEnd}
use Rattle.mdp_books.specs.Feed.{Sent, end_at, behind}
use Rattle.mdp_quotes.specs.declared.best.Best.{Best}
use Rattle.mdp_quotes.specs.Best.{best_of}
use Rattle.mdp_templates.specs.Instrument.{ids_of}
use Rattle.mdp_desks.specs.declared.desk.Desk.{Desk}
use Rattle.mdp_engine.specs.declared.spreads.Spread.{Spread}
use Rattle.mdp_desks.specs.Desks.{desk_standing}
use Rattle.mdp_engine.specs.Spreads.{seen_there, spread_line}
use Rattle.mdp_desks.specs.Beside.{listed_in}
use Rattle.mdp_engine.specs.Spreads.{spreads_from}
use Rattle.mdp_desks.specs.Lines.{Seen, text_of, audit_text, lines_as, verdicts_text, spread_text, book_lines}
use Rattle.mdp_desks.specs.Shown.{Footing, book_since, seen_since}
use Rattle.mdp_desks.specs.Due.{is_printed}
use Rattle.mdp_engine.proofs.Auditing.{audits_are}
use Rattle.mdp_desks.specs.Reports.{Told, told_of, told_there, told_from}
use Rattle.mdp_reports.specs.Rounds.{best_kept, is_told, name_of, kept_line, told_text}
use Rattle.mdp_reports.proofs.Merging.{From, told_behind}
use Rattle.mdp_reports.proofs.Keeping.{Agrees, seen_end, there_of}

-- ---- the books

one_book : (end : EventEnd) (slot : ℕ) (s : Option Seen) → flat_map (λ (t : Told). t.lines) (told_there end slot s) ≡ text_of end s
one_book end slot None = refl
one_book end slot (Some s) = by_printed s.printed
  where
    by_printed : (b : Bool) → flat_map (λ (t : Told). t.lines) (cond b (told_of end slot s ∷ []) []) ≡ cond b (book_lines end s.instrument.name s.book) []
    by_printed true = append-nil (book_lines end s.instrument.name s.book)
    by_printed false = refl

books : (end : EventEnd) (slot : ℕ) (seen : List (Option Seen)) → flat_map (λ (t : Told). t.lines) (told_from end slot seen) ≡ flat_map (text_of end) seen
books end slot [] = refl
books end slot (s ∷ seen) =
    flat_map-append (λ (t : Told). t.lines) (told_there end slot s) (told_from end (slot + 1) seen)
    ∙ ap (λ (l : List ℕ). l ++ flat_map (λ (t : Told). t.lines) (told_from end (slot + 1) seen)) (one_book end slot s)
    ∙ ap (λ (l : List ℕ). text_of end s ++ l) (books end (slot + 1) seen)

-- ---- what is told at a slot

abbrev there : Option (Option Seen) → Option Seen
there None = None
there (Some s) = s

abbrev printed_there : Option Seen → Bool
printed_there None = false
printed_there (Some s) = s.printed

abbrev best_there : Option Seen → Option Best
best_there None = None
best_there (Some s) = best_of s.book

apart : (a b : ℕ) → suc b ≤ a → (a == b) ≡ false
apart a b less = grind (arith, nat_tests, less)

alike : (a b : ℕ) → a ≡ b → (a == b) ≡ true
alike a b same = grind (arith, nat_tests, same)

none_before : (n : ℕ) (ts : List Told) → From (n + 1) ts → is_told ts n ≡ false
none_before n [] from = refl
none_before n (t ∷ ts) from =
    let over : n + 1 ≤ t.slot = from.0 in
    ap (λ (b : Bool). b || is_told ts n) (apart t.slot n (omega (arith, over))) ∙ none_before n ts from.1

abbrev at : ℕ → Told → Bool
at slot t = t.slot == slot

one_told : (end : EventEnd) (n : ℕ) (s : Option Seen) → is_told (told_there end n s) n ≡ printed_there s
one_told end n None = refl
one_told end n (Some s) = by_printed s.printed
  where
    by_printed : (b : Bool) → is_told (cond b (told_of end n s ∷ []) []) n ≡ b
    by_printed true = ap (λ (b : Bool). b || false) (alike n n refl)
    by_printed false = refl

other_told : (end : EventEnd) (n slot : ℕ) (s : Option Seen) → suc n ≤ slot → is_told (told_there end n s) slot ≡ false
other_told end n slot None less = refl
other_told end n slot (Some s) less = by_printed s.printed
  where
    by_printed : (b : Bool) → is_told (cond b (told_of end n s ∷ []) []) slot ≡ false
    by_printed true = ap (λ (b : Bool). b || false) (let other : (n == slot) ≡ false = grind (arith, nat_tests, less) in other)
    by_printed false = refl

or-false : (b : Bool) → (b || false) ≡ b
or-false true = refl
or-false false = refl

told_at : (end : EventEnd) (n : ℕ) (seen : List (Option Seen)) (m : ℕ) → is_told (told_from end n seen) (n + m) ≡ printed_there (there (slice_get seen m))
told_at end n [] m = refl
told_at end n (s ∷ seen) zero =
    let same : n + zero ≡ n = omega arith in
    ap (is_told (told_from end n (s ∷ seen))) same
    ∙ list_any-append (at n) (told_there end n s) (told_from end (n + 1) seen)
    ∙ ap (λ (b : Bool). b || is_told (told_from end (n + 1) seen) n) (one_told end n s)
    ∙ ap (λ (b : Bool). printed_there s || b) (none_before n (told_from end (n + 1) seen) (told_behind end (n + 1) seen))
    ∙ or-false (printed_there s)
told_at end n (s ∷ seen) (suc m) =
    let same : n + suc m ≡ n + 1 + m = omega arith in
    list_any-append (at (n + suc m)) (told_there end n s) (told_from end (n + 1) seen)
    ∙ ap (λ (b : Bool). b || is_told (told_from end (n + 1) seen) (n + suc m)) (other_told end n (n + suc m) s (omega arith))
    ∙ ap (is_told (told_from end (n + 1) seen)) same
    ∙ told_at end (n + 1) seen m

told_here : (end : EventEnd) (seen : List (Option Seen)) (m : ℕ) → is_told (told_from end 0 seen) m ≡ printed_there (there (slice_get seen m))
told_here end seen m = let same : m ≡ 0 + m = omega arith in ap (is_told (told_from end 0 seen)) same ∙ told_at end 0 seen m

one_best : (s : Option Seen) (b : Option Best) → Agrees s b → b ≡ best_there s
one_best None b agrees = agrees
one_best (Some s) b agrees = agrees

best_here : (seen : List (Option Seen)) (kept : List (Option Best)) (m : ℕ) → AllZip Agrees seen kept → best_kept (slice_get kept m) ≡ best_there (there (slice_get seen m))
best_here [] [] m agree = refl
best_here [] (b ∷ kept) m agree = elim agree [ ]
best_here (s ∷ seen) [] m agree = elim agree [ ]
best_here (s ∷ seen) (b ∷ kept) zero agree = one_best s b agree.0
best_here (s ∷ seen) (b ∷ kept) (suc m) agree = best_here seen kept m agree.1

-- what is seen is of the listed securities
abbrev pub IsNamed : Instrument → Option Seen → Type 0
IsNamed i None = Unit {0}
IsNamed i (Some s) = s.instrument ≡ i

name_here : (listed : List Instrument) (seen : List (Option Seen)) (m : ℕ) → AllZip IsNamed listed seen → IfSome (there (slice_get seen m)) (λ (s : Seen). name_of (slice_get listed m) ≡ s.instrument.name)
name_here [] [] m named = tt
name_here [] (s ∷ seen) m named = elim named [ ]
name_here (i ∷ listed) [] m named = elim named [ ]
name_here (i ∷ listed) (s ∷ seen) zero named = by_it s named.0
  where
    by_it : (s : Option Seen) → IsNamed i s → IfSome s (λ (s : Seen). i.name ≡ s.instrument.name)
    by_it None is = tt
    by_it (Some s) is = ap (λ (j : Instrument). j.name) (sym is)
name_here (i ∷ listed) (s ∷ seen) (suc m) named = name_here listed seen m named.1

-- ---- a spread's line

abbrev no_line : List ℕ
no_line = []

no_cond : (b : Bool) → cond b no_line no_line ≡ no_line
no_cond true = refl
no_cond false = refl

no_third : (end : EventEnd) (name : List ℕ) (a b : Option Best) → verdicts_text end name a b None ≡ []
no_third end name None b = refl
no_third end name (Some a) None = refl
no_third end name (Some a) (Some b) = refl

no_second : (end : EventEnd) (name : List ℕ) (a c : Option Best) → verdicts_text end name a None c ≡ []
no_second end name None c = refl
no_second end name (Some a) c = refl

abbrev line_by : EventEnd → List ℕ → Option Seen → Option Seen → Option Seen → List ℕ
line_by end name s leg1 leg2 = cond (printed_there s || printed_there leg1 || printed_there leg2) (verdicts_text end name (best_there s) (best_there leg1) (best_there leg2)) []

line_same : (end : EventEnd) (name : List ℕ) (s leg1 leg2 : Option Seen) → IfSome s (λ (x : Seen). name ≡ x.instrument.name) → line_by end name s leg1 leg2 ≡ spread_text end s leg1 leg2
line_same end name None leg1 leg2 named = no_cond (printed_there leg1 || printed_there leg2)
line_same end name (Some s) None leg2 named =
    ap (λ (l : List ℕ). cond (s.printed || false || printed_there leg2) l []) (no_second end name (best_of s.book) (best_there leg2))
    ∙ no_cond (s.printed || false || printed_there leg2)
line_same end name (Some s) (Some leg1) None named =
    ap (λ (l : List ℕ). cond (s.printed || leg1.printed || false) l []) (no_third end name (best_of s.book) (best_of leg1.book))
    ∙ no_cond (s.printed || leg1.printed || false)
line_same end name (Some s) (Some leg1) (Some leg2) named =
    ap (λ (n : List ℕ). cond (s.printed || leg1.printed || leg2.printed) (verdicts_text end n (best_of s.book) (best_of leg1.book) (best_of leg2.book)) []) named

spread_same : (end : EventEnd) (listed : List Instrument) (seen : List (Option Seen)) (kept : List (Option Best)) (spread : Spread) → AllZip Agrees seen kept → AllZip IsNamed listed seen
    → kept_line end listed (told_from end 0 seen) kept spread
    ≡ spread_text end (there (slice_get seen spread.slot)) (there (slice_get seen spread.leg1)) (there (slice_get seen spread.leg2))
spread_same end listed seen kept spread agree named =
    let name = name_of (slice_get listed spread.slot) in
    let at0 : Option Seen = there (slice_get seen spread.slot) in
    let at1 : Option Seen = there (slice_get seen spread.leg1) in
    let at2 : Option Seen = there (slice_get seen spread.leg2) in
    let b1 = is_told (told_from end 0 seen) spread.leg1 in
    let b2 = is_told (told_from end 0 seen) spread.leg2 in
    let k0 = best_kept (slice_get kept spread.slot) in
    let k1 = best_kept (slice_get kept spread.leg1) in
    let k2 = best_kept (slice_get kept spread.leg2) in
    ap (λ (b : Bool). cond (b || b1 || b2) (verdicts_text end name k0 k1 k2) []) (told_here end seen spread.slot)
    ∙ ap (λ (b : Bool). cond (printed_there at0 || b || b2) (verdicts_text end name k0 k1 k2) []) (told_here end seen spread.leg1)
    ∙ ap (λ (b : Bool). cond (printed_there at0 || printed_there at1 || b) (verdicts_text end name k0 k1 k2) []) (told_here end seen spread.leg2)
    ∙ ap (λ (k : Option Best). cond (printed_there at0 || printed_there at1 || printed_there at2) (verdicts_text end name k k1 k2) []) (best_here seen kept spread.slot agree)
    ∙ ap (λ (k : Option Best). cond (printed_there at0 || printed_there at1 || printed_there at2) (verdicts_text end name (best_there at0) k k2) []) (best_here seen kept spread.leg1 agree)
    ∙ ap (λ (k : Option Best). cond (printed_there at0 || printed_there at1 || printed_there at2) (verdicts_text end name (best_there at0) (best_there at1) k) []) (best_here seen kept spread.leg2 agree)
    ∙ line_same end name at0 at1 at2 (name_here listed seen spread.slot named)

-- ---- desks that show the same

abbrev desk_of : List Sent → Sent → Footing → Desk
desk_of since m i = record { instrument = i.instrument; base = i.base; book = book_since i (since ++ m ∷ []); marked = is_printed i.instrument.id i.jumped (behind i.base since) m }

abbrev desks_of : List Sent → Sent → List Footing → List Desk
desks_of since m footings = map (desk_of since m) footings

desks_stand : (since : List Sent) (m : Sent) (footings : List Footing) → m.end ≡ true → map (seen_since since m) footings ≡ map (desk_standing m.packet) (desks_of since m footings)
desks_stand since m [] is = refl
desks_stand since m (i ∷ footings) is =
    ap (λ (s : Option Seen). s ∷ map (seen_since since m) footings) (seen_end since m i is)
    ∙ ap (λ (l : List (Option Seen)). desk_standing m.packet (desk_of since m i) ∷ l) (desks_stand since m footings is)

shown_here : (packet : ℕ) (ds : List Desk) (n : ℕ) → there (slice_get (map (desk_standing packet) ds) n) ≡ seen_there packet (slice_get ds n)
shown_here packet [] n = refl
shown_here packet (d ∷ ds) zero = refl
shown_here packet (d ∷ ds) (suc n) = shown_here packet ds n

listed_same : (since : List Sent) (m : Sent) (footings : List Footing) → listed_in (desks_of since m footings) ≡ map (λ (i : Footing). i.instrument) footings
listed_same since m [] = refl
listed_same since m (i ∷ footings) = ap (λ (l : List Instrument). i.instrument ∷ l) (listed_same since m footings)

flat_map-same : (f h : Spread → List ℕ) (spreads : List Spread) → ((spread : Spread) → f spread ≡ h spread) → flat_map f spreads ≡ flat_map h spreads
flat_map-same f h [] same = refl
flat_map-same f h (x ∷ spreads) same = ap (λ (l : List ℕ). l ++ flat_map f spreads) (same x) ∙ ap (λ (l : List ℕ). h x ++ l) (flat_map-same f h spreads same)

-- ---- an event end

audits : (since : List Sent) (m : Sent) (footings : List Footing) (listed : List Instrument) (kept : List (Option Best)) → m.end ≡ true → map (λ (i : Footing). i.instrument) footings ≡ listed
    → AllPairs (λ a b. a ≢ b) (ids_of listed) → AllZip Agrees (map (seen_since since m) footings) kept → AllZip IsNamed listed (map (seen_since since m) footings)
    → flat_map (kept_line (end_at m) listed (told_from (end_at m) 0 (map (seen_since since m) footings)) kept) (spreads_from 0 (ids_of listed) listed)
    ≡ flat_map (audit_text (end_at m) (map (seen_since since m) footings)) (map (seen_since since m) footings)
audits since m footings listed kept is are differ agree named =
    let end = end_at m in
    let k : ℕ = m.packet in
    let seen : List (Option Seen) = map (seen_since since m) footings in
    let ds : List Desk = desks_of since m footings in
    let spreads : List Spread = spreads_from 0 (ids_of listed) listed in
    let stand : seen ≡ map (desk_standing k) ds = desks_stand since m footings is in
    let listing : listed_in ds ≡ listed = listed_same since m footings ∙ are in
    let one : (spread : Spread) → kept_line end listed (told_from end 0 seen) kept spread ≡ spread_line end ds spread = λ spread.
    spread_same end listed seen kept spread agree named
    ∙ ap (λ (l : List (Option Seen)). spread_text end (there (slice_get l spread.slot)) (there (slice_get l spread.leg1)) (there (slice_get l spread.leg2))) stand
    ∙ ap (λ (s : Option Seen). spread_text end s (there (slice_get (map (desk_standing k) ds) spread.leg1)) (there (slice_get (map (desk_standing k) ds) spread.leg2))) (shown_here k ds spread.slot)
    ∙ ap (λ (s : Option Seen). spread_text end (seen_there k (slice_get ds spread.slot)) s (there (slice_get (map (desk_standing k) ds) spread.leg2))) (shown_here k ds spread.leg1)
    ∙ ap (λ (s : Option Seen). spread_text end (seen_there k (slice_get ds spread.slot)) (seen_there k (slice_get ds spread.leg1)) s) (shown_here k ds spread.leg2) in
    flat_map-same (kept_line end listed (told_from end 0 seen) kept) (spread_line end ds) spreads one
    ∙ sym (audits_are end ds spreads
    (subst (λ (is : List Instrument). AllPairs (λ a b. a ≢ b) (ids_of is)) (sym listing) differ)
    (ap (λ (is : List Instrument). spreads_from 0 (ids_of is) is) (sym listing)))
    ∙ ap (λ (l : List (Option Seen)). flat_map (audit_text end l) l) (sym stand)

pub end_text : (since : List Sent) (m : Sent) (footings : List Footing) (listed : List Instrument) (kept : List (Option Best)) → m.end ≡ true → map (λ (i : Footing). i.instrument) footings ≡ listed
    → AllPairs (λ a b. a ≢ b) (ids_of listed) → AllZip Agrees (map (seen_since since m) footings) kept → AllZip IsNamed listed (map (seen_since since m) footings)
    → told_text (end_at m) listed (told_from (end_at m) 0 (map (seen_since since m) footings)) kept ≡ lines_as (end_at m) (map (seen_since since m) footings)
unfolding lines_as
end_text since m footings listed kept is are differ agree named =
    let seen : List (Option Seen) = map (seen_since since m) footings in
    ap (λ (l : List ℕ). l ++ flat_map (kept_line (end_at m) listed (told_from (end_at m) 0 seen) kept) (spreads_from 0 (ids_of listed) listed)) (books (end_at m) 0 seen)
    ∙ ap (λ (l : List ℕ). flat_map (text_of (end_at m)) seen ++ l) (audits since m footings listed kept is are differ agree named)

named_case : (since : List Sent) (m : Sent) (i : Footing) (b : Bool) → IsNamed i.instrument (cond b (Some (there_of since m i)) None)
named_case since m i true = refl
named_case since m i false = tt

pub all_named : (since : List Sent) (m : Sent) (footings : List Footing) → AllZip IsNamed (map (λ (i : Footing). i.instrument) footings) (map (seen_since since m) footings)
all_named since m [] = tt
all_named since m (i ∷ footings) = (named_case since m i (m.end && nat_lt i.base m.packet), all_named since m footings)
