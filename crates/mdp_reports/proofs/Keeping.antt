-- The best levels that were kept are those of the books as they are, wherever an event end hears the security.
use Rattle.std.proofs.Common.{◌≡◌, ◌≤◌, ℕ, ◌+◌, Bool, true, false, cond, List, [], ◌∷◌, ◌++◌, length, map, set, Option, Some, None, refl, sym, ap, ◌∙◌, subst, append_assoc, arith}
use Rattle.std.specs.Prelude.{nat_lt, not, ◌&&◌, ◌||◌}
use Rattle.std.specs.List.{AllByRecursion, AllZip}
use Rattle.std.proofs.lemmas.Bool.Decides.{nat_tests}
use Rattle.std.proofs.lemmas.List.Sums.{fold-append}
use Rattle.std.proofs.lemmas.List.{length-append}
use Rattle.mdp_books.specs.Feed.{Sent, place_at, behind, book_from, has_end, is_named_in}
use Rattle.mdp_books.proofs.Feeds.{behind-push, book_from-push, has_end-push, after_entries_from-others}
use Rattle.mdp_quotes.specs.declared.best.Best.{Best}
use Rattle.mdp_quotes.specs.Best.{best_of}
use Rattle.mdp_books.specs.declared.event_end.EventEnd.{EventEnd}
use Rattle.mdp_desks.specs.Lines.{Seen}
use Rattle.mdp_desks.specs.Shown.{Footing, book_since, seen_since}
use Rattle.mdp_desks.specs.Due.{is_due, is_printed}
use Rattle.mdp_desks.proofs.Marks.{is_due-push}
use Rattle.mdp_desks.specs.Reports.{told_of, told_there, told_from}
use Rattle.mdp_reports.specs.Rounds.{kept_with, kept_after}

-- ---- one after another in place, as a pair of lists

abbrev pub kept_one : Option Seen → Option Best → Option Best
kept_one None best = best
kept_one (Some s) best = cond s.printed (best_of s.book) best

abbrev pub kept_zip : List (Option Seen) → List (Option Best) → List (Option Best)
kept_zip [] kept = kept
kept_zip (s ∷ seen) [] = []
kept_zip (s ∷ seen) (b ∷ kept) = kept_one s b ∷ kept_zip seen kept

set_at : (front : List (Option Best)) (b x : Option Best) (kept : List (Option Best)) → set (front ++ b ∷ kept) (length front) x ≡ front ++ x ∷ kept
set_at [] b x kept = refl
set_at (f ∷ front) b x kept = ap (λ (l : List (Option Best)). f ∷ l) (set_at front b x kept)

kept_there : (end : EventEnd) (s : Option Seen) (front : List (Option Best)) (b : Option Best) (kept : List (Option Best))
    → kept_after (told_there end (length front) s) (front ++ b ∷ kept) ≡ front ++ kept_one s b ∷ kept
kept_there end None front b kept = refl
kept_there end (Some s) front b kept = by_printed s.printed
  where
    by_printed : (p : Bool) → kept_after (cond p (told_of end (length front) s ∷ []) []) (front ++ b ∷ kept) ≡ front ++ cond p (best_of s.book) b ∷ kept
    by_printed true = set_at front b (best_of s.book) kept
    by_printed false = refl

kept_from : (end : EventEnd) (seen : List (Option Seen)) (front kept : List (Option Best)) → length seen ≤ length kept
    → kept_after (told_from end (length front) seen) (front ++ kept) ≡ front ++ kept_zip seen kept
kept_from end [] front kept less = refl
kept_from end (s ∷ seen) front [] less = absurd (omega (arith, less))
kept_from end (s ∷ seen) front (b ∷ kept) less =
    let more : List (Option Best) = front ++ kept_one s b ∷ [] in
    let long : length more ≡ length front + 1 = length-append front (kept_one s b ∷ []) in
    fold-append kept_with (front ++ b ∷ kept) (told_there end (length front) s) (told_from end (length front + 1) seen)
    ∙ ap (kept_after (told_from end (length front + 1) seen)) (kept_there end s front b kept ∙ sym (append_assoc front (kept_one s b ∷ []) kept))
    ∙ ap (λ (n : ℕ). kept_after (told_from end n seen) (more ++ kept)) (sym long)
    ∙ kept_from end seen more kept (omega (arith, less))
    ∙ append_assoc front (kept_one s b ∷ []) (kept_zip seen kept)

pub kept_told : (end : EventEnd) (seen : List (Option Seen)) (kept : List (Option Best)) → length seen ≤ length kept → kept_after (told_from end 0 seen) kept ≡ kept_zip seen kept
kept_told end seen kept less = kept_from end seen [] kept less

-- ---- what is kept of a security that heard these messages

pub record KeptHeard (heard : List Sent) (i : Footing) (kept : Option Best) : Type 0 where
  pub waits : i.jumped ≡ true → has_end heard ≡ false → kept ≡ None
  pub stays : is_due i.instrument.id i.jumped heard ≡ false → kept ≡ best_of (book_from i.instrument i.book heard)

abbrev pub KeptShows : List Sent → Footing → Option Best → Type 0
KeptShows since i kept = KeptHeard (behind i.base since) i kept

abbrev pub Rooted : Footing → Type 0
Rooted i = i.jumped ≡ false → i.base ≡ 0

pub heard_more : (base : ℕ) (since : List Sent) (m : Sent) → nat_lt base m.packet ≡ true → behind base (since ++ m ∷ []) ≡ behind base since ++ m ∷ []
heard_more base since m over = behind-push base since m ∙ ap (λ (b : Bool). cond b (behind base since ++ m ∷ []) (behind base since)) over

pub unheard_more : (base : ℕ) (since : List Sent) (m : Sent) → nat_lt base m.packet ≡ false → behind base (since ++ m ∷ []) ≡ behind base since
unheard_more base since m under = behind-push base since m ∙ ap (λ (b : Bool). cond b (behind base since ++ m ∷ []) (behind base since)) under

neither : (a b : Bool) → (a || b) ≡ false → (a ≡ false) × (b ≡ false)
neither true b none = absurd cc
neither false b none = (refl, none)

-- a message that doesn't name the security leaves its book
same_book : (i : Footing) (h : List Sent) (m : Sent) → is_named_in i.instrument.id m ≡ false → book_from i.instrument i.book (h ++ m ∷ []) ≡ book_from i.instrument i.book h
same_book i h m unnamed =
    book_from-push i.instrument i.book h m
    ∙ after_entries_from-others i.instrument (place_at m.packet m.message 1) m.entries (book_from i.instrument i.book h) unnamed

stays_so : (i : Footing) (h : List Sent) (m : Sent) (b : Option Best) → KeptHeard h i b → is_printed i.instrument.id i.jumped h m ≡ false → b ≡ best_of (book_from i.instrument i.book (h ++ m ∷ []))
stays_so i h m b so_far silent =
    let both = neither (is_due i.instrument.id i.jumped h) (is_named_in i.instrument.id m) silent in
    so_far.stays both.0 ∙ ap best_of (sym (same_book i h m both.1))

-- one more that is heard and ends no event
heard_on : (i : Footing) (h : List Sent) (m : Sent) (b : Option Best) → m.end ≡ false → KeptHeard h i b → KeptHeard (h ++ m ∷ []) i b
heard_on i h m b on so_far =
    record {
      waits = λ jumped none. so_far.waits jumped (neither (has_end h) m.end (sym (has_end-push h m) ∙ none)).0;
      stays = λ still.
          let due : (is_due i.instrument.id i.jumped h || is_named_in i.instrument.id m) ≡ false = ap (λ (e : Bool). not e && (is_due i.instrument.id i.jumped h || is_named_in i.instrument.id m)) (sym on) ∙ sym (is_due-push i.instrument.id i.jumped h m) ∙ still in
          stays_so i h m b so_far due;
    }

or-true : (b : Bool) → (b || true) ≡ true
or-true true = refl
or-true false = refl

-- one more that is heard and ends an event
heard_end : (i : Footing) (h : List Sent) (m : Sent) (b new : Option Best) → m.end ≡ true → new ≡ best_of (book_from i.instrument i.book (h ++ m ∷ [])) → KeptHeard (h ++ m ∷ []) i new
heard_end i h m b new is right =
    let ends : has_end (h ++ m ∷ []) ≡ true = has_end-push h m ∙ ap (λ (e : Bool). has_end h || e) is ∙ or-true (has_end h) in
    record { waits = λ jumped none. let apart : true ≡ false = sym ends ∙ none in absurd cc; stays = λ still. right }

abbrev pub there_of : List Sent → Sent → Footing → Seen
there_of since m i = record { instrument = i.instrument; printed = is_printed i.instrument.id i.jumped (behind i.base since) m; book = book_since i (since ++ m ∷ []) }

-- what is kept behind a message
abbrev pub kept_at : List Sent → Sent → Footing → Option Best → Option Best
kept_at since m i b = cond m.end (kept_one (seen_since since m i) b) b

right_there : (since : List Sent) (m : Sent) (i : Footing) (b : Option Best) → nat_lt i.base m.packet ≡ true → KeptShows since i b → kept_one (Some (there_of since m i)) b ≡ best_of (book_since i (since ++ m ∷ []))
right_there since m i b over so_far = by_printed (is_printed i.instrument.id i.jumped (behind i.base since) m) refl
  where
    by_printed : (p : Bool) → is_printed i.instrument.id i.jumped (behind i.base since) m ≡ p → cond p (best_of (book_since i (since ++ m ∷ []))) b ≡ best_of (book_since i (since ++ m ∷ []))
    by_printed true is = refl
    by_printed false is = stays_so i (behind i.base since) m b so_far is ∙ ap (λ (h : List Sent). best_of (book_from i.instrument i.book h)) (sym (heard_more i.base since m over))

keeps_case : (since : List Sent) (m : Sent) (i : Footing) (b : Option Best) (e o : Bool) → m.end ≡ e → nat_lt i.base m.packet ≡ o → KeptShows since i b
    → KeptShows (since ++ m ∷ []) i (cond e (kept_one (cond (e && o) (Some (there_of since m i)) None) b) b)
keeps_case since m i b true true ends over so_far =
    let same = heard_more i.base since m over in
    let right = right_there since m i b over so_far in
    subst (λ (h : List Sent). KeptHeard h i (kept_one (Some (there_of since m i)) b)) (sym same)
    (heard_end i (behind i.base since) m b (kept_one (Some (there_of since m i)) b) ends (right ∙ ap (λ (h : List Sent). best_of (book_from i.instrument i.book h)) same))
keeps_case since m i b true false ends under so_far = subst (λ (h : List Sent). KeptHeard h i b) (sym (unheard_more i.base since m under)) so_far
keeps_case since m i b false true on over so_far = subst (λ (h : List Sent). KeptHeard h i b) (sym (heard_more i.base since m over)) (heard_on i (behind i.base since) m b on so_far)
keeps_case since m i b false false on under so_far = subst (λ (h : List Sent). KeptHeard h i b) (sym (unheard_more i.base since m under)) so_far

pub keeps : (since : List Sent) (m : Sent) (i : Footing) (b : Option Best) → KeptShows since i b → KeptShows (since ++ m ∷ []) i (kept_at since m i b)
keeps since m i b so_far = keeps_case since m i b m.end (nat_lt i.base m.packet) refl refl so_far

-- ---- at an event end

-- what is kept is what the event end shows
abbrev pub Agrees : Option Seen → Option Best → Type 0
Agrees None kept = kept ≡ None
Agrees (Some s) kept = kept ≡ best_of s.book

abbrev pub UpTo : ℕ → List Sent → Type 0
UpTo k ms = AllByRecursion (λ (m : Sent). m.packet ≤ k) ms

unheard_all : (base k : ℕ) (ms : List Sent) → k ≤ base → UpTo k ms → behind base ms ≡ []
unheard_all base k [] less all = refl
unheard_all base k (m ∷ ms) less all =
    let here : m.packet ≤ k = all.0 in
    let under : nat_lt base m.packet ≡ false = grind (arith, nat_tests, here, less) in
    ap (λ (b : Bool). cond b (m ∷ behind base ms) (behind base ms)) under ∙ unheard_all base k ms less all.1

none_kept : (since : List Sent) (m : Sent) (i : Footing) (b : Option Best) (j : Bool) → i.jumped ≡ j → nat_lt i.base m.packet ≡ false → 1 ≤ m.packet → UpTo m.packet since → Rooted i → KeptShows since i b → b ≡ None
none_kept since m i b true is under first late rooted so_far =
    let less : m.packet ≤ i.base = grind (arith, nat_tests, under) in
    so_far.waits is (ap has_end (unheard_all i.base m.packet since less late))
none_kept since m i b false is under first late rooted so_far =
    let zero_base : i.base ≡ 0 = rooted is in
    absurd (grind (arith, nat_tests, under, first, zero_base))

agrees_case : (since : List Sent) (m : Sent) (i : Footing) (b : Option Best) (o : Bool) → nat_lt i.base m.packet ≡ o → 1 ≤ m.packet → UpTo m.packet since → Rooted i → KeptShows since i b
    → Agrees (cond o (Some (there_of since m i)) None) (kept_one (cond o (Some (there_of since m i)) None) b)
agrees_case since m i b true over first late rooted so_far = right_there since m i b over so_far
agrees_case since m i b false under first late rooted so_far = none_kept since m i b i.jumped refl under first late rooted so_far

pub seen_end : (since : List Sent) (m : Sent) (i : Footing) → m.end ≡ true → seen_since since m i ≡ cond (nat_lt i.base m.packet) (Some (there_of since m i)) None
seen_end since m i is = ap (λ (e : Bool). cond (e && nat_lt i.base m.packet) (Some (there_of since m i)) None) is

pub agrees : (since : List Sent) (m : Sent) (i : Footing) (b : Option Best) → m.end ≡ true → 1 ≤ m.packet → UpTo m.packet since → Rooted i → KeptShows since i b → Agrees (seen_since since m i) (kept_one (seen_since since m i) b)
agrees since m i b is first late rooted so_far =
    subst (λ (s : Option Seen). Agrees s (kept_one s b)) (sym (seen_end since m i is)) (agrees_case since m i b (nat_lt i.base m.packet) refl first late rooted so_far)

-- ---- all securities

pub all_agree : (since : List Sent) (m : Sent) (footings : List Footing) (kept : List (Option Best)) → m.end ≡ true → 1 ≤ m.packet → UpTo m.packet since → AllByRecursion Rooted footings → AllZip (KeptShows since) footings kept
    → AllZip Agrees (map (seen_since since m) footings) (kept_zip (map (seen_since since m) footings) kept)
all_agree since m [] [] is first late rooted so_far = tt
all_agree since m [] (b ∷ kept) is first late rooted so_far = elim so_far [ ]
all_agree since m (i ∷ footings) [] is first late rooted so_far = elim so_far [ ]
all_agree since m (i ∷ footings) (b ∷ kept) is first late rooted so_far = (agrees since m i b is first late rooted.0 so_far.0, all_agree since m footings kept is first late rooted.1 so_far.1)

-- what is kept behind a message
abbrev pub kept_behind : List Sent → Sent → List Footing → List (Option Best) → List (Option Best)
kept_behind since m footings kept = cond m.end (kept_zip (map (seen_since since m) footings) kept) kept

pub all_keep : (since : List Sent) (m : Sent) (footings : List Footing) (kept : List (Option Best)) → AllZip (KeptShows since) footings kept → AllZip (KeptShows (since ++ m ∷ [])) footings (kept_behind since m footings kept)
all_keep since m footings kept so_far = by_end m.end refl (each footings kept so_far)
  where
    zipped : Bool → List Footing → List (Option Best) → List (Option Best)
    zipped e footings kept = cond e (kept_zip (map (seen_since since m) footings) kept) kept

    each : (footings : List Footing) (kept : List (Option Best)) → AllZip (KeptShows since) footings kept → AllZip (λ i b. KeptShows (since ++ m ∷ []) i (kept_at since m i b)) footings kept
    each [] [] so_far = tt
    each [] (b ∷ kept) so_far = elim so_far [ ]
    each (i ∷ footings) [] so_far = elim so_far [ ]
    each (i ∷ footings) (b ∷ kept) so_far = (keeps since m i b so_far.0, each footings kept so_far.1)

    all_end : (footings : List Footing) (kept : List (Option Best)) → m.end ≡ true → AllZip (λ i b. KeptShows (since ++ m ∷ []) i (kept_at since m i b)) footings kept → AllZip (KeptShows (since ++ m ∷ [])) footings (kept_zip (map (seen_since since m) footings) kept)
    all_end [] [] is all = tt
    all_end [] (b ∷ kept) is all = elim all [ ]
    all_end (i ∷ footings) [] is all = elim all [ ]
    all_end (i ∷ footings) (b ∷ kept) is all =
        (subst (λ (e : Bool). KeptShows (since ++ m ∷ []) i (cond e (kept_one (seen_since since m i) b) b)) is all.0, all_end footings kept is all.1)

    all_on : (footings : List Footing) (kept : List (Option Best)) → m.end ≡ false → AllZip (λ i b. KeptShows (since ++ m ∷ []) i (kept_at since m i b)) footings kept → AllZip (KeptShows (since ++ m ∷ [])) footings kept
    all_on [] [] is all = tt
    all_on [] (b ∷ kept) is all = elim all [ ]
    all_on (i ∷ footings) [] is all = elim all [ ]
    all_on (i ∷ footings) (b ∷ kept) is all = (subst (λ (e : Bool). KeptShows (since ++ m ∷ []) i (cond e (kept_one (seen_since since m i) b) b)) is all.0, all_on footings kept is all.1)

    by_end : (e : Bool) → m.end ≡ e → AllZip (λ i b. KeptShows (since ++ m ∷ []) i (kept_at since m i b)) footings kept → AllZip (KeptShows (since ++ m ∷ [])) footings (cond e (kept_zip (map (seen_since since m) footings) kept) kept)
    by_end true is all = all_end footings kept is all
    by_end false is all = all_on footings kept is all
