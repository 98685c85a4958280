-- What desks tell at an event end: those that are due alone.
use Rattle.std.proofs.Common.{◌≡◌, ℕ, zero, suc, ◌+◌, ◌<◌, ◌≤◌, append-nil, append_assoc, Bool, true, false, List, [], ◌∷◌, ◌++◌, length, drop, map, get_or, refl, sym, ap, ◌∙◌, arith}
use Rattle.std.specs.Prelude.{nat_lt}
use Rattle.std.proofs.lemmas.List.{length-map, drop_all}
use Rattle.mdp_templates.specs.declared.entry.Entry.{Entry}
use Rattle.mdp_books.specs.declared.event_end.EventEnd.{EventEnd}
use Rattle.mdp_desks.specs.declared.desk.Desk.{Desk}
use Rattle.mdp_desks.specs.Beside.{AreClear, all_due_at, is_due_at}
use Rattle.mdp_desks.specs.Desks.{desks_through, desk_standing}
use Rattle.mdp_desks.specs.Reports.{Told, Report, of_event_end, told_there, told_by}
use Rattle.mdp_desks.proofs.Waiting.{unmarked}
use Rattle.mdp_desks.proofs.Hearing.{through, all_through}
use Rattle.mdp_reports.specs.Flat.{reports_with}
use Rattle.mdp_reports.specs.Reporting.{reports_with_all}
use Rattle.mdp_reports.proofs.Flatting.{reports_with-push}

pub through_long : (packet message : ℕ) (entries : List Entry) (ds : List Desk) → length (desks_through packet message 1 entries ds) ≡ length ds
through_long packet message entries ds = ap length (all_through packet message 1 entries ds) ∙ length-map ds (through packet message 1 entries)

-- ---- those that are due alone

none_there : (end : EventEnd) (slot : ℕ) (d : Desk) → is_due_at end.packet d ≡ false → told_there end slot (desk_standing end.packet d) ≡ []
none_there end slot d is = by_base (nat_lt d.base end.packet) refl
  where
    by_base : (b : Bool) → nat_lt d.base end.packet ≡ b → told_there end slot (desk_standing end.packet d) ≡ []
    by_base true over = let off = unmarked d.marked (nat_lt d.base end.packet) is over in rw (over, off) refl
    by_base false under = rw under refl

abbrev pub told_of : EventEnd → List ℕ → List Desk → List Told
told_of end slots ds = told_by end slots (map (desk_standing end.packet) ds)

told_below : (end : EventEnd) (slots : List ℕ) (ds : List Desk) (n : ℕ) → length slots ≡ length ds → ((i : ℕ) → i < n → get_or (all_due_at end.packet ds) i false ≡ false) → told_of end (drop n slots) (drop n ds) ≡ told_of end slots ds
told_below end slots ds zero many none = refl
told_below end [] [] (suc n) many none = refl
told_below end [] (d ∷ ds) (suc n) many none = absurd (omega (arith, many))
told_below end (slot ∷ slots) [] (suc n) many none = absurd (omega (arith, many))
told_below end (slot ∷ slots) (d ∷ ds) (suc n) many none =
    told_below end slots ds n (omega (arith, many)) (λ i less. none (suc i) (omega (arith, less)))
    ∙ ap (λ (t : List Told). t ++ told_of end slots ds) (sym (none_there end slot d (none 0 (omega arith))))

pub told_between : (end : EventEnd) (slots : List ℕ) (ds : List Desk) (a b : ℕ) → length slots ≡ length ds → a ≤ b → AreClear a b (all_due_at end.packet ds) → told_of end (drop b slots) (drop b ds) ≡ told_of end (drop a slots) (drop a ds)
told_between end slots ds zero b many up clear = told_below end slots ds b many (λ i less. clear i (omega arith) less)
told_between end slots ds (suc a) zero many up clear = absurd (omega (arith, up))
told_between end [] [] (suc a) (suc b) many up clear = refl
told_between end [] (d ∷ ds) (suc a) (suc b) many up clear = absurd (omega (arith, many))
told_between end (slot ∷ slots) [] (suc a) (suc b) many up clear = absurd (omega (arith, many))
told_between end (slot ∷ slots) (d ∷ ds) (suc a) (suc b) many up clear =
    told_between end slots ds a b (omega (arith, many)) (omega (arith, up)) (λ i from less. clear (suc i) (omega (arith, from)) (omega (arith, less)))

-- none is left to tell of
pub told_end : (end : EventEnd) (slots : List ℕ) (ds : List Desk) (from : ℕ) → length slots ≡ length ds → from ≤ length ds → AreClear from (length ds) (all_due_at end.packet ds) → told_of end (drop from slots) (drop from ds) ≡ []
told_end end slots ds from many up clear =
    sym (told_between end slots ds from (length ds) many up clear)
    ∙ ap (λ (l : List ℕ). told_of end l (drop (length ds) ds)) (drop_all (length ds) slots (omega (arith, many)))
    ∙ ap (told_of end []) (drop_all (length ds) ds (omega arith))

next_there : (end : EventEnd) (slots : List ℕ) (ds : List Desk) (n x slot : ℕ) (d e : Desk) → n < length slots → n < length ds → slot ≡ get_or slots n x → d ≡ get_or ds n e
    → told_of end (drop n slots) (drop n ds) ≡ told_there end slot (desk_standing end.packet d) ++ told_of end (drop (suc n) slots) (drop (suc n) ds)
next_there end [] ds n x slot d e less under is are = absurd (omega (arith, less))
next_there end (s ∷ slots) [] n x slot d e less under is are = absurd (omega (arith, under))
next_there end (s ∷ slots) (y ∷ ds) zero x slot d e less under is are =
    ap (λ (l : ℕ). told_there end l (desk_standing end.packet y) ++ told_of end slots ds) (sym is) ∙ ap (λ (z : Desk). told_there end slot (desk_standing end.packet z) ++ told_of end slots ds) (sym are)
next_there end (s ∷ slots) (y ∷ ds) (suc n) x slot d e less under is are = next_there end slots ds n x slot d e (omega (arith, less)) (omega (arith, under)) is are

both_behind : (xs ys : List Told) (rs : List Report) → reports_with_all (xs ++ ys) rs ≡ reports_with_all ys (reports_with_all xs rs)
both_behind [] ys rs = refl
both_behind (x ∷ xs) ys rs = both_behind xs ys (reports_with x rs)

pub tell_more : (end : EventEnd) (slots : List ℕ) (ds : List Desk) (n x slot : ℕ) (d e : Desk) (old new : List Report) → n < length slots → n < length ds → slot ≡ get_or slots n x → d ≡ get_or ds n e
    → new ≡ reports_with_all (told_there end slot (desk_standing end.packet d)) old
    → reports_with_all (told_of end (drop (n + 1) slots) (drop (n + 1) ds)) new ≡ reports_with_all (told_of end (drop n slots) (drop n ds)) old
tell_more end slots ds n x slot d e old new less under is are told =
    let one : suc n ≡ n + 1 = omega arith in
    ap (reports_with_all (told_of end (drop (n + 1) slots) (drop (n + 1) ds))) told
    ∙ sym (both_behind (told_there end slot (desk_standing end.packet d)) (told_of end (drop (n + 1) slots) (drop (n + 1) ds)) old)
    ∙ ap (λ (m : ℕ). reports_with_all (told_there end slot (desk_standing end.packet d) ++ told_of end (drop m slots) (drop m ds)) old) (sym one)
    ∙ ap (λ (l : List Told). reports_with_all l old) (sym (next_there end slots ds n x slot d e less under is are))

pub all_behind : (end : EventEnd) (ts us : List Told) (old : List Report) → reports_with_all ts (old ++ of_event_end end us ∷ []) ≡ old ++ of_event_end end (us ++ ts) ∷ []
all_behind end [] us old = ap (λ (l : List Told). old ++ of_event_end end l ∷ []) (sym (append-nil us))
all_behind end (t ∷ ts) us old =
    ap (reports_with_all ts) (reports_with-push t old (of_event_end end us))
    ∙ all_behind end ts (us ++ t ∷ []) old
    ∙ ap (λ (l : List Told). old ++ of_event_end end l ∷ []) (append_assoc us (t ∷ []) ts)
