-- Reports with more bytes, rows and moments behind.
use Rattle.std.proofs.Common.{◌≡◌, ◌≤◌, ◌+◌, ◌-◌, ℕ, List, [], ◌∷◌, ◌++◌, length, map, take, drop, Option, refl, sym, ap, subst, ◌∙◌, arith}
use Rattle.std.specs.List.{slice_range, AllByRecursion}
use Rattle.std.proofs.lemmas.List.{length-map, length-append, length-drop, map-append, take-map, drop-map, take-append-le, drop-append-le, take_all}
use Rattle.mdp_books.specs.declared.event_end.EventEnd.{EventEnd}
use Rattle.mdp_quotes.specs.declared.best.Best.{Best}
use Rattle.mdp_quotes.specs.declared.top.TopOfBook.{TopOfBook}
use Rattle.mdp_desks.specs.Reports.{Told, Report, of_event_end, of_jump}
use Rattle.mdp_reports.specs.declared.places.ToldAt.{ToldAt}
use Rattle.mdp_reports.specs.declared.places.ReportAt.{ReportAt}
use Rattle.mdp_reports.specs.declared.places.ReportAt.TheVariants.{Event, Jump}
use Rattle.mdp_reports.specs.Flat.{told_of_row, told_of_rows, report_at, reports_in, IsRowIn, ReachesEnd, ArePlaces, AreFlat, place_to, places_to, report_with, reports_with}

-- ---- slices

pub slice_front : {X : Type 0} (xs ys : List X) (from to : ℕ) → from ≤ to → to ≤ length xs → slice_range (xs ++ ys) from to ≡ slice_range xs from to
slice_front xs ys from to order within =
    let long = length-drop from xs in
    ap (take (to - from)) (drop-append-le from xs ys (omega (arith, order, within)))
    ∙ take-append-le (to - from) (drop from xs) ys (omega (arith, order, within, long))

drop_front : {X : Type 0} (xs ys : List X) → drop (length xs) (xs ++ ys) ≡ ys
drop_front [] ys = refl
drop_front (x ∷ xs) ys = drop_front xs ys

pub slice_behind : {X : Type 0} (xs ys : List X) → slice_range (xs ++ ys) (length xs) (length (xs ++ ys)) ≡ ys
slice_behind xs ys =
    let long = length-append xs ys in
    ap (take (length (xs ++ ys) - length xs)) (drop_front xs ys) ∙ take_all (length (xs ++ ys) - length xs) ys (omega (arith, long))

slice_more : {X : Type 0} (xs : List X) (y : X) (from : ℕ) → from ≤ length xs → slice_range (xs ++ y ∷ []) from (length xs + 1) ≡ slice_range xs from (length xs) ++ y ∷ []
slice_more xs y from within =
    let long = length-drop from xs in
    let both = length-append (drop from xs) (y ∷ []) in
    ap (take (length xs + 1 - from)) (drop-append-le from xs (y ∷ []) within)
    ∙ take_all (length xs + 1 - from) (drop from xs ++ y ∷ []) (omega (arith, long, both))
    ∙ ap (λ l. l ++ y ∷ []) (sym (take_all (length xs - from) (drop from xs) (omega (arith, long))))

pub slice-map : {X Y : Type 0} (f : X → Y) (xs : List X) (from to : ℕ) → slice_range (map f xs) from to ≡ map f (slice_range xs from to)
slice-map f xs from to = ap (take (to - from)) (drop-map f from xs) ∙ take-map f (to - from) (drop from xs)

-- ---- more bytes

told_same : (bytes more : List ℕ) (r : ToldAt) → IsRowIn (length bytes) r → told_of_row bytes r ≡ told_of_row (bytes ++ more) r
told_same bytes more r is = ap (λ (l : List ℕ). record { slot = r.slot; lines = l; best = r.best; top = r.top }) (sym (slice_front bytes more r.from r.to is.order is.within))

tolds_same : (bytes more : List ℕ) (rows : List ToldAt) → AllByRecursion (IsRowIn (length bytes)) rows → told_of_rows bytes rows ≡ told_of_rows (bytes ++ more) rows
tolds_same bytes more [] all = refl
tolds_same bytes more (r ∷ rows) all =
    ap (λ (t : Told). t ∷ told_of_rows bytes rows) (told_same bytes more r all.0)
    ∙ ap (λ (l : List Told). told_of_row (bytes ++ more) r ∷ l) (tolds_same bytes more rows all.1)

abbrev pub row_of : ℕ → ℕ → ℕ → Option Best → Option TopOfBook → ToldAt
row_of slot from to best top = record { slot = slot; from = from; to = to; best = best; top = top }

abbrev pub told_with : ℕ → List ℕ → Option Best → Option TopOfBook → Told
told_with slot lines best top = record { slot = slot; lines = lines; best = best; top = top }

tolds_more : (bytes more : List ℕ) (rows : List ToldAt) (slot : ℕ) (best : Option Best) (top : Option TopOfBook) → AllByRecursion (IsRowIn (length bytes)) rows
    → told_of_rows (bytes ++ more) (rows ++ row_of slot (length bytes) (length (bytes ++ more)) best top ∷ []) ≡ told_of_rows bytes rows ++ told_with slot more best top ∷ []
tolds_more bytes more rows slot best top all =
    map-append (told_of_row (bytes ++ more)) rows (row_of slot (length bytes) (length (bytes ++ more)) best top ∷ [])
    ∙ ap (λ (l : List Told). l ++ told_of_row (bytes ++ more) (row_of slot (length bytes) (length (bytes ++ more)) best top) ∷ []) (sym (tolds_same bytes more rows all))
    ∙ ap (λ (l : List ℕ). told_of_rows bytes rows ++ told_with slot l best top ∷ []) (slice_behind bytes more)

-- ---- one row more

told_more : (ts : List Told) (t : Told) (places : List ReportAt) → ArePlaces (length ts) places → reports_with t (map (report_at ts) places) ≡ map (report_at (ts ++ t ∷ [])) (places_to (length ts + 1) places)
told_more ts t [] is = refl
told_more ts t (Event e from to ∷ []) is =
    ap (λ (l : List Told). of_event_end e l ∷ []) (ap (λ (n : ℕ). slice_range ts from n ++ t ∷ []) is.2 ∙ sym (slice_more ts t from (let order = is.0 in let within = is.1 in omega (arith, order, within))))
told_more ts t (Jump old new ∷ []) is = refl
told_more ts t (Event e from to ∷ n ∷ places) is =
    ap (λ (l : List Told). of_event_end e l ∷ reports_with t (map (report_at ts) (n ∷ places))) (sym (slice_front ts (t ∷ []) from to is.0 is.1))
    ∙ ap (λ (l : List Report). of_event_end e (slice_range (ts ++ t ∷ []) from to) ∷ l) (told_more ts t (n ∷ places) is.3)
told_more ts t (Jump old new ∷ n ∷ places) is = ap (λ (l : List Report). of_jump old new ∷ l) (told_more ts t (n ∷ places) is)

reaches : (count to wide_to : ℕ) (n : ReportAt) (places : List ReportAt) → ReachesEnd count to (places_to wide_to (n ∷ places))
reaches count to wide_to n [] = tt
reaches count to wide_to n (m ∷ places) = tt

places_more : (count : ℕ) (places : List ReportAt) → ArePlaces count places → ArePlaces (count + 1) (places_to (count + 1) places)
places_more count [] is = tt
places_more count (Event e from to ∷ []) is = let order = is.0 in let within = is.1 in (omega (arith, order, within), omega arith, refl, tt)
places_more count (Jump old new ∷ []) is = tt
places_more count (Event e from to ∷ n ∷ places) is = let within = is.1 in (is.0, omega (arith, within), reaches (count + 1) to (count + 1) n places, places_more count (n ∷ places) is.3)
places_more count (Jump old new ∷ n ∷ places) is = places_more count (n ∷ places) is

reaches-push : (count to : ℕ) (places : List ReportAt) (m : ReportAt) → ReachesEnd count to (places ++ m ∷ [])
reaches-push count to [] m = tt
reaches-push count to (n ∷ places) m = tt

places-push : (count : ℕ) (places : List ReportAt) (m : ReportAt) → ArePlaces count places → ArePlaces count (m ∷ []) → ArePlaces count (places ++ m ∷ [])
places-push count [] m is last = last
places-push count (Event e from to ∷ places) m is last = (is.0, is.1, reaches-push count to places m, places-push count places m is.3 last)
places-push count (Jump old new ∷ places) m is last = places-push count places m is last

pub places_to-push : (to : ℕ) (places : List ReportAt) (m : ReportAt) → places_to to (places ++ m ∷ []) ≡ places ++ place_to to m ∷ []
places_to-push to [] m = refl
places_to-push to (x ∷ []) m = refl
places_to-push to (x ∷ y ∷ places) m = ap (λ (l : List ReportAt). x ∷ l) (places_to-push to (y ∷ places) m)

pub reports_with-push : (t : Told) (reports : List Report) (r : Report) → reports_with t (reports ++ r ∷ []) ≡ reports ++ report_with t r ∷ []
reports_with-push t [] r = refl
reports_with-push t (x ∷ []) r = refl
reports_with-push t (x ∷ y ∷ reports) r = ap (λ (l : List Report). x ∷ l) (reports_with-push t (y ∷ reports) r)

-- ---- what the calls leave

pub begun_flat : (bytes : List ℕ) (rows : List ToldAt) (places : List ReportAt) (e : EventEnd) (from : ℕ) → from ≡ length rows → AreFlat bytes rows places → AreFlat bytes rows (places ++ Event e from from ∷ [])
begun_flat bytes rows places e from is flat = record { rows_in = flat.rows_in; places_in = places-push (length rows) places (Event e from from) flat.places_in (omega (arith, is), omega (arith, is), is, tt) }

pub jumped_flat : (bytes : List ℕ) (rows : List ToldAt) (places : List ReportAt) (old new : ℕ) → AreFlat bytes rows places → AreFlat bytes rows (places ++ Jump old new ∷ [])
jumped_flat bytes rows places old new flat = record { rows_in = flat.rows_in; places_in = places-push (length rows) places (Jump old new) flat.places_in tt }

rows_wider : (count more : ℕ) (rows : List ToldAt) → count ≤ more → AllByRecursion (IsRowIn count) rows → AllByRecursion (IsRowIn more) rows
rows_wider count more [] less all = tt
rows_wider count more (r ∷ rows) less all = let within = all.0.within in (record { order = all.0.order; within = omega (arith, within, less) }, rows_wider count more rows less all.1)

rows-push : (count : ℕ) (rows : List ToldAt) (r : ToldAt) → AllByRecursion (IsRowIn count) rows → IsRowIn count r → AllByRecursion (IsRowIn count) (rows ++ r ∷ [])
rows-push count [] r all is = (is, tt)
rows-push count (x ∷ rows) r all is = (all.0, rows-push count rows r all.1 is)

-- a row more, where the last event end is places_to to it
pub put_flat : (bytes new_bytes more : List ℕ) (rows new_rows : List ToldAt) (places new_places : List ReportAt) (slot : ℕ) (best : Option Best) (top : Option TopOfBook) → AreFlat bytes rows places
    → new_bytes ≡ bytes ++ more → new_rows ≡ rows ++ row_of slot (length bytes) (length new_bytes) best top ∷ [] → new_places ≡ places_to (length new_rows) places
    → AreFlat new_bytes new_rows new_places × (reports_in new_bytes new_rows new_places ≡ reports_with (told_with slot more best top) (reports_in bytes rows places))
put_flat bytes new_bytes more rows new_rows places new_places slot best top flat bytes_are rows_are marks_are =
    let long : length new_bytes ≡ length bytes + length more = ap length bytes_are ∙ length-append bytes more in
    let many : length new_rows ≡ length rows + 1 = ap length rows_are ∙ length-append rows (row_of slot (length bytes) (length new_bytes) best top ∷ []) in
    let same : new_places ≡ places_to (length rows + 1) places = marks_are ∙ ap (λ (n : ℕ). places_to n places) many in
    let ts = told_of_rows bytes rows in
    let told : told_of_rows new_bytes new_rows ≡ ts ++ told_with slot more best top ∷ [] =
    ap (told_of_rows new_bytes) rows_are ∙ ap (λ (l : List ℕ). told_of_rows l (rows ++ row_of slot (length bytes) (length l) best top ∷ [])) bytes_are ∙ tolds_more bytes more rows slot best top flat.rows_in in
    let count : length ts ≡ length rows = length-map rows (told_of_row bytes) in
    let here : ArePlaces (length ts) places = subst (λ (n : ℕ). ArePlaces n places) (sym count) flat.places_in in (
      record {
        rows_in = subst (λ (l : List ToldAt). AllByRecursion (IsRowIn (length new_bytes)) l) (sym rows_are)
            (rows-push (length new_bytes) rows (row_of slot (length bytes) (length new_bytes) best top) (rows_wider (length bytes) (length new_bytes) rows (omega (arith, long)) flat.rows_in) (record { order = omega (arith, long); within = omega arith }));
        places_in = subst (λ (n : ℕ). ArePlaces n new_places) (sym many) (subst (λ (l : List ReportAt). ArePlaces (length rows + 1) l) (sym same) (places_more (length rows) places flat.places_in));
      },
      ap (λ (l : List Told). map (report_at l) new_places) told
          ∙ ap (map (report_at (ts ++ told_with slot more best top ∷ []))) (same ∙ ap (λ (n : ℕ). places_to (n + 1) places) (sym count))
          ∙ sym (told_more ts (told_with slot more best top) places here),
    )
