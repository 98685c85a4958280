-- What is read of reports.
use Rattle.std.proofs.Common.{◌≡◌, ◌≤◌, ℕ, zero, suc, List, [], ◌∷◌, map, take, drop, refl, sym, ap, ◌∙◌, arith}
use Rattle.std.specs.Prelude.{Option, Some, None}
use Rattle.std.specs.List.{slice_range, AllByRecursion}
use Rattle.mdp_desks.specs.Reports.{Told}
use Rattle.mdp_reports.specs.declared.places.ToldAt.{ToldAt}
use Rattle.mdp_reports.specs.declared.places.ReportAt.{ReportAt}
use Rattle.mdp_reports.specs.declared.places.ReportAt.TheVariants.{Event, Jump}
use Rattle.mdp_reports.specs.Flat.{told_of_row, told_of_rows, report_at, reports_in, ArePlaces}
use Rattle.mdp_reports.specs.Contents.{told_at, place_at}
use Rattle.mdp_reports.proofs.Flatting.{slice-map}

all_take : {X : Type 0} (P : X → Type 0) (n : ℕ) (xs : List X) → AllByRecursion P xs → AllByRecursion P (take n xs)
all_take P zero xs all = tt
all_take P (suc n) [] all = tt
all_take P (suc n) (x ∷ xs) all = (all.0, all_take P n xs all.1)

all_drop : {X : Type 0} (P : X → Type 0) (n : ℕ) (xs : List X) → AllByRecursion P xs → AllByRecursion P (drop n xs)
all_drop P zero xs all = all
all_drop P (suc n) [] all = tt
all_drop P (suc n) (x ∷ xs) all = all_drop P n xs all.1

abbrev start_or : Option (ℕ × ℕ) → ℕ
start_or None = 0
start_or (Some place) = place.0

abbrev end_or : Option (ℕ × ℕ) → ℕ
end_or None = 0
end_or (Some place) = place.1

pub within : (count n : ℕ) (places : List ReportAt) (from to : ℕ) → ArePlaces count places → place_at n places ≡ Some (from, to) → (from ≤ to) × (to ≤ count)
within count n [] from to are is = absurd cc
within count zero (Event e f t ∷ places) from to are is =
    let start : f ≡ from = ap start_or is in
    let end : t ≡ to = ap end_or is in
    let order = are.0 in
    let under = are.1 in
    (omega (arith, start, end, order), omega (arith, end, under))
within count zero (Jump old new ∷ places) from to are is = absurd cc
within count (suc n) (Event e f t ∷ places) from to are is = within count n places from to are.3 is
within count (suc n) (Jump old new ∷ places) from to are is = within count n places from to are is

there : (ts : List Told) (n : ℕ) (places : List ReportAt) (from to : ℕ) → place_at n places ≡ Some (from, to) → slice_range ts from to ≡ told_at n (map (report_at ts) places)
there ts n [] from to is = absurd cc
there ts zero (Event e f t ∷ places) from to is =
    let start : f ≡ from = ap start_or is in
    let end : t ≡ to = ap end_or is in
    ap (λ (a : ℕ). slice_range ts a to) (sym start) ∙ ap (slice_range ts f) (sym end)
there ts zero (Jump old new ∷ places) from to is = absurd cc
there ts (suc n) (m ∷ places) from to is = there ts n places from to is

pub rest_there : (bytes : List ℕ) (rows : List ToldAt) (n : ℕ) (places : List ReportAt) (from to : ℕ) → place_at n places ≡ Some (from, to) → told_of_rows bytes (slice_range rows from to) ≡ told_at n (reports_in bytes rows places)
rest_there bytes rows n places from to is = sym (slice-map (told_of_row bytes) rows from to) ∙ there (told_of_rows bytes rows) n places from to is

pub rest_none : (ts : List Told) (n : ℕ) (places : List ReportAt) → place_at n places ≡ None → [] ≡ told_at n (map (report_at ts) places)
rest_none ts n [] is = refl
rest_none ts zero (Event e f t ∷ places) is = absurd cc
rest_none ts zero (Jump old new ∷ places) is = refl
rest_none ts (suc n) (m ∷ places) is = rest_none ts n places is
