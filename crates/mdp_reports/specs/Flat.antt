-- Reports whose bytes, rows and moments stand in three lists: a row bears places among the bytes, a moment places among
-- the rows.
use Rattle.std.specs.Prelude.{◌≡◌, ◌≤◌, ℕ, List, [], ◌∷◌, ◌++◌, length, map, ⊤}
use Rattle.std.specs.List.{slice_range, AllByRecursion}
use Rattle.mdp_books.specs.declared.book.Book.{Book}
use Rattle.mdp_books.specs.declared.event_end.EventEnd.{EventEnd}
use Rattle.mdp_quotes.specs.Best.{best_of}
use Rattle.mdp_quotes.specs.Top.{top_of_book}
use Rattle.mdp_desks.specs.Lines.{book_lines}
use Rattle.mdp_desks.specs.Reports.{Told, Report, of_event_end, of_jump}
use Rattle.mdp_reports.specs.declared.places.ToldAt.{ToldAt}
use Rattle.mdp_reports.specs.declared.places.ReportAt.{ReportAt}
use Rattle.mdp_reports.specs.declared.places.ReportAt.TheVariants.{Event, Jump}

-- a row with its lines
abbrev pub told_of_row : List ℕ → ToldAt → Told
told_of_row bytes r = record { slot = r.slot; lines = slice_range bytes r.from r.to; best = r.best; top = r.top }

abbrev pub told_of_rows : List ℕ → List ToldAt → List Told
told_of_rows bytes rows = map (told_of_row bytes) rows

-- a moment with its rows
abbrev pub report_at : List Told → ReportAt → Report
report_at ts (Event end from to) = of_event_end end (slice_range ts from to)
report_at ts (Jump old new) = of_jump old new

abbrev pub reports_in : List ℕ → List ToldAt → List ReportAt → List Report
reports_in bytes rows places = map (report_at (told_of_rows bytes rows)) places

-- ---- the places are among what is there, and the last moment, where it is an event end, goes on to the last row

pub record IsRowIn (count : ℕ) (r : ToldAt) : Type 0 where
  pub order : r.from ≤ r.to
  pub within : r.to ≤ count

abbrev pub ReachesEnd : ℕ → ℕ → List ReportAt → Type 0
ReachesEnd count to [] = to ≡ count
ReachesEnd count to (m ∷ places) = ⊤

abbrev pub ArePlaces : ℕ → List ReportAt → Type 0
ArePlaces count [] = ⊤
ArePlaces count (Event end from to ∷ places) =
    (from ≤ to) × (to ≤ count) × ReachesEnd count to places × ArePlaces count places
ArePlaces count (Jump old new ∷ places) = ArePlaces count places

pub record AreFlat (bytes : List ℕ) (rows : List ToldAt) (places : List ReportAt) : Type 0 where
  pub rows_in : AllByRecursion (IsRowIn (length bytes)) rows
  pub places_in : ArePlaces (length rows) places

-- ---- one row more in the last moment, where it is an event end

abbrev pub place_to : ℕ → ReportAt → ReportAt
place_to to (Event end from before) = Event end from to
place_to to (Jump old new) = Jump old new

abbrev pub places_to : ℕ → List ReportAt → List ReportAt
places_to to [] = []
places_to to (m ∷ []) = place_to to m ∷ []
places_to to (m ∷ n ∷ places) = m ∷ places_to to (n ∷ places)

abbrev pub report_with : Told → Report → Report
report_with t (of_event_end end ts) = of_event_end end (ts ++ t ∷ [])
report_with t (of_jump old new) = of_jump old new

-- the last report tells of one more security, where it is of an event end
abbrev pub reports_with : Told → List Report → List Report
reports_with t [] = []
reports_with t (r ∷ []) = report_with t r ∷ []
reports_with t (r ∷ s ∷ reports) = r ∷ reports_with t (s ∷ reports)

-- what is told of a security with this book, where an event ends
abbrev pub told_of_book : EventEnd → ℕ → List ℕ → Book → Told
told_of_book end slot name book =
    record {
      slot = slot;
      lines = book_lines end name book;
      best = best_of book;
      top = top_of_book book;
    }
