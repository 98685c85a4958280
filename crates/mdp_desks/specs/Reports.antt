-- What a worker reports of a moment: each of its securities that is printed there, with its lines, its best levels and
-- the top of its consolidated book.
use Rattle.std.specs.Prelude.{Option, Some, None, ℕ, ◌+◌, Bool, List, [], ◌∷◌, ◌++◌, if◌then◌else◌}
use Rattle.std.specs.List.{filter}
use Rattle.mdp_books.specs.declared.event_end.EventEnd.{EventEnd}
use Rattle.mdp_quotes.specs.declared.best.Best.{Best}
use Rattle.mdp_quotes.specs.declared.top.TopOfBook.{TopOfBook}
use Rattle.mdp_quotes.specs.Best.{best_of}
use Rattle.mdp_quotes.specs.Top.{top_of_book}
use Rattle.mdp_desks.specs.Lines.{Seen, book_lines}
use Rattle.mdp_desks.specs.Moments.{Moment, at_event_end, at_jump}

pub record Told : Type 0 where
  pub slot : ℕ
  pub lines : List ℕ
  pub best : Option Best
  pub top : Option TopOfBook

abbrev pub told_of : EventEnd → ℕ → Seen → Told
told_of end slot s =
    record {
      slot = slot;
      lines = book_lines end s.instrument.name s.book;
      best = best_of s.book;
      top = top_of_book s.book;
    }

abbrev pub told_there : EventEnd → ℕ → Option Seen → List Told
told_there end slot None = []
told_there end slot (Some s) = if s.printed then told_of end slot s ∷ [] else []

-- of the securities at these slots
abbrev pub told_by : EventEnd → List ℕ → List (Option Seen) → List Told
told_by end [] seen = []
told_by end (slot ∷ slots) [] = []
told_by end (slot ∷ slots) (s ∷ seen) = told_there end slot s ++ told_by end slots seen

-- of all securities, the first of which stands at this slot
abbrev pub told_from : EventEnd → ℕ → List (Option Seen) → List Told
told_from end slot [] = []
told_from end slot (s ∷ seen) = told_there end slot s ++ told_from end (slot + 1) seen

pub data Report : Type 0 where
  of_event_end : EventEnd → List Told → Report
  of_jump : ℕ → ℕ → Report

-- what the worker of these slots reports of a moment of its own securities
abbrev pub report_by : List ℕ → Moment → Report
report_by slots (at_event_end end seen) = of_event_end end (told_by end slots seen)
report_by slots (at_jump old new) = of_jump old new

-- what a worker reports of a moment of all securities
abbrev pub report_of : (ℕ → Bool) → Moment → Report
report_of mine (at_event_end end seen) =
    of_event_end end (filter (λ (t : Told). mine t.slot) (told_from end 0 seen))
report_of mine (at_jump old new) = of_jump old new
