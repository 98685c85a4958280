-- What stands at a place of a list of reports, and what goes first of what a report tells.
use Rattle.std.specs.Prelude.{ℕ, zero, suc, List, [], ◌∷◌, slice_get, Option, Some, None}
use Rattle.std.specs.Option.{option_map}
use Rattle.mdp_desks.specs.Reports.{Told, Report, of_event_end, of_jump}
use Rattle.mdp_reports.specs.Rounds.{told_in}
use Rattle.mdp_reports.specs.declared.places.ReportAt.{ReportAt}
use Rattle.mdp_reports.specs.declared.places.ReportAt.TheVariants.{Event, Jump}
use Rattle.mdp_reports.specs.declared.places.Line.{Line}
use Rattle.mdp_reports.specs.declared.places.Heading.{Heading}
use Rattle.mdp_reports.specs.declared.places.Heading.TheVariants.{Event as AtEnd, Jump as AtJump}

-- the moment that a report is of
abbrev pub heading_of : Report → Heading
heading_of (of_event_end end ts) = AtEnd end
heading_of (of_jump old new) = AtJump old new

-- of the report at a place, from 0
abbrev pub heading_at : ℕ → List Report → Option Heading
heading_at n reports = option_map heading_of (slice_get reports n)

-- what the report at a place tells; nothing where there is none
abbrev pub told_at : ℕ → List Report → List Told
told_at n [] = []
told_at zero (r ∷ reports) = told_in r
told_at (suc n) (r ∷ reports) = told_at n reports

abbrev pub told_line : Line → Told
told_line l = record { slot = l.slot; lines = l.lines.now; best = l.best; top = l.top }

abbrev pub slot_first : List Told → Option ℕ
slot_first [] = None
slot_first (t ∷ ts) = Some t.slot

-- where the rows of a moment stand that is an event end
abbrev pub place_in : Option ReportAt → Option (ℕ × ℕ)
place_in None = None
place_in (Some (Event end from to)) = Some (from, to)
place_in (Some (Jump old new)) = None

abbrev pub place_at : ℕ → List ReportAt → Option (ℕ × ℕ)
place_at n places = place_in (slice_get places n)
