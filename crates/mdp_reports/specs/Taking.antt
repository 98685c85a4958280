-- What the collector makes of a moment, step by step, and of all moments of a batch.
use Rattle.std.specs.Prelude.{◌||◌, get_or, slice_get, if◌then◌else◌, ◌≡◌, ℕ, Bool, true, false, List, [], ◌∷◌, fold, set, map, drop, length, Option, None, refl}
use Rattle.std.specs.List.{flat_map}
use Rattle.std.specs.Coded.{Coded, code_by, coded×, coded_list, coded_option}
use Rattle.mdp_templates.specs.declared.instrument.Instrument.{Instrument}
use Rattle.mdp_templates.specs.contracts.instrument.Instrument as instrument
use Rattle.mdp_books.specs.declared.event_end.EventEnd.{EventEnd}
use Rattle.mdp_quotes.specs.declared.best.Best.{Best}
use Rattle.mdp_quotes.specs.contracts.best.Best as best
use Rattle.mdp_print.specs.Texts.{jump_line}
use Rattle.mdp_desks.specs.Lines.{verdicts_text}
use Rattle.mdp_desks.specs.Reports.{Told, Report}
use Rattle.mdp_engine.specs.declared.spreads.Spread.{Spread}
use Rattle.mdp_reports.specs.Rounds.{kept_after, told_text, kept_after_round, name_of, best_kept, rounds_behind}
use Rattle.mdp_reports.specs.declared.places.Heading.{Heading}
use Rattle.mdp_reports.specs.declared.places.Heading.TheVariants.{Event, Jump}

-- ---- a collector as contracts see it: the listed securities, and the best levels of each where it was last printed

pub record View : Type 0 where
  pub listed : List Instrument
  pub kept : List (Option Best)

abbrev pub view_code : Coded View
view_code =
    code_by (List Instrument × List (Option Best))
    (coded× (coded_list instrument.the_row.coded) (coded_list (coded_option best.the_row.coded)))
    (λ v. (v.listed, v.kept)) (λ t. record { listed = t.0; kept = t.1 }) (λ _. refl)

-- a kept value and a mark for each security
pub record AreKept (listed : List Instrument) (kept : List (Option Best)) (marks : List Bool)
    : Type 0 where
  pub kept_long : length kept ≡ length listed
  pub long : length marks ≡ length listed

-- ---- an event end

abbrev pub lines_told : List Told → List ℕ
lines_told ts = flat_map (λ (t : Told). t.lines) ts

-- the marks with those of what is told
abbrev pub marks_with : List Bool → Told → List Bool
marks_with marks t = set marks t.slot true

abbrev pub marks_after : List Told → List Bool → List Bool
marks_after ts marks = fold marks_with marks ts

-- the line of a spread where it or a leg is marked
abbrev pub marked_line : EventEnd → List Instrument → List Bool → List (Option Best) → Spread
    → List ℕ
marked_line end listed marks kept s =
    if get_or marks s.slot false || get_or marks s.leg1 false || get_or marks s.leg2 false then
    verdicts_text end (name_of (slice_get listed s.slot)) (best_kept (slice_get kept s.slot))
    (best_kept (slice_get kept s.leg1)) (best_kept (slice_get kept s.leg2))
    else []

-- ---- a moment by its heading and all that is told at it

abbrev pub text_under : Heading → List Instrument → List (Option Best) → List Told → List ℕ
text_under (Event end) listed kept ts = told_text end listed ts (kept_after ts kept)
text_under (Jump old new) listed kept ts = jump_line old new

abbrev pub kept_under : Heading → List (Option Best) → List Told → List (Option Best)
kept_under (Event end) kept ts = kept_after ts kept
kept_under (Jump old new) kept ts = map (λ _. None) kept

-- ---- batches

-- the rounds that are left behind so many
abbrev pub rounds_left : ℕ → List (List Report) → List (List Report)
rounds_left n [] = []
rounds_left n (first ∷ others) = rounds_behind (drop n first) (map (drop n) others)

-- the values of the last audits behind these rounds
abbrev pub kept_after_rounds : List (Option Best) → List (List Report) → List (Option Best)
kept_after_rounds kept [] = kept
kept_after_rounds kept (round ∷ rounds) = kept_after_rounds (kept_after_round kept round) rounds

abbrev pub first_list : List (List Report) → List Report
first_list [] = []
first_list (first ∷ others) = first
