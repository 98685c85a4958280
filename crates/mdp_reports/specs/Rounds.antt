-- What the collector makes of the reports of all workers: a round is one report of each, and rounds come in batches.
use Rattle.std.specs.Prelude.{Option, Some, None, ℕ, ◌+◌, ◌==◌, ◌||◌, zero, suc, nat_le, Bool, List, [], ◌∷◌, ◌++◌, if◌then◌else◌, map, fold, set, slice_get}
use Rattle.std.specs.List.{flat_map, list_any}
use Rattle.mdp_templates.specs.declared.instrument.Instrument.{Instrument}
use Rattle.mdp_quotes.specs.declared.best.Best.{Best}
use Rattle.mdp_templates.specs.Entry.{direct_depth}
use Rattle.mdp_books.specs.declared.event_end.EventEnd.{EventEnd}
use Rattle.mdp_books.specs.Book.{empty_book}
use Rattle.mdp_quotes.specs.Best.{best_of}
use Rattle.mdp_print.specs.Texts.{jump_line}
use Rattle.mdp_templates.specs.Instrument.{ids_of}
use Rattle.mdp_engine.specs.declared.spreads.Spread.{Spread}
use Rattle.mdp_engine.specs.Spreads.{spreads_from}
use Rattle.mdp_desks.specs.Lines.{verdicts_text}
use Rattle.mdp_desks.specs.Moments.{Moment}
use Rattle.mdp_desks.specs.Shares.{is_kept_by}
use Rattle.mdp_desks.specs.Reports.{Told, Report, of_event_end, of_jump, report_of}

-- ---- in slot order

-- of two lists that go by slot the one that does too
abbrev pub by_slot : List Told → List Told → List Told
by_slot [] ys = ys
by_slot (x ∷ xs) [] = x ∷ xs
by_slot (x ∷ xs) (y ∷ ys) = if nat_le x.slot y.slot then x ∷ by_slot xs (y ∷ ys) else y ∷ by_slot (x ∷ xs) ys

abbrev pub all_by_slot : List (List Told) → List Told
all_by_slot [] = []
all_by_slot (ts ∷ rest) = by_slot ts (all_by_slot rest)

abbrev pub told_in : Report → List Told
told_in (of_event_end end ts) = ts
told_in (of_jump old new) = []

-- ---- the values of the last audit, by slot: the best levels of the security where it was last printed; none of a
-- fault, and none from a jump on until it is printed

abbrev pub kept_with : List (Option Best) → Told → List (Option Best)
kept_with kept t = set kept t.slot t.best

abbrev pub kept_after : List Told → List (Option Best) → List (Option Best)
kept_after ts kept = fold kept_with kept ts

abbrev pub kept_at_start : List Instrument → List (Option Best)
kept_at_start listed = map (λ _. best_of (empty_book direct_depth)) listed

abbrev pub best_kept : Option (Option Best) → Option Best
best_kept None = None
best_kept (Some best) = best

abbrev pub is_told : List Told → ℕ → Bool
is_told ts slot = list_any (λ (t : Told). t.slot == slot) ts

abbrev pub name_of : Option Instrument → List ℕ
name_of None = []
name_of (Some i) = i.name

-- the line of a spread where it or a leg is printed
abbrev pub kept_line : EventEnd → List Instrument → List Told → List (Option Best) → Spread → List ℕ
kept_line end listed ts kept spread =
    if is_told ts spread.slot || is_told ts spread.leg1 || is_told ts spread.leg2 then
    verdicts_text end (name_of (slice_get listed spread.slot))
    (best_kept (slice_get kept spread.slot)) (best_kept (slice_get kept spread.leg1))
    (best_kept (slice_get kept spread.leg2))
    else []

abbrev pub told_text : EventEnd → List Instrument → List Told → List (Option Best) → List ℕ
told_text end listed ts kept =
    flat_map (λ (t : Told). t.lines) ts ++ flat_map (kept_line end listed ts kept)
    (spreads_from 0 (ids_of listed) listed)

-- ---- a round: one report of each worker

abbrev pub round_text : List Instrument → List (Option Best) → List Report → List ℕ
round_text listed kept [] = []
round_text listed kept (of_event_end end ts ∷ rest) =
    told_text end listed (all_by_slot (ts ∷ map told_in rest))
    (kept_after (all_by_slot (ts ∷ map told_in rest)) kept)
round_text listed kept (of_jump old new ∷ rest) = jump_line old new

abbrev pub kept_after_round : List (Option Best) → List Report → List (Option Best)
kept_after_round kept [] = kept
kept_after_round kept (of_event_end end ts ∷ rest) = kept_after (all_by_slot (ts ∷ map told_in rest)) kept
kept_after_round kept (of_jump old new ∷ rest) = map (λ _. None) kept

abbrev pub text_from : List Instrument → List (Option Best) → List (List Report) → List ℕ
text_from listed kept [] = []
text_from listed kept (round ∷ rounds) =
    round_text listed kept round ++ text_from listed (kept_after_round kept round) rounds

abbrev pub collected_text : List Instrument → List (List Report) → List ℕ
collected_text listed rounds = text_from listed (kept_at_start listed) rounds

-- ---- the rounds of n workers

-- so many numbers from this one on
abbrev pub numbers_from : ℕ → ℕ → List ℕ
numbers_from first zero = []
numbers_from first (suc count) = first ∷ numbers_from (first + 1) count

abbrev pub round_of : ℕ → Moment → List Report
round_of n moment = map (λ w. report_of (is_kept_by n w) moment) (numbers_from 0 n)

-- ---- batches: each worker hands over the reports of several moments at once

-- the first of each list that has one
abbrev pub heads : List (List Report) → List Report
heads [] = []
heads ([] ∷ rest) = heads rest
heads ((r ∷ rs) ∷ rest) = r ∷ heads rest

abbrev pub tail : List Report → List Report
tail [] = []
tail (r ∷ rs) = rs

-- round by round, as long as the first worker has one more
abbrev pub rounds_behind : List Report → List (List Report) → List (List Report)
rounds_behind [] others = []
rounds_behind (r ∷ rs) others = (r ∷ heads others) ∷ rounds_behind rs (map tail others)

-- one batch of each worker, as rounds
abbrev pub rounds_in : List (List Report) → List (List Report)
rounds_in [] = []
rounds_in (first ∷ others) = rounds_behind first others

-- the batches of n workers for these moments
abbrev pub batch_of : ℕ → List Moment → List (List Report)
batch_of n moments = map (λ w. map (report_of (is_kept_by n w)) moments) (numbers_from 0 n)

-- batch after batch
abbrev pub all_rounds_in : List (List (List Report)) → List (List Report)
all_rounds_in batches = flat_map rounds_in batches
