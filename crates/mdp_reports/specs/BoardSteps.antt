-- What is published on a board of all listed securities, step by step: each event end with the rows of what it tells,
-- also where that is nothing, and each jump.
use Rattle.std.specs.Prelude.{ℕ, List, [], ◌∷◌, ◌++◌, Option, Some, None, map}
use Rattle.mdp_templates.specs.Packet.{PacketContent}
use Rattle.mdp_templates.specs.declared.instrument.Instrument.{Instrument}
use Rattle.mdp_books.specs.declared.event_end.EventEnd.{EventEnd}
use Rattle.mdp_quotes.specs.declared.top.TopOfBook.{TopOfBook}
use Rattle.mdp_lanes.specs.declared.row.Row.{Row}
use Rattle.mdp_lanes.specs.declared.row.Row.TheVariants.{Top, Fault}
use Rattle.mdp_lanes.specs.declared.step.Step.{Step}
use Rattle.mdp_lanes.specs.declared.step.Step.TheVariants.{Jump, Event}
use Rattle.mdp_arbiter.specs.Machine.{Move}
use Rattle.mdp_desks.specs.Moments.{Moment, at_event_end, at_jump, moments}
use Rattle.mdp_desks.specs.Reports.{Told, Report, of_event_end, of_jump, told_from}
use Rattle.mdp_engine.specs.Owed.{NumberedMove as RunStep, owed_moments}
use Rattle.mdp_reports.specs.Rounds.{all_by_slot, told_in}

-- the row of a security whose book has this top where an event ends; a fault has none
abbrev pub row_with : EventEnd → Option TopOfBook → Row
row_with end None = Fault end.packet end.message
row_with end (Some top) = Top end.packet end.message top.bid top.offer

abbrev pub pair_told : EventEnd → Told → ℕ × Row
pair_told end t = (t.slot, row_with end t.top)

-- of an event end that tells of these
abbrev pub step_telling : EventEnd → List Told → Step
step_telling end ts = Event (map (pair_told end) ts)

-- ---- what the moves show

abbrev pub step_of_moment : Moment → Step
step_of_moment (at_event_end end seen) = step_telling end (told_from end 0 seen)
step_of_moment (at_jump old new) = Jump

abbrev pub board_steps : List Instrument → List Move → List Step
board_steps listed moves = map step_of_moment (moments listed moves)

-- ---- what the reports of all workers give

-- of one report of each worker
abbrev pub step_of_round : List Report → List Step
step_of_round [] = []
step_of_round (of_event_end end ts ∷ rest) = step_telling end (all_by_slot (ts ∷ map told_in rest)) ∷ []
step_of_round (of_jump old new ∷ rest) = Jump ∷ []

-- round by round
abbrev pub steps_in : List (List Report) → List Step
steps_in [] = []
steps_in (round ∷ rounds) = step_of_round round ++ steps_in rounds

-- ---- what a complete feed owes

abbrev pub owed_board_steps : List Instrument → List PacketContent → List RunStep → List Step
owed_board_steps listed feed steps = map step_of_moment (owed_moments listed feed steps)
