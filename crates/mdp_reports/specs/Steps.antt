-- The steps of a board as a list that grows: the rows of all steps stand in one list, and each step says where its own
-- begin.
use Rattle.std.specs.Prelude.{◌≤◌, ℕ, List, [], ◌∷◌, ◌++◌, length, fold, if◌then◌else◌, ⊤}
use Rattle.std.specs.List.{slice_range}
use Rattle.std.specs.Coded.{Coded, coded_list}
use Rattle.mdp_lanes.specs.declared.row.Row.{Row}
use Rattle.mdp_lanes.specs.declared.step.Step.{Step}
use Rattle.mdp_lanes.specs.declared.step.Step.TheVariants.{Jump, Event}
use Rattle.mdp_lanes.specs.contracts.step.Step as step
use Rattle.mdp_books.specs.declared.event_end.EventEnd.{EventEnd}
use Rattle.mdp_desks.specs.Reports.{Told}
use Rattle.mdp_reports.specs.declared.board_steps.StepAt.{StepAt}
use Rattle.mdp_reports.specs.declared.board_steps.Posting.{Posting}
use Rattle.mdp_reports.specs.declared.board_steps.Posting.TheVariants.{Event as Rows, Jump as Leap}
use Rattle.mdp_reports.specs.declared.places.Heading.{Heading}
use Rattle.mdp_reports.specs.declared.places.Heading.TheVariants.{Event as AtEnd, Jump as AtJump}
use Rattle.mdp_reports.specs.BoardSteps.{pair_told, step_telling}

abbrev pub steps_code : Coded (List Step)
steps_code = coded_list step.the_row.coded

-- where the rows end of a step that stands before these, of so many rows
abbrev pub end_of : ℕ → List StepAt → ℕ
end_of count [] = count
end_of count (m ∷ places) = m.from

abbrev pub step_to : List (ℕ × Row) → StepAt → ℕ → Step
step_to rows m to = if m.is_jump then Jump else Event (slice_range rows m.from to)

abbrev pub steps_in_places : List (ℕ × Row) → List StepAt → List Step
steps_in_places rows [] = []
steps_in_places rows (m ∷ places) = step_to rows m (end_of (length rows) places) ∷ steps_in_places rows places

-- each step's rows begin where the next one's begin or before, and among so many
abbrev pub AreInPlace : ℕ → List StepAt → Type 0
AreInPlace count [] = ⊤
AreInPlace count (m ∷ places) = (m.from ≤ end_of count places) × AreInPlace count places

-- a step that is lent
abbrev pub posted : Posting → Step
posted (Rows rows) = Event rows.now
posted Leap = Jump

-- ---- one row more in the last step, where it is an event

abbrev pub step_with : ℕ × Row → Step → Step
step_with pair Jump = Jump
step_with pair (Event pairs) = Event (pairs ++ pair ∷ [])

abbrev pub steps_with : ℕ × Row → List Step → List Step
steps_with pair [] = []
steps_with pair (s ∷ []) = step_with pair s ∷ []
steps_with pair (s ∷ t ∷ steps) = s ∷ steps_with pair (t ∷ steps)

-- of all that is told at an event end
abbrev pub steps_with_told : EventEnd → List Told → List Step → List Step
steps_with_told end ts steps =
    fold (λ (so_far : List Step) (t : Told). steps_with (pair_told end t) so_far) steps ts

-- ---- a moment by its heading and all that is told at it

abbrev pub step_under : Heading → List Told → Step
step_under (AtEnd end) ts = step_telling end ts
step_under (AtJump old new) ts = Jump
