-- The laws of what is published: whatever the number of workers, it is what the moves show.
use Rattle.std.specs.Prelude.{◌≡◌, ◌≤◌, ℕ, List, ◌++◌, map}
use Rattle.std.specs.List.{flat_map}
use Rattle.mdp_templates.specs.declared.instrument.Instrument.{Instrument}
use Rattle.mdp_lanes.specs.declared.step.Step.{Step}
use Rattle.mdp_arbiter.specs.Accepted.{Event}
use Rattle.mdp_arbiter.specs.Channel.{ListedChannel}
use Rattle.mdp_arbiter.specs.Machine.{Move, moves_of}
use Rattle.mdp_desks.specs.Moments.{Moment, moments, moments_after}
use Rattle.mdp_desks.specs.Reports.{Report}
use Rattle.mdp_reports.specs.Rounds.{all_rounds_in, batch_of}
use Rattle.mdp_reports.specs.BoardSteps.{board_steps, step_of_moment, steps_in}

-- whatever the number of workers, and however their reports are cut into batches, their reports give the steps that the
-- moves show
abbrev pub LawOfBoards : Type 0
LawOfBoards = (n : ℕ) (listed : List Instrument) (moves : List Move) (batches : List (List Moment)) → 1 ≤ n
    → moments listed moves ≡ flat_map (λ (ms : List Moment). ms) batches
    → steps_in (all_rounds_in (map (batch_of n) batches)) ≡ board_steps listed moves

-- what is made of the first rounds comes first
abbrev pub LawOfFirstSteps : Type 0
LawOfFirstSteps = (rounds more : List (List Report)) → steps_in (rounds ++ more) ≡ steps_in rounds ++ steps_in more

-- the steps of the first moves come first, and then those of the moments of the moves behind them
abbrev pub LawOfMoreSteps : Type 0
LawOfMoreSteps =
    (listed : List Instrument) (moves more : List Move)
    → board_steps listed (moves ++ more) ≡ board_steps listed moves
    ++ map step_of_moment (moments_after listed moves more)

-- the steps of a front of the events begin the steps of all
abbrev pub LawOfStepFronts : Type 0
LawOfStepFronts = (channel : ListedChannel) (front rest : List Event)
    → (later : List Step)
    × (board_steps channel.listed (moves_of channel (front ++ rest))
    ≡ board_steps channel.listed (moves_of channel front) ++ later)
