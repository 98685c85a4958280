-- What the crew of a run has shown of the events that it took, as text and on a board.
use Rattle.std.specs.Prelude.{◌≡◌, ℕ, List, [], ◌++◌, Result, Ok, Err, IfOk, IfErr}
use Rattle.mdp_arbiter.specs.Accepted.{Event}
use Rattle.mdp_arbiter.specs.Channel.{ListedChannel}
use Rattle.mdp_arbiter.specs.Machine.{moves_of, stands_after}
use Rattle.mdp_desks.specs.Moments.{Moment, moments, shown_lines}
use Rattle.mdp_lanes.specs.declared.step.Step.{Step}
use Rattle.mdp_reports.specs.Behind.{IsBehind}
use Rattle.mdp_reports.specs.BoardSteps.{board_steps}
use Rattle.mdp_arbiter.specs.declared.arbiter.Standing.{Standing}
use Rattle.mdp_crew.specs.declared.fault.RunFault.{RunFault}
use Rattle.mdp_crew.specs.declared.fault.RunFault.TheVariants.{Memory}
use Rattle.mdp_crew.specs.Outlets.{Outlet}
use Rattle.mdp_crew.specs.Publishing.{published_on}

-- what the moves of these events show was written and published, and this is where the channel
-- stands
pub record HasShownAll (channel : ListedChannel) (events : List Event) (old new : Outlet)
    (standing : Standing) : Type 0 where
  pub shown : new.taken ≡ old.taken ++ shown_lines channel.listed (moves_of channel events)
  pub published : new.board
      ≡ published_on old.board (board_steps channel.listed (moves_of channel events))
  pub standing_is : standing ≡ stands_after channel events

-- Of these moments, after whose text stands this end, a beginning was written, and of that a
-- beginning at most was published.
pub record WentOut (shown : List Moment) (end : List ℕ) (old new : Outlet) : Type 0 where
  pub sent : List ℕ
  pub steps : List Step
  pub taken_is : new.taken ≡ old.taken ++ sent
  pub board_is : new.board ≡ published_on old.board steps
  pub behind : IsBehind shown end sent steps

-- what a run comes to, of which so many bytes went out: where the channel stands, or why it ended
-- early; what the collector met goes before what the arbiter met
abbrev pub outcome_of : {E : Type 0} → ℕ → Result (Unit {0}) RunFault → Result Standing E
    → Result Standing RunFault
outcome_of written (Err fault) standing = Err fault
outcome_of written (Ok done) (Ok standing) = Ok standing
outcome_of written (Ok done) (Err memory) = Err (Memory written)

-- what went out, whatever the run came to
pub record HasShown (channel : ListedChannel) (events : List Event) (old new : Outlet)
    (outcome : Result Standing RunFault) : Type 0 where
  pub all : IfOk outcome (λ (standing : Standing). HasShownAll channel events old new standing)
  pub some : IfErr outcome (λ (fault : RunFault). WentOut
      (moments channel.listed (moves_of channel events)) [] old new)
