-- What a run over the records of a channel's feeds prints and publishes, and what a complete feed
-- that agrees with them has to do with it.
use Rattle.std.specs.Prelude.{◌≡◌, ℕ, List, ◌++◌, Result, IfOk, IfErr}
use Rattle.mdp_templates.specs.Packet.{PacketContent}
use Rattle.mdp_capture.specs.Lines.{NumberedLine}
use Rattle.mdp_print.specs.Texts.{last_line}
use Rattle.mdp_arbiter.specs.Accepted.{Event}
use Rattle.mdp_arbiter.specs.Machine.{moves_of, stands_after}
use Rattle.mdp_arbiter.specs.declared.arbiter.Standing.{Standing}
use Rattle.mdp_arbiter.specs.Channel.{ListedChannel}
use Rattle.mdp_desks.specs.Moments.{Moment, moments, shown_lines}
use Rattle.mdp_engine.specs.Honest.{IsHonest}
use Rattle.mdp_engine.specs.Owed.{lines, owed_moments, numbered_moves}
use Rattle.mdp_lanes.specs.declared.step.Step.{Step}
use Rattle.mdp_reports.specs.Behind.{IsBehind}
use Rattle.mdp_reports.specs.BoardSteps.{board_steps, owed_board_steps}
use Rattle.mdp_crew.specs.Arbitrating.{IsNextNumber}
use Rattle.mdp_print.specs.Written.{HasCounted}
use Rattle.mdp_crew.specs.Faults.{written_before}
use Rattle.mdp_crew.specs.Outlets.{Outlet}
use Rattle.mdp_crew.specs.Publishing.{published_on}
use Rattle.mdp_crew.specs.declared.fault.RunFault.{RunFault}
use Rattle.mdp_pipeline.specs.declared.summary.Summary.{Summary}
use Rattle.mdp_pipeline.specs.Merge.{FeedRecords}
use Rattle.mdp_pipeline.specs.Reading.{Readings, AreReadingsOf, refusals_text}
use Rattle.mdp_pipeline.specs.Merging.{Tagged, IsMerge, IsByLine, IsInTextOrder, events_in}
use Rattle.mdp_pipeline.specs.TextOrder.{records_from}

-- ---- the text for these events

-- where a run came to, of what it sums up
abbrev pub standing_in : Summary → Standing
standing_in summary = record { next = summary.next; lost = summary.lost }

-- what stands after the moves' lines: those of the refused datagrams, and the last line
abbrev pub end_text : List ℕ → Standing → List ℕ
end_text refusals standing = refusals ++ last_line standing.next standing.lost

abbrev pub end_lines : ListedChannel → List ℕ → List Event → List ℕ
end_lines channel refusals events = end_text refusals (stands_after channel events)

-- the text that the moves themselves show, whatever came
abbrev pub shown_output : ListedChannel → List ℕ → List Event → List ℕ
shown_output channel refusals events =
    shown_lines channel.listed (moves_of channel events) ++ end_lines channel refusals events

-- the text that a complete feed defines: the lines that it owes for the moves
abbrev pub output : ListedChannel → List PacketContent → List ℕ → List Event → List ℕ
output channel feed refusals events =
    lines channel.listed feed (numbered_moves (moves_of channel events))
    ++ end_lines channel refusals events

-- ---- a run

-- What a run over these records prints, where this is the merge of what they brought: the text that
-- the merge's moves show. It is the text of every complete feed that agrees with the merge.
pub record Prints (channel : ListedChannel) (records : FeedRecords) (merge : List Tagged)
    (text : List ℕ) (standing : Standing) : Type 0 where
  pub readings : Readings
  pub are : AreReadingsOf records readings
  pub merges : IsMerge readings merge
  pub standing_is : standing ≡ stands_after channel (events_in merge)
  pub shown : text ≡ shown_output channel (refusals_text readings) (events_in merge)
  pub owed : (feed : List PacketContent) → IsHonest channel.listed feed (events_in merge)
      → text ≡ output channel feed (refusals_text readings) (events_in merge)

-- What went out of a run that ended early is a beginning of the text that the whole run prints.
pub record Begins (channel : ListedChannel) (records : FeedRecords) (merge : List Tagged)
    (start taken : List ℕ) : Type 0 where
  pub text : List ℕ
  pub standing : Standing
  pub prints : Prints channel records merge text standing
  pub sent : List ℕ
  pub rest : List ℕ
  pub taken_is : taken ≡ start ++ sent
  pub whole : text ≡ sent ++ rest

-- the same of some merge
abbrev pub PrintsMerge : ListedChannel → FeedRecords → List ℕ → Standing → Type 0
PrintsMerge channel records text standing =
    (merge : List Tagged) × Prints channel records merge text standing

abbrev pub BeginsMerge : ListedChannel → FeedRecords → List ℕ → List ℕ → Type 0
BeginsMerge channel records start taken =
    (merge : List Tagged) × Begins channel records merge start taken

-- the same of the one merge that follows the capture's lines
abbrev pub PrintsByLine : ListedChannel → FeedRecords → List ℕ → Standing → Type 0
PrintsByLine channel records text standing =
    (merge : List Tagged) × IsByLine records merge × Prints channel records merge text standing

abbrev pub BeginsByLine : ListedChannel → FeedRecords → List ℕ → List ℕ → Type 0
BeginsByLine channel records start taken =
    (merge : List Tagged) × IsByLine records merge × Begins channel records merge start taken

-- the same of the one merge that follows these lines of a text, over what they bring
abbrev pub PrintsInTextOrder : ListedChannel → List NumberedLine → List ℕ → Standing → Type 0
PrintsInTextOrder channel numbered text standing =
    (merge : List Tagged) × IsInTextOrder numbered merge
    × Prints channel (records_from numbered) merge text standing

abbrev pub BeginsInTextOrder : ListedChannel → List NumberedLine → List ℕ → List ℕ → Type 0
BeginsInTextOrder channel numbered start taken =
    (merge : List Tagged) × IsInTextOrder numbered merge
    × Begins channel (records_from numbered) merge start taken

-- ---- a run that publishes on a board

-- The steps for these events: those that the moves themselves show. They are those of every
-- complete feed that agrees with the events.
pub record Publishes (channel : ListedChannel) (events : List Event)
    (steps : List Step) : Type 0 where
  pub shown : steps ≡ board_steps channel.listed (moves_of channel events)
  pub owed : (feed : List PacketContent) → IsHonest channel.listed feed events
      → steps ≡ owed_board_steps channel.listed feed (numbered_moves (moves_of channel events))

-- What went out before an early end, as text and on the board: both are read off one list of
-- moments, those that the moves show. They are those of every complete feed that agrees with the
-- events.
pub record BeginsToPublish (channel : ListedChannel) (events : List Event) (end sent : List ℕ)
    (steps : List Step) : Type 0 where
  pub shown : List Moment
  pub shown_is : shown ≡ moments channel.listed (moves_of channel events)
  pub owed : (feed : List PacketContent) → IsHonest channel.listed feed events
      → shown ≡ owed_moments channel.listed feed (numbered_moves (moves_of channel events))
  pub behind : IsBehind shown end sent steps

-- the text and the steps are those of one merge
abbrev pub PublishesMerge : ListedChannel → FeedRecords → List ℕ → Standing → List Step → Type 0
PublishesMerge channel records text standing steps =
    (merge : List Tagged) × Prints channel records merge text standing
    × Publishes channel (events_in merge) steps

-- what went out is a beginning of the text of one merge, and what was published is no further than
-- that text
abbrev pub BeginsToPublishMerge : ListedChannel → FeedRecords → List ℕ → List ℕ → List Step → Type 0
BeginsToPublishMerge channel records start taken steps =
    (merge : List Tagged) × (begins : Begins channel records merge start taken)
    × BeginsToPublish channel (events_in merge)
    (end_lines channel (refusals_text begins.prints.readings) (events_in merge)) begins.sent steps

-- ---- what a run has done to its writer and its board

-- the text and the steps of one merge went out, after what had gone out before
abbrev pub SaysAll : ListedChannel → FeedRecords → Outlet → Outlet → Standing → Type 0
SaysAll channel records old new standing =
    (text : List ℕ) × (steps : List Step) × (new.taken ≡ old.taken ++ text)
    × (new.board ≡ published_on old.board steps)
    × PublishesMerge channel records text standing steps

-- beginnings of them did
abbrev pub SaysSome : ListedChannel → FeedRecords → Outlet → Outlet → Type 0
SaysSome channel records old new =
    (steps : List Step) × (new.board ≡ published_on old.board steps)
    × BeginsToPublishMerge channel records old.taken new.taken steps

-- What became of a run: all went out, and it tells where the channel stands; or beginnings did. It
-- tells how many bytes.
pub record Ends (channel : ListedChannel) (records : FeedRecords) (old new : Outlet)
    (result : Result Summary RunFault) : Type 0 where
  pub text : IfOk result (λ summary. SaysAll channel records old new (standing_in summary))
  pub begins : IfErr result (λ _. SaysSome channel records old new)
  pub written : IfOk result (λ summary. HasCounted old.taken new.taken summary.written)
  pub told : IfErr result (λ fault. HasCounted old.taken new.taken (written_before fault))
  pub range : IfOk result (λ summary. IsNextNumber summary.next)
