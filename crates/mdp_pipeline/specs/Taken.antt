-- What was taken of the three readers, each event with its reader's feed.
use Rattle.std.specs.Prelude.{List, map}
use Rattle.std.specs.List.{flat_map}
use Rattle.mdp_templates.specs.declared.feed.Feed.{Feed}
use Rattle.mdp_capture.specs.Record.{RecordContent}
use Rattle.mdp_arbiter.specs.Accepted.{Event}
use Rattle.mdp_lanes.specs.Queues.{IntakeReceiverView, IntakeSenderView, IsFreshSenderOf}
use Rattle.mdp_crew.specs.declared.batch.Batch.{Batch}
use Rattle.mdp_crew.specs.Batches.{batch_events}
use Rattle.mdp_pipeline.specs.declared.feed_reader.ReaderOutcome.{ReaderOutcome}
use Rattle.mdp_pipeline.specs.Merging.{Tagged}
use Rattle.mdp_pipeline.specs.Readers.{HasRead}

-- the events of one feed, with it
abbrev pub tagged_as : Feed → List Event → List Tagged
tagged_as feed events = map (λ (e : Event). record { feed = feed; event = e }) events

-- the events of batches in the order in which they were taken
abbrev pub tagged_taken : {A : Type 0} → List (Feed × Batch A) → List Tagged
tagged_taken taken = flat_map (λ m. tagged_as m.0 (batch_events m.1)) taken

-- a reader of this receiver's intake has read these records of its feed
abbrev pub HasReadFor : {A : Type 0} → IntakeReceiverView (Batch A) → Feed → List RecordContent → ReaderOutcome A
    → Type 0
HasReadFor {A} receiver feed records outcome =
    (before : IntakeSenderView (Batch A)) × IsFreshSenderOf receiver feed before × HasRead feed records before outcome
