-- The events of what readers hand over batch by batch, and what was taken of them.
use Rattle.std.specs.Prelude.{◌≡◌, List, ◌++◌, map}
use Rattle.std.specs.List.{flat_map}
use Rattle.mdp_templates.specs.declared.feed.Feed.{Feed}
use Rattle.mdp_arbiter.specs.Accepted.{Event}
use Rattle.mdp_engine.specs.Steps.{event_of}
use Rattle.mdp_lanes.specs.Queues.{IntakeReceiverView}
use Rattle.mdp_crew.specs.declared.batch.Batch.{Batch}

-- the events of a batch, and of batches one after another
abbrev pub batch_events : {A : Type 0} → Batch A → List Event
batch_events b = map event_of b.events.items

abbrev pub all_events : {A : Type 0} → List (Batch A) → List Event
all_events batches = flat_map batch_events batches

-- the events of batches in the order in which they were taken
abbrev pub events_taken : {A : Type 0} → List (Feed × Batch A) → List Event
events_taken taken = flat_map (λ m. batch_events m.1) taken

-- more was taken
abbrev pub HasTakenMore : {A : Type 0} → IntakeReceiverView (Batch A) → IntakeReceiverView (Batch A) → Type 0
HasTakenMore {A} before after =
    (more : List (Feed × Batch A)) × (after ≡ record before { taken = before.taken ++ more })
