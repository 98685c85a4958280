-- What a reader has handed over of its feed's records.
use Rattle.std.specs.Prelude.{◌≡◌, Bool, true, List, [], ◌++◌, map, OnOk, IfOk}
use Rattle.std.specs.List.{list_any}
use Rattle.mdp_templates.specs.declared.feed.Feed.{Feed}
use Rattle.mdp_capture.specs.Record.{RecordContent}
use Rattle.mdp_arbiter.specs.Accepted.{Event}
use Rattle.mdp_engine.specs.Steps.{event_of}
use Rattle.mdp_lanes.specs.Queues.{IntakeSenderView}
use Rattle.mdp_crew.specs.declared.batch.Batch.{Batch}
use Rattle.mdp_crew.specs.Batches.{all_events}
use Rattle.mdp_pipeline.specs.declared.feed_reader.FeedReader.{FeedReader}
use Rattle.mdp_pipeline.specs.declared.feed_reader.ReaderOutcome.{ReaderOutcome}
use Rattle.mdp_pipeline.specs.Merge.{arrivals}
use Rattle.mdp_pipeline.specs.Reading.{Reading, AreReadings, Says, events_of, refusal_lines, refusal_text}
use Rattle.mdp_receiver.specs.Said.{Said, brought_by, kind_of}

-- its last batch was put
abbrev pub has_ended : {A : Type 0} → IntakeSenderView (Batch A) → Bool
has_ended sender = list_any (λ b. b.is_last) sender.sent

-- these batches more were put
abbrev pub HasPut : {A : Type 0} → IntakeSenderView (Batch A) → List (Batch A) → IntakeSenderView (Batch A) → Type 0
HasPut before batches after = after ≡ record before { sent = before.sent ++ batches }

-- the events that are read and not handed over yet
abbrev pub events_held : {A : Type 0} → FeedReader A → List Event
events_held reader = map event_of reader.events.items

-- One record's events are held behind the others, or its refusal is told.
pub record HoldsOne {A : Type 0} (feed : Feed) (entry : RecordContent) (old new : FeedReader A) : Type 0 where
  pub said : Said
  pub says : Says (kind_of feed) entry.received said
  pub events : events_held new ≡ events_held old ++ brought_by said
  pub refusals : new.refusals ≡ old.refusals ++ refusal_text feed entry.line said

-- One record was read: its events are held behind the others, but for those that were handed over, or its refusal is
-- told.
pub record HasReadOne {A : Type 0} (feed : Feed) (entry : RecordContent) (old new : FeedReader A) : Type 0 where
  pub said : Said
  pub says : Says (kind_of feed) entry.received said
  pub batches : List (Batch A)
  pub put : HasPut old.sender batches new.sender
  pub events : events_held old ++ brought_by said ≡ all_events batches ++ events_held new
  pub refusals : new.refusals ≡ old.refusals ++ refusal_text feed entry.line said

-- These records were read: their events are handed over, but for the last ones, which are held, and their refusals are
-- told.
pub record HasReadSoFar {A : Type 0} (feed : Feed) (records : List RecordContent) (before : IntakeSenderView (Batch A))
    (reader : FeedReader A) : Type 0 where
  pub batches : List (Batch A)
  pub put : HasPut before batches reader.sender
  pub readings : List Reading
  pub are : AreReadings (arrivals feed records) readings
  pub front : events_of readings ≡ all_events batches ++ events_held reader
  pub refusals : reader.refusals ≡ refusal_lines readings

-- Of these records' events a front was handed over.
pub record HasHandedOver {A : Type 0} (feed : Feed) (records : List RecordContent)
    (before after : IntakeSenderView (Batch A)) : Type 0 where
  pub batches : List (Batch A)
  pub put : HasPut before batches after
  pub readings : List Reading
  pub are : AreReadings (arrivals feed records) readings
  pub rest : List Event
  pub front : events_of readings ≡ all_events batches ++ rest

-- A reader has put its last batch. A front of its records' events was handed over; all of them where memory sufficed,
-- and then the lines of the refused datagrams are told.
pub record HasRead {A : Type 0} (feed : Feed) (records : List RecordContent) (before : IntakeSenderView (Batch A))
    (outcome : ReaderOutcome A) : Type 0 where
  pub over : HasHandedOver feed records before outcome.sender
  pub ended : has_ended outcome.sender ≡ true
  pub whole : OnOk outcome.refusals (over.rest ≡ [])
  pub refusals : IfOk outcome.refusals (λ text. text ≡ refusal_lines over.readings)
