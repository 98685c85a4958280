-- What a run has come to after these readings.
use Rattle.std.specs.Prelude.{◌≡◌, ℕ, true, List, ◌++◌}
use Rattle.mdp_templates.specs.declared.instrument.Instrument.{Instrument}
use Rattle.mdp_templates.specs.declared.feed.Feed.{Feed}
use Rattle.mdp_templates.specs.declared.feed.Feed.TheVariants as feeds
use Rattle.mdp_arbiter.specs.Channel.{ListedChannel, channel_of}
use Rattle.mdp_arbiter.specs.Accepted.{Event}
use Rattle.mdp_desks.specs.Moments.{Moment, text_of_moments}
use Rattle.mdp_engine.specs.Engine.{View, Stands}
use Rattle.mdp_capture.specs.Record.{Received, RecordContent}
use Rattle.mdp_pipeline.specs.Merge.{Arrival, arrival_on}
use Rattle.mdp_templates.specs.Refused.{FeedKind as Kind}
use Rattle.mdp_pipeline.specs.declared.progress.Run.{Run}
use Rattle.mdp_pipeline.specs.Output.{shown_output}
use Rattle.mdp_pipeline.specs.RefusalTexts.{RefusalTexts, with_told}
use Rattle.mdp_pipeline.specs.Reading.{Reading, AreReadings, Says, by_feed, events_of, readings_on, refusal_lines, refusals_text}
use Rattle.mdp_receiver.specs.Handling.{GoesOn, TellsMoved}
use Rattle.mdp_receiver.specs.declared.moved.Moved.{Moved}
use Rattle.mdp_receiver.specs.Said.{Said, brought_by, kind_of, refusal_in}
use Rattle.mdp_arbiter.specs.Machine.{stands_after}
use Rattle.mdp_arbiter.specs.declared.arbiter.Standing.{Standing}

-- the lines of those that these readings refuse
abbrev pub refusals_of : List Reading → RefusalTexts
refusals_of readings =
    record {
      a = refusal_lines (readings_on feeds.A readings);
      b = refusal_lines (readings_on feeds.B readings);
      s = refusal_lines (readings_on feeds.S readings);
    }

-- a run has taken in what a record says
pub record TakesSaid {A : Type 0} (feed : Feed) (line : ℕ) (said : Said)
    (old new : Run A) : Type 0 where
  pub goes : GoesOn (brought_by said) old.handler new.handler
  pub refusals : new.refusals ≡ with_told feed line (refusal_in said) old.refusals

-- a run has taken in what came with this record, on a feed of this kind, as it says
pub record TakesAs {A : Type 0} (kind : Kind) (arrival : Arrival) (old new : Run A) : Type 0 where
  pub said : Said
  pub says : Says kind arrival.entry.received said
  pub takes : TakesSaid arrival.feed arrival.entry.line said old new

-- it has taken in what came on this line of a feed
abbrev pub TakesOn : {A : Type 0} → Feed → ℕ → Received → Run A → Run A → Type 0
TakesOn feed line received old new =
    TakesAs (kind_of feed) (arrival_on feed (record { line = line; received = received })) old new

-- it has taken in a datagram that came with this record on a feed, which moved this
pub record TakesMoving {A : Type 0} (feed : Feed) (entry : RecordContent) (moved : Moved) (old new : Run A)
    : Type 0 where
  pub takes : TakesOn feed entry.line entry.received old new
  pub moves : TellsMoved takes.said moved old.handler

-- an engine that keeps lines stands at these events, of whose lines this text was sent; it holds the rest
pub record StandsSent (listed : List Instrument) (events : List Event) (sent : List ℕ) (engine : View) : Type 0 where
  pub gone : List Moment
  pub stands : Stands listed events gone engine
  pub keeps : engine.keeps_lines ≡ true
  pub sent_is : sent ≡ text_of_moments gone

-- the engine stands at the events of these readings, of whose lines this text was sent
pub record HasRun {A : Type 0} (channel : ListedChannel) (readings : List Reading) (sent : List ℕ)
    (now : Run A) : Type 0 where
  pub stands : StandsSent channel.listed (events_of readings) sent now.handler
  pub channel_is : now.handler.arbiter.channel ≡ channel_of channel
  pub refusals_are : now.refusals ≡ refusals_of readings

-- a run over these records, of which this text was sent
pub record RunsOver {A : Type 0} (channel : ListedChannel) (arrivals : List Arrival) (sent : List ℕ)
    (now : Run A) : Type 0 where
  pub readings : List Reading
  pub are : AreReadings arrivals readings
  pub run : HasRun channel readings sent now

-- a run over these records whose text went out as far as the writer took it; the engine holds the
-- rest
pub record Writes {A : Type 0} (channel : ListedChannel) (arrivals : List Arrival)
    (start taken : List ℕ) (now : Run A) : Type 0 where
  pub sent : List ℕ
  pub taken_is : taken ≡ start ++ sent
  pub over : RunsOver channel arrivals sent now

-- ---- what the caller's thread has shown of the events that it took, whatever the feeds

-- the engine stands at these events, and what it shows of them went out as far as the writer took
-- it; the rest is held
pub record HasWritten (channel : ListedChannel) (events : List Event) (start taken : List ℕ)
    (engine : View) : Type 0 where
  pub sent : List ℕ
  pub taken_is : taken ≡ start ++ sent
  pub stands : StandsSent channel.listed events sent engine
  pub channel_is : engine.arbiter.channel ≡ channel_of channel

-- lines that the engine held went out: wherever it stood, after whatever text was sent before, it
-- stands there still after these lines too
pub record HandsOn {A : Type 0} (taken taken' : List ℕ) (old new : Run A) : Type 0 where
  pub sent : List ℕ
  pub went : taken' ≡ taken ++ sent
  pub stands : (listed : List Instrument) (events : List Event) (before : List ℕ)
      → StandsSent listed events before old.handler → StandsSent listed events (before ++ sent) new.handler
  pub channel : new.handler.arbiter.channel ≡ old.handler.arbiter.channel
  pub refusals : new.refusals ≡ old.refusals

-- feed A's lines, then B's, then S's
abbrev pub joined_texts : RefusalTexts → List ℕ
joined_texts texts = texts.a ++ (texts.b ++ texts.s)

-- this is the whole text, and where the channel stands
pub record EndsAs (channel : ListedChannel) (events : List Event) (refusals text : List ℕ)
    (standing : Standing) : Type 0 where
  pub standing_is : standing ≡ stands_after channel events
  pub shown : text ≡ shown_output channel refusals events

-- a beginning of the text went out
pub record EndsEarly (channel : ListedChannel) (events : List Event)
    (refusals start taken : List ℕ) : Type 0 where
  pub sent : List ℕ
  pub rest : List ℕ
  pub taken_is : taken ≡ start ++ sent
  pub whole : shown_output channel refusals events ≡ sent ++ rest

-- ---- runs over records of all feeds in one list

-- the text of these records, in this order: what their moves show
pub record PrintsAll (channel : ListedChannel) (arrivals : List Arrival) (text : List ℕ)
    (standing : Standing) : Type 0 where
  pub readings : List Reading
  pub are : AreReadings arrivals readings
  pub standing_is : standing ≡ stands_after channel (events_of readings)
  pub shown : text ≡ shown_output channel (refusals_text (by_feed readings)) (events_of readings)

-- what went out is a beginning of it
pub record BeginsAll (channel : ListedChannel) (arrivals : List Arrival)
    (start taken : List ℕ) : Type 0 where
  pub text : List ℕ
  pub standing : Standing
  pub prints : PrintsAll channel arrivals text standing
  pub sent : List ℕ
  pub rest : List ℕ
  pub taken_is : taken ≡ start ++ sent
  pub whole : text ≡ sent ++ rest
