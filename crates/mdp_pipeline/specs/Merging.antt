-- The merges of what three feeds brought: the events of each feed keep their order, whatever stands between them.
use Rattle.std.specs.Prelude.{◌≡◌, ◌==◌, Bool, List, map}
use Rattle.std.specs.List.{filter, flat_map}
use Rattle.mdp_templates.specs.declared.feed.Feed.{Feed}
use Rattle.mdp_templates.specs.declared.feed.Feed.TheVariants as feeds
use Rattle.mdp_templates.specs.Feed.{feed_letter}
use Rattle.mdp_arbiter.specs.Accepted.{Event}
use Rattle.mdp_capture.specs.Lines.{NumberedLine}
use Rattle.mdp_pipeline.specs.Merge.{Arrival, FeedRecords, in_order}
use Rattle.mdp_pipeline.specs.Reading.{Reading, Readings, AreReadings, events_of}
use Rattle.mdp_pipeline.specs.TextOrder.{arrivals_in}
use Rattle.mdp_receiver.specs.Said.{brought_by}

-- an event, and the feed that brought it
pub record Tagged : Type 0 where
  pub feed : Feed
  pub event : Event

abbrev pub is_from : Feed → Tagged → Bool
is_from feed t = feed_letter t.feed == feed_letter feed

abbrev pub events_in : List Tagged → List Event
events_in merge = map (λ (t : Tagged). t.event) merge

-- those of one feed, in their order
abbrev pub events_from : Feed → List Tagged → List Event
events_from feed merge = events_in (filter (is_from feed) merge)

-- each feed's events stand there in their order, and no others
pub record IsMerge (readings : Readings) (merge : List Tagged) : Type 0 where
  pub a : events_from feeds.A merge ≡ events_of readings.a
  pub b : events_from feeds.B merge ≡ events_of readings.b
  pub s : events_from feeds.S merge ≡ events_of readings.s

-- ---- the merge of the records in one order

-- the events of a record, with its feed
abbrev pub tagged_by : Reading → List Tagged
tagged_by r = map (λ (e : Event). record { feed = r.arrival.feed; event = e }) (brought_by r.said)

-- Record by record, as they stand in this list.
abbrev pub IsInOrder : List Arrival → List Tagged → Type 0
IsInOrder order merge =
    (readings : List Reading) × AreReadings order readings × (merge ≡ flat_map tagged_by readings)

-- Record by record in the order of the capture's lines; of equal lines feed A's goes before B's, and B's before S's.
abbrev pub IsByLine : FeedRecords → List Tagged → Type 0
IsByLine records merge = IsInOrder (in_order records) merge

-- Record by record as their lines stand in the text, whatever numbers these bear.
abbrev pub IsInTextOrder : List NumberedLine → List Tagged → Type 0
IsInTextOrder numbered merge = IsInOrder (arrivals_in numbered) merge
