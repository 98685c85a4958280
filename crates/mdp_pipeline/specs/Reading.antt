-- What the records of a channel's feeds say: the events that each brings, or why it is refused.
use Rattle.std.specs.Prelude.{◌≡◌, ◌==◌, ℕ, Bool, List, [], ◌∷◌, ◌++◌, map}
use Rattle.std.specs.List.{AllByRecursion, filter, flat_map}
use Rattle.mdp_templates.specs.Refused.{FeedKind as Kind}
use Rattle.mdp_templates.specs.Refused.FeedKind.{incremental, recovery}
use Rattle.mdp_capture.specs.Record.{Received, Datagram, Close}
use Rattle.mdp_templates.specs.declared.feed.Feed.{Feed}
use Rattle.mdp_templates.specs.declared.feed.Feed.TheVariants as feeds
use Rattle.mdp_templates.specs.Feed.{feed_letter}
use Rattle.mdp_print.specs.Texts.{refusal_line}
use Rattle.mdp_arbiter.specs.Accepted.{Event, closed}
use Rattle.mdp_receiver.specs.Said.{Said, IsSaid, brings, refused, brought_by, kind_of}
use Rattle.mdp_pipeline.specs.Merge.{Arrival, FeedRecords, arrivals}

-- a close counts on feed S alone
abbrev pub close_said : Kind → Said
close_said incremental = brings []
close_said recovery = brings (closed ∷ [])

-- a record says what its datagram says, or closes the channel
abbrev pub Says : Kind → Received → Said → Type 0
Says kind (Datagram bytes) said = IsSaid kind bytes said
Says kind Close said = said ≡ close_said kind

-- a record of a feed, and what it says
pub record Reading : Type 0 where
  pub arrival : Arrival
  pub said : Said

abbrev pub IsReading : Reading → Type 0
IsReading r = Says (kind_of r.arrival.feed) r.arrival.entry.received r.said

-- the readings of these records, in their order
pub record AreReadings (arrivals : List Arrival) (readings : List Reading) : Type 0 where
  pub of : map (λ (r : Reading). r.arrival) readings ≡ arrivals
  pub each : AllByRecursion IsReading readings

-- the events that were brought, in order
abbrev pub events_of : List Reading → List Event
events_of readings = flat_map (λ (r : Reading). brought_by r.said) readings

-- the line of a datagram that was refused, which came from this line of the capture
abbrev pub refusal_text : Feed → ℕ → Said → List ℕ
refusal_text feed line (brings events) = []
refusal_text feed line (refused refusal) = refusal_line feed line refusal

-- a line for each datagram that was refused, in order
abbrev pub refusal_lines : List Reading → List ℕ
refusal_lines readings = flat_map (λ (r : Reading). refusal_text r.arrival.feed r.arrival.entry.line r.said) readings

-- ---- the three feeds

pub record Readings : Type 0 where
  pub a : List Reading
  pub b : List Reading
  pub s : List Reading

-- the readings of the records of A, of B and of S
pub record AreReadingsOf (records : FeedRecords) (readings : Readings) : Type 0 where
  pub a_are : AreReadings (arrivals feeds.A records.a) readings.a
  pub b_are : AreReadings (arrivals feeds.B records.b) readings.b
  pub s_are : AreReadings (arrivals feeds.S records.s) readings.s

-- the lines of feed A's refused datagrams, then of B's, then of S's
abbrev pub refusals_text : Readings → List ℕ
refusals_text readings = refusal_lines readings.a ++ (refusal_lines readings.b ++ refusal_lines readings.s)

-- ---- readings of all feeds in one list

abbrev pub is_on : Feed → Arrival → Bool
is_on feed arrival = feed_letter arrival.feed == feed_letter feed

-- those of one feed
abbrev pub readings_on : Feed → List Reading → List Reading
readings_on feed readings = filter (λ (r : Reading). is_on feed r.arrival) readings

abbrev pub by_feed : List Reading → Readings
by_feed readings =
    record { a = readings_on feeds.A readings; b = readings_on feeds.B readings; s = readings_on feeds.S readings }
