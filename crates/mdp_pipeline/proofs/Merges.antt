-- A run over the records of the feeds in one order is a merge of what they brought; so is a run in the order of the lines.
use Rattle.std.proofs.Common.{◌≡◌, ℕ, Bool, true, false, cond, List, [], ◌∷◌, ◌++◌, map, refl, sym, ap, ◌∙◌}
use Rattle.std.specs.Prelude.{Result, Ok, Err, IfOk, IfErr, nat_le, ◌==◌}
use Rattle.std.specs.List.{AllByRecursion, filter, flat_map}
use Rattle.std.proofs.lemmas.List.{map-append}
use Rattle.std.proofs.lemmas.List.Elements.{filter-append}
use Rattle.mdp_templates.specs.declared.feed.Feed.{Feed}
use Rattle.mdp_templates.specs.declared.feed.Feed.TheVariants as feeds
use Rattle.mdp_templates.specs.Feed.{feed_letter}
use Rattle.mdp_capture.specs.Record.{RecordContent}
use Rattle.mdp_arbiter.specs.Channel.{ListedChannel}
use Rattle.mdp_arbiter.specs.Accepted.{Event}
use Rattle.mdp_engine.proofs.Owing.{law_of_honest_moments}
use Rattle.mdp_desks.specs.Moments.{text_of_moments}
use Rattle.mdp_pipeline.specs.declared.summary.Summary.{Summary}
use Rattle.mdp_crew.specs.declared.fault.RunFault.{RunFault}
use Rattle.mdp_pipeline.specs.Merge.{Arrival, FeedRecords, arrivals, by_line, in_order}
use Rattle.mdp_pipeline.specs.Reading.{Reading, AreReadings, AreReadingsOf, IsReading, by_feed, events_of, is_on, readings_on, refusals_text}
use Rattle.mdp_receiver.specs.Said.{brought_by}
use Rattle.mdp_pipeline.specs.Merging.{Tagged, IsInOrder, IsMerge, events_from, events_in, is_from, tagged_by}
use Rattle.mdp_pipeline.specs.Output.{Begins, BeginsByLine, Prints, PrintsByLine, end_lines, shown_output, standing_in}
use Rattle.mdp_pipeline.specs.Running.{BeginsAll, PrintsAll}
use Rattle.mdp_arbiter.specs.Machine.{stands_after}
use Rattle.mdp_arbiter.specs.declared.arbiter.Standing.{Standing}

-- ---- the records of one feed

abbrev AreOther : Feed → List Arrival → Type 0
AreOther feed xs = AllByRecursion (λ (x : Arrival). is_on feed x ≡ false) xs

drops : (feed : Feed) (x : Arrival) (xs : List Arrival) → is_on feed x ≡ false → filter (is_on feed) (x ∷ xs) ≡ filter (is_on feed) xs
drops feed x xs other = ap (λ (b : Bool). cond b (x ∷ filter (is_on feed) xs) (filter (is_on feed) xs)) other

none_of : (feed : Feed) (xs : List Arrival) → AreOther feed xs → filter (is_on feed) xs ≡ []
none_of feed [] others = refl
none_of feed (x ∷ xs) others = drops feed x xs others.0 ∙ none_of feed xs others.1

with_first : (feed : Feed) (x : Arrival) (xs ys : List Arrival) → filter (is_on feed) xs ≡ filter (is_on feed) ys → filter (is_on feed) (x ∷ xs) ≡ filter (is_on feed) (x ∷ ys)
with_first feed x xs ys same = ap (λ (t : List Arrival). cond (is_on feed x) (x ∷ t) t) same

by_case : (feed : Feed) (b : Bool) (xs ys zs : List Arrival) → filter (is_on feed) xs ≡ zs → filter (is_on feed) ys ≡ zs → filter (is_on feed) (cond b xs ys) ≡ zs
by_case feed true xs ys zs one other = one
by_case feed false xs ys zs one other = other

-- those of a feed that the second list lacks
of_first : (feed : Feed) (xs ys : List Arrival) → AreOther feed ys → filter (is_on feed) (by_line xs ys) ≡ filter (is_on feed) xs
of_first feed [] ys others = none_of feed ys others
of_first feed (x ∷ xs) [] others = refl
of_first feed (x ∷ xs) (y ∷ ys) others =
    by_case feed (nat_le x.entry.line y.entry.line) (x ∷ by_line xs (y ∷ ys)) (y ∷ by_line (x ∷ xs) ys) (filter (is_on feed) (x ∷ xs))
    (with_first feed x (by_line xs (y ∷ ys)) xs (of_first feed xs (y ∷ ys) others))
    (drops feed y (by_line (x ∷ xs) ys) others.0 ∙ of_first feed (x ∷ xs) ys others.1)

-- those of a feed that the first list lacks
of_second : (feed : Feed) (xs ys : List Arrival) → AreOther feed xs → filter (is_on feed) (by_line xs ys) ≡ filter (is_on feed) ys
of_second feed [] ys others = refl
of_second feed (x ∷ xs) [] others = none_of feed (x ∷ xs) others
of_second feed (x ∷ xs) (y ∷ ys) others =
    by_case feed (nat_le x.entry.line y.entry.line) (x ∷ by_line xs (y ∷ ys)) (y ∷ by_line (x ∷ xs) ys) (filter (is_on feed) (y ∷ ys))
    (drops feed x (by_line xs (y ∷ ys)) others.0 ∙ of_second feed xs (y ∷ ys) others.1)
    (with_first feed y (by_line (x ∷ xs) ys) ys (of_second feed (x ∷ xs) ys others))

others_of : (feed other : Feed) (records : List RecordContent) → (feed_letter other == feed_letter feed) ≡ false → AreOther feed (arrivals other records)
others_of feed other [] differ = tt
others_of feed other (r ∷ records) differ = (differ, others_of feed other records differ)

all_of : (feed : Feed) (records : List RecordContent) → (feed_letter feed == feed_letter feed) ≡ true → filter (is_on feed) (arrivals feed records) ≡ arrivals feed records
all_of feed [] same = refl
all_of feed (r ∷ records) same =
    let x : Arrival = record { feed = feed; entry = r } in
    ap (λ (b : Bool). cond b (x ∷ filter (is_on feed) (arrivals feed records)) (filter (is_on feed) (arrivals feed records))) same
    ∙ ap (λ (t : List Arrival). x ∷ t) (all_of feed records same)

others_by_line : (feed : Feed) (xs ys : List Arrival) → AreOther feed xs → AreOther feed ys → AreOther feed (by_line xs ys)
others_by_line feed [] ys left right = right
others_by_line feed (x ∷ xs) [] left right = left
others_by_line feed (x ∷ xs) (y ∷ ys) left right =
    by_first (nat_le x.entry.line y.entry.line) (left.0, others_by_line feed xs (y ∷ ys) left.1 right) (right.0, others_by_line feed (x ∷ xs) ys left right.1)
  where
    by_first : (b : Bool) → AreOther feed (x ∷ by_line xs (y ∷ ys)) → AreOther feed (y ∷ by_line (x ∷ xs) ys) → AreOther feed (cond b (x ∷ by_line xs (y ∷ ys)) (y ∷ by_line (x ∷ xs) ys))
    by_first true one other = one
    by_first false one other = other

a_of : (records : FeedRecords) → filter (is_on feeds.A) (in_order records) ≡ arrivals feeds.A records.a
a_of records =
    of_first feeds.A (by_line (arrivals feeds.A records.a) (arrivals feeds.B records.b)) (arrivals feeds.S records.s) (others_of feeds.A feeds.S records.s refl)
    ∙ of_first feeds.A (arrivals feeds.A records.a) (arrivals feeds.B records.b) (others_of feeds.A feeds.B records.b refl)
    ∙ all_of feeds.A records.a refl

b_of : (records : FeedRecords) → filter (is_on feeds.B) (in_order records) ≡ arrivals feeds.B records.b
b_of records =
    of_first feeds.B (by_line (arrivals feeds.A records.a) (arrivals feeds.B records.b)) (arrivals feeds.S records.s) (others_of feeds.B feeds.S records.s refl)
    ∙ of_second feeds.B (arrivals feeds.A records.a) (arrivals feeds.B records.b) (others_of feeds.B feeds.A records.a refl)
    ∙ all_of feeds.B records.b refl

s_of : (records : FeedRecords) → filter (is_on feeds.S) (in_order records) ≡ arrivals feeds.S records.s
s_of records =
    of_second feeds.S (by_line (arrivals feeds.A records.a) (arrivals feeds.B records.b)) (arrivals feeds.S records.s)
    (others_by_line feeds.S (arrivals feeds.A records.a) (arrivals feeds.B records.b) (others_of feeds.S feeds.A records.a refl) (others_of feeds.S feeds.B records.b refl))
    ∙ all_of feeds.S records.s refl

-- ---- an order of all records

-- of each feed its own records stand there, in their order, and nothing else does
pub record KeepsFeeds (order : List Arrival) (records : FeedRecords) : Type 0 where
  pub a : filter (is_on feeds.A) order ≡ arrivals feeds.A records.a
  pub b : filter (is_on feeds.B) order ≡ arrivals feeds.B records.b
  pub s : filter (is_on feeds.S) order ≡ arrivals feeds.S records.s

by_line_keeps : (records : FeedRecords) → KeepsFeeds (in_order records) records
by_line_keeps records = record { a = a_of records; b = b_of records; s = s_of records }

-- ---- their readings

arrived : (feed : Feed) (readings : List Reading) → map (λ (r : Reading). r.arrival) (readings_on feed readings) ≡ filter (is_on feed) (map (λ (r : Reading). r.arrival) readings)
arrived feed [] = refl
arrived feed (r ∷ readings) = by_case_of (is_on feed r.arrival) (arrived feed readings)
  where
    of_rest : List Arrival
    of_rest = filter (is_on feed) (map (λ (r : Reading). r.arrival) readings)

    by_case_of : (b : Bool) → map (λ (r : Reading). r.arrival) (readings_on feed readings) ≡ of_rest → map (λ (r : Reading). r.arrival) (cond b (r ∷ readings_on feed readings) (readings_on feed readings)) ≡ cond b (r.arrival ∷ of_rest) of_rest
    by_case_of true later = ap (λ (t : List Arrival). r.arrival ∷ t) later
    by_case_of false later = later

each_on : (feed : Feed) (readings : List Reading) → AllByRecursion IsReading readings → AllByRecursion IsReading (readings_on feed readings)
each_on feed [] each = tt
each_on feed (r ∷ readings) each = by_case_of (is_on feed r.arrival) (each_on feed readings each.1)
  where
    by_case_of : (b : Bool) → AllByRecursion IsReading (readings_on feed readings) → AllByRecursion IsReading (cond b (r ∷ readings_on feed readings) (readings_on feed readings))
    by_case_of true later = (each.0, later)
    by_case_of false later = later

read_on : (feed : Feed) (all mine : List Arrival) (readings : List Reading) → filter (is_on feed) all ≡ mine → AreReadings all readings → AreReadings mine (readings_on feed readings)
read_on feed all mine readings same are = record {
  of = arrived feed readings ∙ ap (filter (is_on feed)) are.of ∙ same;
  each = each_on feed readings are.each;
}

are_by_feed : (order : List Arrival) (records : FeedRecords) (readings : List Reading) → KeepsFeeds order records → AreReadings order readings → AreReadingsOf records (by_feed readings)
are_by_feed order records readings keeps are = record {
  a_are = read_on feeds.A order (arrivals feeds.A records.a) readings keeps.a are;
  b_are = read_on feeds.B order (arrivals feeds.B records.b) readings keeps.b are;
  s_are = read_on feeds.S order (arrivals feeds.S records.s) readings keeps.s are;
}

-- ---- their events

events_tagged : (readings : List Reading) → events_in (flat_map tagged_by readings) ≡ events_of readings
events_tagged [] = refl
events_tagged (r ∷ readings) =
    map-append (λ (t : Tagged). t.event) (tagged_by r) (flat_map tagged_by readings)
    ∙ ap (λ (t : List Event). t ++ events_in (flat_map tagged_by readings)) (untagged (brought_by r.said))
    ∙ ap (λ (t : List Event). brought_by r.said ++ t) (events_tagged readings)
  where
    untagged : (es : List Event) → events_in (map (λ (e : Event). record { feed = r.arrival.feed; event = e }) es) ≡ es
    untagged [] = refl
    untagged (e ∷ es) = ap (λ (t : List Event). e ∷ t) (untagged es)

-- all of a record's events are of its feed
one_record : (feed from : Feed) (es : List Event) (b : Bool) → (feed_letter from == feed_letter feed) ≡ b → events_from feed (map (λ (e : Event). record { feed = from; event = e }) es) ≡ cond b es []
one_record feed from [] true is = refl
one_record feed from [] false is = refl
one_record feed from (e ∷ es) true is =
    let t : Tagged = record { feed = from; event = e } in
    let rest : List Tagged = filter (is_from feed) (map (λ (e : Event). record { feed = from; event = e }) es) in
    ap (λ (b : Bool). events_in (cond b (t ∷ rest) rest)) is ∙ ap (λ (x : List Event). e ∷ x) (one_record feed from es true is)
one_record feed from (e ∷ es) false is =
    let t : Tagged = record { feed = from; event = e } in
    let rest : List Tagged = filter (is_from feed) (map (λ (e : Event). record { feed = from; event = e }) es) in
    ap (λ (b : Bool). events_in (cond b (t ∷ rest) rest)) is ∙ one_record feed from es false is

events_on : (feed : Feed) (readings : List Reading) → events_from feed (flat_map tagged_by readings) ≡ events_of (readings_on feed readings)
events_on feed [] = refl
events_on feed (r ∷ readings) =
    ap events_in (filter-append (is_from feed) (tagged_by r) (flat_map tagged_by readings))
    ∙ map-append (λ (t : Tagged). t.event) (filter (is_from feed) (tagged_by r)) (filter (is_from feed) (flat_map tagged_by readings))
    ∙ ap (λ (t : List Event). t ++ events_from feed (flat_map tagged_by readings)) (one_record feed r.arrival.feed (brought_by r.said) (is_on feed r.arrival) refl)
    ∙ ap (λ (t : List Event). cond (is_on feed r.arrival) (brought_by r.said) [] ++ t) (events_on feed readings)
    ∙ joined (is_on feed r.arrival)
  where
    joined : (b : Bool) → cond b (brought_by r.said) [] ++ events_of (readings_on feed readings) ≡ events_of (cond b (r ∷ readings_on feed readings) (readings_on feed readings))
    joined true = refl
    joined false = refl

merges_by_feed : (readings : List Reading) → IsMerge (by_feed readings) (flat_map tagged_by readings)
merges_by_feed readings = record { a = events_on feeds.A readings; b = events_on feeds.B readings; s = events_on feeds.S readings }

-- ---- the text

-- what all records print in one order is what their merge in that order prints, and what is owed under a complete feed
prints_merge : (channel : ListedChannel) (order : List Arrival) (records : FeedRecords) (text : List ℕ) (standing : Standing) → KeepsFeeds order records
    → (all : PrintsAll channel order text standing) → Prints channel records (flat_map tagged_by all.readings) text standing
prints_merge channel order records text standing keeps all =
    let readings = all.readings in
    let same : events_of readings ≡ events_in (flat_map tagged_by readings) = sym (events_tagged readings) in
    record {
      readings = by_feed readings;
      are = are_by_feed order records readings keeps all.are;
      merges = merges_by_feed readings;
      standing_is = all.standing_is ∙ ap (stands_after channel) same;
      shown = all.shown ∙ ap (λ (es : List Event). shown_output channel (refusals_text (by_feed readings)) es) same;
      owed = λ feed honest.
          let es : List Event = events_in (flat_map tagged_by readings) in
          all.shown
          ∙ ap (λ (es : List Event). shown_output channel (refusals_text (by_feed readings)) es) same
          ∙ ap (λ (t : List ℕ). t ++ end_lines channel (refusals_text (by_feed readings)) es) (ap text_of_moments (law_of_honest_moments channel feed es honest));
    }

pub prints_in_order : (channel : ListedChannel) (order : List Arrival) (records : FeedRecords) (text : List ℕ) (standing : Standing) → KeepsFeeds order records
    → PrintsAll channel order text standing → (merge : List Tagged) × IsInOrder order merge × Prints channel records merge text standing
prints_in_order channel order records text standing keeps all =
    (flat_map tagged_by all.readings, (all.readings, all.are, refl), prints_merge channel order records text standing keeps all)

pub begins_in_order : (channel : ListedChannel) (order : List Arrival) (records : FeedRecords) (start taken : List ℕ) → KeepsFeeds order records
    → BeginsAll channel order start taken → (merge : List Tagged) × IsInOrder order merge × Begins channel records merge start taken
begins_in_order channel order records start taken keeps all = (
  flat_map tagged_by all.prints.readings,
  (all.prints.readings, all.prints.are, refl),
  record {
    text = all.text;
    standing = all.standing;
    prints = prints_merge channel order records all.text all.standing keeps all.prints;
    sent = all.sent;
    rest = all.rest;
    taken_is = all.taken_is;
    whole = all.whole;
  },
)

-- ---- in the order of the lines

prints_by_line : (channel : ListedChannel) (records : FeedRecords) (text : List ℕ) (standing : Standing) → PrintsAll channel (in_order records) text standing → PrintsByLine channel records text standing
prints_by_line channel records text standing all = prints_in_order channel (in_order records) records text standing (by_line_keeps records) all

pub begins_by_line : (channel : ListedChannel) (records : FeedRecords) (start taken : List ℕ) → BeginsAll channel (in_order records) start taken → BeginsByLine channel records start taken
begins_by_line channel records start taken all = begins_in_order channel (in_order records) records start taken (by_line_keeps records) all

-- ---- what a run answers

pub ended_by_line : (channel : ListedChannel) (records : FeedRecords) (start after : List ℕ) (result : Result Summary RunFault)
    → IfOk result (λ (summary : Summary). (text : List ℕ) × (after ≡ start ++ text) × PrintsAll channel (in_order records) text (standing_in summary))
    → IfOk result (λ (summary : Summary). (text : List ℕ) × (after ≡ start ++ text) × PrintsByLine channel records text (standing_in summary))
ended_by_line channel records start after (Ok summary) all = (all.0, all.1, prints_by_line channel records all.0 (standing_in summary) all.2)
ended_by_line channel records start after (Err fault) all = tt

pub failed_by_line : (channel : ListedChannel) (records : FeedRecords) (start after : List ℕ) (result : Result Summary RunFault)
    → IfErr result (λ (fault : RunFault). BeginsAll channel (in_order records) start after)
    → IfErr result (λ (fault : RunFault). BeginsByLine channel records start after)
failed_by_line channel records start after (Ok summary) all = tt
failed_by_line channel records start after (Err fault) all = begins_by_line channel records start after all
