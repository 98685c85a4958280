-- What went out before a run ended early.
use Rattle.std.proofs.Common.{◌≡◌, ℕ, List, [], ◌∷◌, ◌++◌, map, take, drop, refl, sym, ap, subst, ◌∙◌, append_assoc}
use Rattle.std.specs.List.{AllByRecursion}
use Rattle.std.proofs.lemmas.List.{append-nil, map-append, take-append-drop}
use Rattle.std.proofs.lemmas.List.Concat.{flat_map-append}
use Rattle.mdp_templates.specs.Refused.{FeedKind as Kind}
use Rattle.mdp_templates.specs.Refused.FeedKind.{incremental, recovery}
use Rattle.mdp_templates.specs.declared.feed.Feed.{Feed}
use Rattle.mdp_capture.specs.Record.{RecordContent, Received, Datagram, Close}
use Rattle.mdp_arbiter.specs.Accepted.{Event, closed}
use Rattle.mdp_arbiter.specs.Machine.{go_on, moves_of, stands_after, state_at, trace}
use Rattle.mdp_arbiter.specs.Channel.{Channel, ListedChannel, channel_of}
use Rattle.mdp_arbiter.proofs.Runs.{law_of_fronts}
use Rattle.mdp_desks.specs.Moments.{moments_after, shown_lines, text_of_moments}
use Rattle.mdp_engine.proofs.Owing.{text_so_far}
use Rattle.mdp_pipeline.specs.declared.progress.Run.{Run}
use Rattle.mdp_pipeline.specs.Merge.{Arrival, FeedRecords, in_order}
use Rattle.mdp_pipeline.specs.Reading.{Reading, Says, IsReading, AreReadings, by_feed, events_of, refusals_text}
use Rattle.mdp_receiver.proofs.Breaking.{datagram_says}
use Rattle.mdp_receiver.specs.Said.{Said, brings, brought_by, kind_of}
use Rattle.mdp_pipeline.specs.Output.{end_lines, shown_output}
use Rattle.mdp_pipeline.specs.Running.{BeginsAll, PrintsAll, TakesAs, Writes}
use Rattle.mdp_desks.proofs.Moments.{shown_lines-append}
use Rattle.mdp_pipeline.proofs.Written.{HasTaken, taken_more}

-- ---- what records say that were not reached

-- each record says something
says_something : (kind : Kind) (received : Received) → (said : Said) × Says kind received said
says_something kind (Datagram bytes) = datagram_says kind bytes
says_something incremental Close = (brings [], refl)
says_something recovery Close = (brings (closed ∷ []), refl)

pub readings_exist : (arrivals : List Arrival) → (readings : List Reading) × AreReadings arrivals readings
readings_exist [] = ([], record { of = refl; each = tt })
readings_exist (arrival ∷ arrivals) =
    let here = says_something (kind_of arrival.feed) arrival.entry.received in
    let later = readings_exist arrivals in
    let reading : Reading = record { arrival = arrival; said = here.0 } in
    (reading ∷ later.0, record { of = ap (λ (t : List Arrival). arrival ∷ t) later.1.of; each = (here.1, later.1.each) })

each-append : (readings more : List Reading) → AllByRecursion IsReading readings → AllByRecursion IsReading more → AllByRecursion IsReading (readings ++ more)
each-append [] more each later = later
each-append (r ∷ readings) more each later = (each.0, each-append readings more each.1 later)

pub readings-append : (arrivals left : List Arrival) (readings more : List Reading) → AreReadings arrivals readings → AreReadings left more → AreReadings (arrivals ++ left) (readings ++ more)
readings-append arrivals left readings more are later = record {
  of =
      map-append (λ (r : Reading). r.arrival) readings more
      ∙ ap (λ (t : List Arrival). t ++ map (λ (r : Reading). r.arrival) more) are.of
      ∙ ap (λ (t : List Arrival). arrivals ++ t) later.of;
  each = each-append readings more are.each later.each;
}

-- ---- the text of the whole

abbrev end_of : ListedChannel → List Reading → List ℕ
end_of channel readings = end_lines channel (refusals_text (by_feed readings)) (events_of readings)

abbrev text_of : ListedChannel → List Reading → List ℕ
text_of channel readings = shown_output channel (refusals_text (by_feed readings)) (events_of readings)

text_prints : (channel : ListedChannel) (arrivals : List Arrival) (readings : List Reading) → AreReadings arrivals readings
    → PrintsAll channel arrivals (text_of channel readings) (stands_after channel (events_of readings))
text_prints channel arrivals readings are = record { readings = readings; are = are; standing_is = refl; shown = refl }

-- what is shown of the readings behind these ones
abbrev shown_later : ListedChannel → List Reading → List Reading → List ℕ
shown_later channel readings more =
    let moves = moves_of channel (events_of readings) in
    text_of_moments (moments_after channel.listed moves (go_on (channel_of channel) (events_of readings) (state_at (channel_of channel) (events_of readings)) (events_of more)))

shown-front : (channel : ListedChannel) (readings more : List Reading) → shown_lines channel.listed (moves_of channel (events_of (readings ++ more))) ≡ shown_lines channel.listed (moves_of channel (events_of readings)) ++ shown_later channel readings more
shown-front channel readings more =
    let es = events_of readings in
    let later = go_on (channel_of channel) es (state_at (channel_of channel) es) (events_of more) in
    ap (λ (t : List Event). shown_lines channel.listed (moves_of channel t)) (flat_map-append (λ (r : Reading). brought_by r.said) readings more)
    ∙ ap (shown_lines channel.listed) (law_of_fronts (channel_of channel) es (events_of more))
    ∙ shown_lines-append channel.listed (moves_of channel (events_of readings)) later

-- ---- a beginning

-- Nothing went out.
pub begins_none : (channel : ListedChannel) (arrivals : List Arrival) (taken : List ℕ) → BeginsAll channel arrivals taken taken
begins_none channel arrivals taken =
    let readings = readings_exist arrivals in
    record {
      text = text_of channel readings.0;
      standing = stands_after channel (events_of readings.0);
      prints = text_prints channel arrivals readings.0 readings.1;
      sent = [];
      rest = text_of channel readings.0;
      taken_is = sym (append-nil taken);
      whole = refl;
    }

-- the text of all readings, where so much was sent of what the first ones show, and so much is held
text_begins : (channel : ListedChannel) (readings more : List Reading) (sent held : List ℕ) (n : ℕ) → sent ++ held ≡ shown_lines channel.listed (moves_of channel (events_of readings))
    → text_of channel (readings ++ more) ≡ (sent ++ take n held) ++ (drop n held ++ (shown_later channel readings more ++ end_of channel (readings ++ more)))
text_begins channel readings more sent held n shown =
    let later = shown_later channel readings more in
    let end = end_of channel (readings ++ more) in
    ap (λ (t : List ℕ). t ++ end) (shown-front channel readings more)
    ∙ ap (λ (t : List ℕ). (t ++ later) ++ end) (sym shown)
    ∙ append_assoc (sent ++ held) later end
    ∙ ap (λ (t : List ℕ). (sent ++ t) ++ (later ++ end)) (sym (take-append-drop n held))
    ∙ ap (λ (t : List ℕ). t ++ (later ++ end)) (sym (append_assoc sent (take n held) (drop n held)))
    ∙ append_assoc (sent ++ take n held) (drop n held) (later ++ end)

-- The first records were taken, and of the text that is held so many bytes went out.
pub begins_so_far : {A : Type 0} (channel : ListedChannel) (arrivals done left : List Arrival) (start taken taken' : List ℕ) (run : Run A) (n : ℕ)
    → arrivals ≡ done ++ left → taken' ≡ taken ++ take n run.handler.held → Writes channel done start taken run → BeginsAll channel arrivals start taken'
begins_so_far channel arrivals done left start taken taken' run n parts went so_far =
    let readings = so_far.over.readings in
    let more = readings_exist left in
    let all = readings ++ more.0 in
    let over = so_far.over.run in
    let held = run.handler.held in
    let shown : so_far.sent ++ held ≡ shown_lines channel.listed (moves_of channel (events_of readings)) =
    ap (λ (t : List ℕ). t ++ held) over.stands.sent_is
    ∙ text_so_far channel.listed (events_of readings) over.stands.gone run.handler over.stands.keeps over.stands.stands
    ∙ ap (λ (c : Channel). shown_lines channel.listed (trace c (events_of readings))) over.channel_is in
    record {
      text = text_of channel all;
      standing = stands_after channel (events_of all);
      prints = text_prints channel arrivals all (subst (λ (t : List Arrival). AreReadings t all) (sym parts) (readings-append done left readings more.0 so_far.over.are more.1));
      sent = so_far.sent ++ take n held;
      rest = drop n held ++ (shown_later channel readings more.0 ++ end_of channel all);
      taken_is = went ∙ ap (λ (t : List ℕ). t ++ take n held) so_far.taken_is ∙ append_assoc start so_far.sent (take n held);
      whole = text_begins channel readings more.0 so_far.sent held n shown;
    }

-- ---- a run

-- a run whose records are not all taken
pub taken_begins : {A : Type 0} (channel : ListedChannel) (records : FeedRecords) (start taken : List ℕ) (run : Run A) (ahead : FeedRecords)
    → HasTaken channel records start taken run ahead → BeginsAll channel (in_order records) start taken
taken_begins channel records start taken run ahead so_far =
    begins_so_far channel (in_order records) so_far.done (in_order ahead) start taken taken run 0 so_far.left (sym (append-nil taken)) so_far.writes

-- a run whose text was to go out after one record more
pub piece_begins : {A : Type 0} (channel : ListedChannel) (records : FeedRecords) (start taken taken' : List ℕ) (old new : Run A) (ahead ahead' : FeedRecords) (feed : Feed) (entry : RecordContent) (n : ℕ)
    → in_order ahead ≡ (record { feed = feed; entry = entry }) ∷ in_order ahead'
    → TakesAs (kind_of feed) (record { feed = feed; entry = entry }) old new
    → taken' ≡ taken ++ take n new.handler.held
    → HasTaken channel records start taken old ahead
    → BeginsAll channel (in_order records) start taken'
piece_begins channel records start taken taken' old new ahead ahead' feed entry n next takes went so_far =
    let on = taken_more channel records start taken taken old new new ahead ahead' feed entry next takes (λ arrivals writes. writes) so_far in
    begins_so_far channel (in_order records) on.done (in_order ahead') start taken taken' new n on.left went on.writes
