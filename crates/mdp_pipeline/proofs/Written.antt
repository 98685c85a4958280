-- What a run has written, record by record.
use Rattle.std.proofs.Common.{◌≡◌, ℕ, Bool, true, false, cond, List, [], ◌∷◌, ◌++◌, length, length-append, refl, sym, ap, subst, ◌∙◌, append_assoc, arith}
use Rattle.std.specs.Prelude.{Result, Ok, Err, IfOk, IfErr, ◌-◌}
use Rattle.std.specs.List.{AllByRecursion}
use Rattle.std.proofs.lemmas.List.{append-nil, map-append}
use Rattle.std.proofs.lemmas.List.Elements.{filter-append}
use Rattle.std.proofs.lemmas.List.Concat.{flat_map-append}
use Rattle.mdp_templates.specs.declared.feed.Feed.{Feed}
use Rattle.mdp_templates.specs.declared.feed.Feed.TheVariants as feeds
use Rattle.mdp_capture.specs.Record.{RecordContent}
use Rattle.mdp_arbiter.specs.Channel.{ListedChannel}
use Rattle.mdp_arbiter.specs.Accepted.{Event}
use Rattle.mdp_engine.specs.Engine.{Stands}
use Rattle.mdp_pipeline.specs.declared.progress.Run.{Run}
use Rattle.mdp_pipeline.specs.declared.summary.Summary.{Summary}
use Rattle.mdp_crew.specs.declared.fault.RunFault.{RunFault}
use Rattle.mdp_print.specs.Written.{HasCounted}
use Rattle.mdp_crew.specs.Faults.{written_before}
use Rattle.mdp_crew.specs.Outlets.{Outlet}
use Rattle.mdp_pipeline.specs.Merge.{Arrival, FeedRecords, in_order}
use Rattle.mdp_pipeline.specs.Reading.{Reading, IsReading, AreReadings, events_of, is_on, readings_on, refusal_lines, refusal_text}
use Rattle.mdp_receiver.specs.Said.{Said, brings, refused, brought_by, kind_of, refusal_in}
use Rattle.mdp_pipeline.specs.RefusalTexts.{RefusalTexts, with_told}
use Rattle.mdp_pipeline.specs.Running.{BeginsAll, EndsAs, EndsEarly, HasRun, HasWritten, PrintsAll, TakesAs, Writes, joined_texts, refusals_of}
use Rattle.mdp_pipeline.proofs.Ending.{begins_all, prints_all, writes_shown}
use Rattle.mdp_pipeline.specs.Output.{BeginsByLine, PrintsByLine, SaysAll, SaysSome, standing_in}

-- ---- a reading more

abbrev pub reading_of : Arrival → Said → Reading
reading_of arrival said = record { arrival = arrival; said = said }

each-push : (readings : List Reading) (reading : Reading) → AllByRecursion IsReading readings → IsReading reading → AllByRecursion IsReading (readings ++ reading ∷ [])
each-push [] reading each is = (is, tt)
each-push (r ∷ readings) reading each is = (each.0, each-push readings reading each.1 is)

pub readings-push : (arrivals : List Arrival) (readings : List Reading) (reading : Reading) → AreReadings arrivals readings → IsReading reading → AreReadings (arrivals ++ reading.arrival ∷ []) (readings ++ reading ∷ [])
readings-push arrivals readings reading are is = record {
  of = map-append (λ (r : Reading). r.arrival) readings (reading ∷ []) ∙ ap (λ (t : List Arrival). t ++ reading.arrival ∷ []) are.of;
  each = each-push readings reading are.each is;
}

pub events-push : (readings : List Reading) (reading : Reading) → events_of (readings ++ reading ∷ []) ≡ events_of readings ++ brought_by reading.said
events-push readings reading =
    flat_map-append (λ (r : Reading). brought_by r.said) readings (reading ∷ [])
    ∙ ap (λ (t : List Event). events_of readings ++ t) (append-nil (brought_by reading.said))

-- the lines of one feed
line_if : (reading : Reading) (b : Bool) → refusal_lines (cond b (reading ∷ []) []) ≡ cond b (refusal_text reading.arrival.feed reading.arrival.entry.line reading.said) []
line_if reading true = append-nil (refusal_text reading.arrival.feed reading.arrival.entry.line reading.said)
line_if reading false = refl

lines-push : (feed : Feed) (readings : List Reading) (reading : Reading) → refusal_lines (readings_on feed (readings ++ reading ∷ [])) ≡ refusal_lines (readings_on feed readings) ++ cond (is_on feed reading.arrival) (refusal_text reading.arrival.feed reading.arrival.entry.line reading.said) []
lines-push feed readings reading =
    ap refusal_lines (filter-append (λ (r : Reading). is_on feed r.arrival) readings (reading ∷ []))
    ∙ flat_map-append (λ (r : Reading). refusal_text r.arrival.feed r.arrival.entry.line r.said) (readings_on feed readings) (readings_on feed (reading ∷ []))
    ∙ ap (λ (t : List ℕ). refusal_lines (readings_on feed readings) ++ t) (line_if reading (is_on feed reading.arrival))

nothing_if : (text : List ℕ) (b : Bool) → text ++ cond b [] [] ≡ text
nothing_if text true = append-nil text
nothing_if text false = append-nil text

same_texts : (a b s a' b' s' : List ℕ) → a ≡ a' → b ≡ b' → s ≡ s' → (let t : RefusalTexts = record { a = a; b = b; s = s } in t) ≡ record { a = a'; b = b'; s = s' }
same_texts a b s a' b' s' p q r = rw (p, q, r) refl

refusals-push : (readings : List Reading) (feed : Feed) (entry : RecordContent) (said : Said) → refusals_of (readings ++ reading_of (record { feed = feed; entry = entry }) said ∷ []) ≡ with_told feed entry.line (refusal_in said) (refusals_of readings)
refusals-push readings feed entry (brings events) =
    let r = reading_of (record { feed = feed; entry = entry }) (brings events) in
    same_texts _ _ _ _ _ _
    (lines-push feeds.A readings r ∙ nothing_if (refusal_lines (readings_on feeds.A readings)) (is_on feeds.A r.arrival))
    (lines-push feeds.B readings r ∙ nothing_if (refusal_lines (readings_on feeds.B readings)) (is_on feeds.B r.arrival))
    (lines-push feeds.S readings r ∙ nothing_if (refusal_lines (readings_on feeds.S readings)) (is_on feeds.S r.arrival))
refusals-push readings feeds.A entry (refused refusal) =
    let r = reading_of (record { feed = feeds.A; entry = entry }) (refused refusal) in
    same_texts _ _ _ _ _ _ (lines-push feeds.A readings r) (lines-push feeds.B readings r ∙ append-nil (refusal_lines (readings_on feeds.B readings))) (lines-push feeds.S readings r ∙ append-nil (refusal_lines (readings_on feeds.S readings)))
refusals-push readings feeds.B entry (refused refusal) =
    let r = reading_of (record { feed = feeds.B; entry = entry }) (refused refusal) in
    same_texts _ _ _ _ _ _ (lines-push feeds.A readings r ∙ append-nil (refusal_lines (readings_on feeds.A readings))) (lines-push feeds.B readings r) (lines-push feeds.S readings r ∙ append-nil (refusal_lines (readings_on feeds.S readings)))
refusals-push readings feeds.S entry (refused refusal) =
    let r = reading_of (record { feed = feeds.S; entry = entry }) (refused refusal) in
    same_texts _ _ _ _ _ _ (lines-push feeds.A readings r ∙ append-nil (refusal_lines (readings_on feeds.A readings))) (lines-push feeds.B readings r ∙ append-nil (refusal_lines (readings_on feeds.B readings))) (lines-push feeds.S readings r)

-- a record more
pub read_more : {A : Type 0} (channel : ListedChannel) (readings : List Reading) (feed : Feed) (entry : RecordContent) (sent : List ℕ) (old new : Run A)
    → (takes : TakesAs (kind_of feed) (record { feed = feed; entry = entry }) old new) → HasRun channel readings sent old
    → HasRun channel (readings ++ reading_of (record { feed = feed; entry = entry }) takes.said ∷ []) sent new
read_more channel readings feed entry sent old new takes run =
    let reading = reading_of (record { feed = feed; entry = entry }) takes.said in
    record {
      stands = record {
        gone = run.stands.gone;
        stands = subst (λ (es : List Event). Stands channel.listed es run.stands.gone new.handler) (sym (events-push readings reading)) (takes.takes.goes.stands channel.listed (events_of readings) run.stands.gone run.stands.stands);
        keeps = takes.takes.goes.keeps ∙ run.stands.keeps;
        sent_is = run.stands.sent_is;
      };
      channel_is = takes.takes.goes.channel ∙ run.channel_is;
      refusals_are = takes.takes.refusals ∙ ap (with_told feed entry.line (refusal_in takes.said)) run.refusals_are ∙ sym (refusals-push readings feed entry takes.said);
    }

-- ---- what went out

pub writes_none : {A : Type 0} (channel : ListedChannel) (taken : List ℕ) (run : Run A) → HasRun channel [] [] run → Writes channel [] taken taken run
writes_none channel taken run has = record {
  sent = [];
  taken_is = sym (append-nil taken);
  over = record { readings = []; are = record { of = refl; each = tt }; run = has };
}

pub writes_more : {A : Type 0} (channel : ListedChannel) (arrivals : List Arrival) (feed : Feed) (entry : RecordContent) (start taken : List ℕ) (old new : Run A)
    → TakesAs (kind_of feed) (record { feed = feed; entry = entry }) old new → Writes channel arrivals start taken old
    → Writes channel (arrivals ++ (record { feed = feed; entry = entry }) ∷ []) start taken new
writes_more channel arrivals feed entry start taken old new takes so_far = record {
  sent = so_far.sent;
  taken_is = so_far.taken_is;
  over = record {
    readings = so_far.over.readings ++ reading_of (record { feed = feed; entry = entry }) takes.said ∷ [];
    are = readings-push arrivals so_far.over.readings (reading_of (record { feed = feed; entry = entry }) takes.said) so_far.over.are takes.says;
    run = read_more channel so_far.over.readings feed entry so_far.sent old new takes so_far.over.run;
  };
}

-- ---- the records that are left

-- the records so far, in the order of their lines, and what was written of them
pub record HasTaken {A : Type 0} (channel : ListedChannel) (records : FeedRecords) (start taken : List ℕ) (run : Run A) (ahead : FeedRecords) : Type 0 where
  pub done : List Arrival
  pub left : in_order records ≡ done ++ in_order ahead
  pub writes : Writes channel done start taken run

pub taken_none : {A : Type 0} (channel : ListedChannel) (records : FeedRecords) (taken : List ℕ) (run : Run A) → HasRun channel [] [] run
    → HasTaken channel records taken taken run records
taken_none channel records taken run has = record { done = []; left = refl; writes = writes_none channel taken run has }

pub taken_more : {A : Type 0} (channel : ListedChannel) (records : FeedRecords) (start taken taken' : List ℕ) (old new sent : Run A) (ahead ahead' : FeedRecords) (feed : Feed) (entry : RecordContent)
    → in_order ahead ≡ (record { feed = feed; entry = entry }) ∷ in_order ahead'
    → TakesAs (kind_of feed) (record { feed = feed; entry = entry }) old new
    → ((arrivals : List Arrival) → Writes channel arrivals start taken new → Writes channel arrivals start taken' sent)
    → HasTaken channel records start taken old ahead
    → HasTaken channel records start taken' sent ahead'
taken_more channel records start taken taken' old new sent ahead ahead' feed entry next takes goes_out so_far =
    let arrival : Arrival = record { feed = feed; entry = entry } in
    record {
      done = so_far.done ++ arrival ∷ [];
      left = so_far.left ∙ ap (λ (t : List Arrival). so_far.done ++ t) next ∙ sym (append_assoc so_far.done (arrival ∷ []) (in_order ahead'));
      writes = goes_out (so_far.done ++ arrival ∷ []) (writes_more channel so_far.done feed entry start taken old new takes so_far.writes);
    }

pub taken_all : {A : Type 0} (channel : ListedChannel) (records : FeedRecords) (start taken : List ℕ) (run : Run A) (ahead : FeedRecords) → in_order ahead ≡ []
    → HasTaken channel records start taken run ahead → Writes channel (in_order records) start taken run
taken_all channel records start taken run ahead none so_far =
    let all : in_order records ≡ so_far.done = so_far.left ∙ ap (λ (t : List Arrival). so_far.done ++ t) none ∙ append-nil so_far.done in
    subst (λ (arrivals : List Arrival). Writes channel arrivals start taken run) (sym all) so_far.writes

-- ---- how much went out

counted_after : (start sent taken : List ℕ) (since written : ℕ) → since ≡ length start → taken ≡ start ++ sent → written ≡ length taken - since → HasCounted start taken written
counted_after start sent taken since written begun went is = omega (arith, begun, ap length went, length-append start sent, is)

-- a run has ended, over threads or on one
pub ended_counted : (channel : ListedChannel) (records : FeedRecords) (old new : Outlet) (since : ℕ) (result : Result Summary RunFault) → since ≡ length old.taken
    → IfOk result (λ (summary : Summary). SaysAll channel records old new (standing_in summary))
    → IfOk result (λ (summary : Summary). summary.written ≡ length new.taken - since) → IfOk result (λ (summary : Summary). HasCounted old.taken new.taken summary.written)
ended_counted channel records old new since (Ok summary) begun says is = counted_after old.taken says.0 new.taken since summary.written begun says.2 is
ended_counted channel records old new since (Err fault) begun says is = tt

pub stopped_counted : (channel : ListedChannel) (records : FeedRecords) (old new : Outlet) (since : ℕ) (result : Result Summary RunFault) → since ≡ length old.taken
    → IfErr result (λ (fault : RunFault). SaysSome channel records old new)
    → IfErr result (λ (fault : RunFault). written_before fault ≡ length new.taken - since) → IfErr result (λ (fault : RunFault). HasCounted old.taken new.taken (written_before fault))
stopped_counted channel records old new since (Ok summary) begun says is = tt
stopped_counted channel records old new since (Err fault) begun says is =
    counted_after old.taken says.2.1.sent new.taken since (written_before fault) begun says.2.1.taken_is is

pub printed_counted : (channel : ListedChannel) (records : FeedRecords) (start taken : List ℕ) (since : ℕ) (result : Result Summary RunFault) → since ≡ length start
    → IfOk result (λ (summary : Summary). (text : List ℕ) × (taken ≡ start ++ text) × PrintsByLine channel records text (standing_in summary))
    → IfOk result (λ (summary : Summary). summary.written ≡ length taken - since) → IfOk result (λ (summary : Summary). HasCounted start taken summary.written)
printed_counted channel records start taken since (Ok summary) begun prints is = counted_after start prints.0 taken since summary.written begun prints.1 is
printed_counted channel records start taken since (Err fault) begun prints is = tt

pub begun_counted : (channel : ListedChannel) (records : FeedRecords) (start taken : List ℕ) (since : ℕ) (fault : RunFault) → since ≡ length start
    → BeginsByLine channel records start taken → written_before fault ≡ length taken - since → HasCounted start taken (written_before fault)
begun_counted channel records start taken since fault begun begins is = counted_after start begins.2.sent taken since (written_before fault) begun begins.2.taken_is is

pub failed_counted : (channel : ListedChannel) (records : FeedRecords) (start taken : List ℕ) (since : ℕ) (result : Result Summary RunFault) → since ≡ length start
    → IfErr result (λ (fault : RunFault). BeginsByLine channel records start taken)
    → IfErr result (λ (fault : RunFault). written_before fault ≡ length taken - since) → IfErr result (λ (fault : RunFault). HasCounted start taken (written_before fault))
failed_counted channel records start taken since (Ok summary) begun begins is = tt
failed_counted channel records start taken since (Err fault) begun begins is = begun_counted channel records start taken since fault begun begins is

-- a run over all records has ended
pub run_printed : {A : Type 0} (channel : ListedChannel) (arrivals : List Arrival) (start taken after : List ℕ) (run : Run A) (result : Result Summary RunFault)
    → IfOk result (λ (summary : Summary). (channel : ListedChannel) (events : List Event) (start : List ℕ) → HasWritten channel events start taken run.handler
    → (text : List ℕ) × (after ≡ start ++ text) × EndsAs channel events (joined_texts run.refusals) text (standing_in summary))
    → Writes channel arrivals start taken run
    → IfOk result (λ (summary : Summary). (text : List ℕ) × (after ≡ start ++ text) × PrintsAll channel arrivals text (standing_in summary))
run_printed channel arrivals start taken after run (Ok summary) ends so_far =
    prints_all channel arrivals start taken after run (standing_in summary) so_far
    (ends channel (events_of so_far.over.readings) start (writes_shown channel arrivals start taken run so_far))
run_printed channel arrivals start taken after run (Err fault) ends so_far = tt

pub run_begins : {A : Type 0} (channel : ListedChannel) (arrivals : List Arrival) (start taken after : List ℕ) (run : Run A) (result : Result Summary RunFault)
    → IfErr result (λ (fault : RunFault). (channel : ListedChannel) (events : List Event) (start : List ℕ) → HasWritten channel events start taken run.handler
    → EndsEarly channel events (joined_texts run.refusals) start after)
    → Writes channel arrivals start taken run
    → IfErr result (λ (fault : RunFault). BeginsAll channel arrivals start after)
run_begins channel arrivals start taken after run (Ok summary) ends so_far = tt
run_begins channel arrivals start taken after run (Err fault) ends so_far =
    begins_all channel arrivals start taken after run so_far
    (ends channel (events_of so_far.over.readings) start (writes_shown channel arrivals start taken run so_far))
