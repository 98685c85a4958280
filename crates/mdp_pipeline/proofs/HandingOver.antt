-- What a reader has handed over, record by record.
use Rattle.std.proofs.Common.{◌≡◌, ℕ, ◌+◌, ◌<◌, Bool, true, false, List, [], ◌∷◌, ◌++◌, map, take, length, get_or, refl, sym, ap, subst, ◌∙◌, append_assoc}
use Rattle.std.specs.Prelude.{◌||◌, Result, Ok, Err, OnOk}
use Rattle.std.proofs.lemmas.List.{append-nil, map-append, take_more}
use Rattle.std.proofs.lemmas.List.Concat.{flat_map-append}
use Rattle.std.proofs.lemmas.List.Folds.{list_any-append}
use Rattle.mdp_templates.specs.declared.feed.Feed.{Feed}
use Rattle.mdp_templates.specs.Refused.{FeedKind as Kind}
use Rattle.mdp_templates.specs.Refused.FeedKind.{incremental, recovery}
use Rattle.mdp_capture.specs.Record.{Close, Received, RecordContent}
use Rattle.mdp_arbiter.specs.Accepted.{Event}
use Rattle.mdp_engine.specs.Steps.{event_of}
use Rattle.mdp_lanes.specs.Queues.{IntakeSenderView}
use Rattle.mdp_crew.specs.declared.batch.Batch.{Batch}
use Rattle.mdp_crew.specs.Batches.{all_events, batch_events}
use Rattle.mdp_pipeline.specs.declared.feed_reader.FeedReader.{FeedReader}
use Rattle.mdp_pipeline.specs.Merge.{Arrival, arrivals}
use Rattle.mdp_pipeline.specs.Reading.{Reading, AreReadings, Says, close_said, events_of, refusal_lines, refusal_text}
use Rattle.mdp_receiver.specs.Said.{brought_by, kind_of}
use Rattle.mdp_pipeline.specs.Readers.{HoldsOne, HasHandedOver, HasPut, HasReadOne, HasReadSoFar, events_held, has_ended}
use Rattle.mdp_pipeline.proofs.Beginnings.{readings_exist, readings-append}

module _ {A : Type 0} where
  -- ---- batches put one after another

  pub puts_none : (before now : IntakeSenderView (Batch A)) → now ≡ before → HasPut before [] now
  puts_none before now same = same ∙ ap (λ (t : List (Batch A)). record before { sent = t }) (sym (append-nil before.sent))

  pub puts_more : (before now after : IntakeSenderView (Batch A)) (done more : List (Batch A)) → HasPut before done now → HasPut now more after → HasPut before (done ++ more) after
  puts_more before now after done more one two =
      two
      ∙ ap (λ (s : IntakeSenderView (Batch A)). record s { sent = s.sent ++ more }) one
      ∙ ap (λ (t : List (Batch A)). record before { sent = t }) (append_assoc before.sent done more)

  -- whether the sender has ended, after one batch more
  pub ended_after : (before after : IntakeSenderView (Batch A)) (b : Batch A) → has_ended before ≡ false → HasPut before (b ∷ []) after → has_ended after ≡ b.is_last
  ended_after before after b going put =
      ap has_ended put
      ∙ list_any-append (λ (x : Batch A). x.is_last) before.sent (b ∷ [])
      ∙ ap (λ (x : Bool). x || (b.is_last || false)) going
      ∙ or_false b.is_last
    where
      or_false : (x : Bool) → (x || false) ≡ x
      or_false true = refl
      or_false false = refl

  pub all_events-append : (done more : List (Batch A)) → all_events (done ++ more) ≡ all_events done ++ all_events more
  all_events-append done more = flat_map-append (λ (b : Batch A). batch_events b) done more

  pub one_batch : (b : Batch A) → all_events (b ∷ []) ≡ batch_events b
  one_batch b = append-nil (batch_events b)

  -- ---- records

  pub read_none : (feed : Feed) (before : IntakeSenderView (Batch A)) (reader : FeedReader A) → reader.sender ≡ before → reader.events.items ≡ [] → reader.refusals ≡ [] → HasReadSoFar feed [] before reader
  read_none feed before reader same none told = record {
    batches = [];
    put = puts_none before reader.sender same;
    readings = [];
    are = record { of = refl; each = tt };
    front = sym (ap (map event_of) none);
    refusals = told;
  }

  pub read_more : (feed : Feed) (done : List RecordContent) (entry : RecordContent) (before : IntakeSenderView (Batch A)) (old new : FeedReader A) → HasReadSoFar feed done before old → HasReadOne feed entry old new → HasReadSoFar feed (done ++ entry ∷ []) before new
  read_more feed done entry before old new so_far one =
      let arrival : Arrival = record { feed = feed; entry = entry } in
      let reading : Reading = record { arrival = arrival; said = one.said } in
      let both = readings-append (arrivals feed done) (arrival ∷ []) so_far.readings (reading ∷ []) so_far.are (record { of = refl; each = (one.says, tt) }) in
      record {
        batches = so_far.batches ++ one.batches;
        put = puts_more before old.sender new.sender so_far.batches one.batches so_far.put one.put;
        readings = so_far.readings ++ reading ∷ [];
        are = subst (λ (t : List Arrival). AreReadings t (so_far.readings ++ reading ∷ [])) (sym (map-append (λ (e : RecordContent). record { feed = feed; entry = e }) done (entry ∷ []))) both;
        front =
            flat_map-append (λ (r : Reading). brought_by r.said) so_far.readings (reading ∷ [])
            ∙ ap (λ (t : List Event). events_of so_far.readings ++ t) (append-nil (brought_by one.said))
            ∙ ap (λ (t : List Event). t ++ brought_by one.said) so_far.front
            ∙ append_assoc (all_events so_far.batches) (events_held old) (brought_by one.said)
            ∙ ap (λ (t : List Event). all_events so_far.batches ++ t) one.events
            ∙ sym (append_assoc (all_events so_far.batches) (all_events one.batches) (events_held new))
            ∙ ap (λ (t : List Event). t ++ events_held new) (sym (all_events-append so_far.batches one.batches));
        refusals =
            one.refusals
            ∙ ap (λ (t : List ℕ). t ++ refusal_text feed entry.line one.said) so_far.refusals
            ∙ ap (λ (t : List ℕ). refusal_lines so_far.readings ++ t) (sym (append-nil (refusal_text feed entry.line one.said)))
            ∙ sym (flat_map-append (λ (r : Reading). refusal_text r.arrival.feed r.arrival.entry.line r.said) so_far.readings (reading ∷ []));
      }

  pub read_next : (feed : Feed) (records : List RecordContent) (i : ℕ) (entry : RecordContent) (before : IntakeSenderView (Batch A)) (old new : FeedReader A) → i < length records → entry ≡ get_or records i entry
      → HasReadSoFar feed (take i records) before old → HasReadOne feed entry old new → HasReadSoFar feed (take (i + 1) records) before new
  read_next feed records i entry before old new within at so_far one =
      subst (λ (t : List RecordContent). HasReadSoFar feed t before new) (ap (λ (e : RecordContent). take i records ++ e ∷ []) at ∙ sym (take_more records i entry within))
      (read_more feed (take i records) entry before old new so_far one)

  -- what was held was handed over
  pub moved_on : (feed : Feed) (done : List RecordContent) (before : IntakeSenderView (Batch A)) (old new : FeedReader A) (batches : List (Batch A)) → HasPut old.sender batches new.sender → events_held old ≡ all_events batches ++ events_held new → new.refusals ≡ old.refusals
      → HasReadSoFar feed done before old → HasReadSoFar feed done before new
  moved_on feed done before old new batches put events told so_far = record {
    batches = so_far.batches ++ batches;
    put = puts_more before old.sender new.sender so_far.batches batches so_far.put put;
    readings = so_far.readings;
    are = so_far.are;
    front =
        so_far.front
        ∙ ap (λ (t : List Event). all_events so_far.batches ++ t) events
        ∙ sym (append_assoc (all_events so_far.batches) (all_events batches) (events_held new))
        ∙ ap (λ (t : List Event). t ++ events_held new) (sym (all_events-append so_far.batches batches));
    refusals = told ∙ so_far.refusals;
  }

  -- the records behind these say something too
  pub handed_over : (feed : Feed) (records done left : List RecordContent) (before after : IntakeSenderView (Batch A)) (reader : FeedReader A) → records ≡ done ++ left → after ≡ reader.sender → HasReadSoFar feed done before reader → HasHandedOver feed records before after
  handed_over feed records done left before after reader parts same so_far =
      let more = readings_exist (arrivals feed left) in
      let both = readings-append (arrivals feed done) (arrivals feed left) so_far.readings more.0 so_far.are more.1 in
      let all : arrivals feed done ++ arrivals feed left ≡ arrivals feed records = sym (ap (arrivals feed) parts ∙ map-append (λ (e : RecordContent). record { feed = feed; entry = e }) done left) in
      record {
        batches = so_far.batches;
        put = same ∙ so_far.put;
        readings = so_far.readings ++ more.0;
        are = subst (λ (t : List Arrival). AreReadings t (so_far.readings ++ more.0)) all both;
        rest = events_held reader ++ events_of more.0;
        front =
            flat_map-append (λ (r : Reading). brought_by r.said) so_far.readings more.0
            ∙ ap (λ (t : List Event). t ++ events_of more.0) so_far.front
            ∙ append_assoc (all_events so_far.batches) (events_held reader) (events_of more.0);
      }

  -- nothing was handed over
  pub handed_over_none : (feed : Feed) (records : List RecordContent) (before : IntakeSenderView (Batch A)) → HasHandedOver feed records before before
  handed_over_none feed records before =
      let more = readings_exist (arrivals feed records) in
      record { batches = []; put = puts_none before before refl; readings = more.0; are = more.1; rest = events_of more.0; front = refl }

-- ---- a close

no_refusal : (feed : Feed) (line : ℕ) (kind : Kind) → refusal_text feed line (close_said kind) ≡ []
no_refusal feed line incremental = refl
no_refusal feed line recovery = refl

pub holds_close : {A T E : Type 0} (feed : Feed) (entry : RecordContent) (old new : FeedReader A) (result : Result T E) → entry.received ≡ Close → OnOk result (events_held new ≡ events_held old ++ brought_by (close_said (kind_of feed))) → new.refusals ≡ old.refusals → OnOk result (HoldsOne feed entry old new)
holds_close feed entry old new (Ok done) is events same = record {
  said = close_said (kind_of feed);
  says = subst (λ (r : Received). Says (kind_of feed) r (close_said (kind_of feed))) (sym is) refl;
  events = events;
  refusals =
      same
      ∙ sym (append-nil old.refusals)
      ∙ ap (λ (t : List ℕ). old.refusals ++ t) (sym (no_refusal feed entry.line (kind_of feed)));
}
holds_close feed entry old new (Err fault) is events same = tt
