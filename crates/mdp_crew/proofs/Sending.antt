-- What went into the lanes, batch by batch, and what was taken of the readers.
use Rattle.std.proofs.Common.{◌≡◌, ◌==◌, true, true≢false, inl, inr, length, List, [], ◌∷◌, ◌++◌, map, refl, sym, ap, subst, ◌∙◌, append_assoc}
use Rattle.std.specs.Prelude.{Result, Ok, Err, IfErr, OnOk}
use Rattle.std.proofs.lemmas.Bool.Decides.{eqb_tells}
use Rattle.std.proofs.lemmas.List.{append-nil, map-append, nil_from_length}
use Rattle.std.proofs.lemmas.List.Concat.{flat_map-append}
use Rattle.mdp_templates.specs.declared.feed.Feed.{Feed}
use Rattle.mdp_templates.specs.declared.instrument.Instrument.{Instrument}
use Rattle.mdp_arbiter.specs.Accepted.{Event}
use Rattle.mdp_arbiter.specs.Arbiter.{View, state}
use Rattle.mdp_arbiter.specs.Channel.{Channel, ListedChannel, channel_of}
use Rattle.mdp_arbiter.specs.declared.arbiter.Standing.{Standing}
use Rattle.mdp_arbiter.specs.Machine.{is_lost, Move, stands_after, State}
use Rattle.mdp_lanes.specs.Queues.{IntakeReceiverView, LaneSenderView}
use Rattle.mdp_engine.specs.Engine.{IsSettled}
use Rattle.mdp_crew.specs.Fed.{IsFedAll, feeding}
use Rattle.mdp_crew.specs.Sent.{HasSentAll}
use Rattle.mdp_crew.proofs.Adding.{sent_as_before, sent_more, sent_no_more, sent_none, some_sent, state_there}
use Rattle.mdp_crew.specs.declared.batch.Batch.{Batch}
use Rattle.mdp_crew.specs.declared.order.Order.{Order}
use Rattle.mdp_crew.specs.declared.order.Order.TheVariants.{Take, Done}
use Rattle.mdp_crew.specs.Arbitrating.{HasBegun, HasSentFirst, HasSentSoFar, HavePut, SendsMore, StopsWithin, sending}
use Rattle.mdp_crew.specs.Batches.{HasTakenMore, batch_events, events_taken}
use Rattle.mdp_crew.specs.Orders.{and_sent, orders_of}

-- where the arbiter stands is where the machine does
pub stands_there : (channel : ListedChannel) (events : List Event) (batches : List (List Move)) (v : View) (standing : Standing) → HasSentAll channel events batches v
    → standing.next ≡ (state v).next → standing.lost ≡ is_lost v.channel events (state v) → standing ≡ stands_after channel events
stands_there channel events batches v standing sent next lost =
    let there = state_there channel events batches v sent in
    let lost_there = lost ∙ ap (λ (c : Channel). is_lost c events (state v)) sent.channel_is ∙ ap (is_lost (channel_of channel) events) there in
    λ i. record { next = (next ∙ ap (λ (s : State). s.next) there) i; lost = lost_there i }

pub none_there : {X : Type 0} (xs : List X) → true ≡ (length xs == 0) → xs ≡ []
none_there xs empty = elim (eqb_tells (length xs) 0) [ inl e ↦ nil_from_length xs e.1 | inr e ↦ absurd (true≢false (empty ∙ e.0)) ]

module _ {A : Type 0} where
  -- ---- lanes

  lanes_none : (l : List (LaneSenderView (Order A))) → l ≡ map (and_sent []) l
  lanes_none [] = refl
  lanes_none (s ∷ ss) = λ i. record s { sent = sym (append-nil s.sent) i } ∷ lanes_none ss i

  lanes_more : (l : List (LaneSenderView (Order A))) (xs ys : List (Order A)) → map (and_sent ys) (map (and_sent xs) l) ≡ map (and_sent (xs ++ ys)) l
  lanes_more [] xs ys = refl
  lanes_more (s ∷ ss) xs ys = λ i. record s { sent = append_assoc s.sent xs ys i } ∷ lanes_more ss xs ys i

  -- and then that there are no more
  pub and_done : (batches : List (List Move)) (before now after : List (LaneSenderView (Order A))) → HavePut batches before now → after ≡ map (and_sent (Done ∷ [])) now
      → after ≡ map (and_sent (orders_of batches)) before
  and_done batches before now after so_far one = one ∙ ap (map (and_sent (Done ∷ []))) so_far ∙ lanes_more before (map Take batches) (Done ∷ [])

  lanes_next : (batches : List (List Move)) (moves : List Move) (before now after : List (LaneSenderView (Order A)))
      → HavePut batches before now → after ≡ map (and_sent (Take moves ∷ [])) now → HavePut (batches ++ moves ∷ []) before after
  lanes_next batches moves before now after so_far one =
      one ∙ ap (map (and_sent (Take moves ∷ []))) so_far
      ∙ lanes_more before (map Take batches) (Take moves ∷ [])
      ∙ ap (λ (xs : List (Order A)). map (and_sent xs) before) (sym (map-append Take batches (moves ∷ [])))

  -- ---- batch by batch

  so_far_none : (channel : ListedChannel) (lanes : List (LaneSenderView (Order A))) (v : View) → HasBegun channel v → HasSentSoFar channel lanes (sending [] lanes v)
  so_far_none channel lanes v begun = record { batches = []; lanes = lanes_none lanes; all = sent_none channel v begun.stands begun.begins begun.channel_is }

  -- at the start nothing was taken
  pub begun_there : (channel : ListedChannel) (receiver : IntakeReceiverView (Batch A)) (first now : List (LaneSenderView (Order A))) (v : View) → HasBegun channel v → receiver.taken ≡ [] → now ≡ first
      → HasSentSoFar channel first (sending (events_taken receiver.taken) now v)
  begun_there channel receiver first now v begun none same =
      subst (λ (start : List (Feed × Batch A) × List (LaneSenderView (Order A))). HasSentSoFar channel first (sending (events_taken start.0) start.1 v))
      (λ i. (sym none i, sym same i)) (so_far_none channel first v begun)

  -- the moves of further events were sent
  pub some_sends : {E F : Type 0} (events : List Event) (now after : List (LaneSenderView (Order A))) (old new : View) (none owned_moves : List Move) (result : Result (Unit {0}) F) → none ≡ []
      → ((listed : List Instrument) (before : List Event) → IsSettled listed before old → IsFedAll {E = E} listed (feeding before old none) (feeding (before ++ events) new owned_moves) (Ok tt))
      → OnOk result (after ≡ map (and_sent (Take owned_moves ∷ [])) now) → OnOk result ((before : List Event) → SendsMore (sending before now old) (sending (before ++ events) after new))
  some_sends {E} events now after old new none owned_moves (Ok done) is fed one = λ before channel first so_far. record {
    batches = so_far.batches ++ owned_moves ∷ [];
    lanes = lanes_next so_far.batches owned_moves first now after so_far.lanes one;
    all =
        sent_more channel before events so_far.batches old new owned_moves so_far.all
        (subst (λ (start : List Move). IsFedAll {E = E} channel.listed (feeding before old start) (feeding (before ++ events) new owned_moves) (Ok tt)) is (fed channel.listed before so_far.all.settled));
  }
  some_sends events now after old new none owned_moves (Err fault) is fed one = tt

  -- there were none
  pub none_sends : {E : Type 0} (events : List Event) (now : List (LaneSenderView (Order A))) (old new : View) (none owned_moves : List Move) → none ≡ [] → owned_moves ≡ []
      → ((listed : List Instrument) (before : List Event) → IsSettled listed before old → IsFedAll {E = E} listed (feeding before old none) (feeding (before ++ events) new owned_moves) (Ok tt))
      → (before : List Event) → SendsMore (sending before now old) (sending (before ++ events) now new)
  none_sends {E} events now old new none owned_moves is empty fed before = λ channel first so_far. record {
    batches = so_far.batches;
    lanes = so_far.lanes;
    all =
        sent_as_before channel before events so_far.batches old new owned_moves so_far.all
        (subst (λ (start : List Move). IsFedAll {E = E} channel.listed (feeding before old start) (feeding (before ++ events) new owned_moves) (Ok tt)) is (fed channel.listed before so_far.all.settled)) empty;
  }

  -- there was no memory for what further events add, and nothing of it was sent
  pub stops_here : (events : List Event) (now after : List (LaneSenderView (Order A))) (old new : View) → after ≡ now → (before : List Event) → StopsWithin (sending before now old) (sending (before ++ events) after new)
  stops_here events now after old new same before = λ channel first so_far. record {
    batches = so_far.batches;
    lanes = same ∙ so_far.lanes;
    sent = some_sent channel before events so_far.batches old tt so_far.all;
  }

  pub some_stops : {E : Type 0} (events : List Event) (now after : List (LaneSenderView (Order A))) (old new : View) (result : Result (Unit {0}) E) → IfErr result (λ (fault : E). after ≡ now)
      → IfErr result (λ (fault : E). (before : List Event) → StopsWithin (sending before now old) (sending (before ++ events) after new))
  some_stops events now after old new (Ok done) stays = tt
  some_stops events now after old new (Err fault) stays = stops_here events now after old new stays

  stops_before : (channel : ListedChannel) (events more : List Event) (first now : List (LaneSenderView (Order A)))
      → HasSentFirst channel events first now → HasSentFirst channel (events ++ more) first now
  stops_before channel events more first now stopped = record {
    batches = stopped.batches;
    lanes = stopped.lanes;
    sent = sent_no_more channel events more stopped.batches tt tt stopped.sent;
  }

  -- ---- what was taken

  events_taken-append : (xs ys : List (Feed × Batch A)) → events_taken (xs ++ ys) ≡ events_taken xs ++ events_taken ys
  events_taken-append xs ys = flat_map-append (λ (m : Feed × Batch A). batch_events m.1) xs ys

  events_taken-push : (old new : IntakeReceiverView (Batch A)) (m : Feed × Batch A) → new ≡ record old { taken = old.taken ++ m ∷ [] }
      → events_taken new.taken ≡ events_taken old.taken ++ batch_events m.1
  events_taken-push old new m is =
      ap (λ (r : IntakeReceiverView (Batch A)). events_taken r.taken) is
      ∙ events_taken-append old.taken (m ∷ []) ∙ ap (λ (t : List Event). events_taken old.taken ++ t) (append-nil (batch_events m.1))

  pub takes_more : (first now last : IntakeReceiverView (Batch A)) → HasTakenMore first now → HasTakenMore now last → HasTakenMore first last
  takes_more first now last one two = (
    one.0 ++ two.0,
    two.1
        ∙ ap (λ (r : IntakeReceiverView (Batch A)). record r { taken = r.taken ++ two.0 }) one.1
        ∙ ap (λ (t : List (Feed × Batch A)). record first { taken = t }) (append_assoc first.taken one.0 two.0),
  )

  -- what a batch's events make possible
  pub batch_sends : {E : Type 0} (old new : IntakeReceiverView (Batch A)) (m : Feed × Batch A) (now after : List (LaneSenderView (Order A))) (arbiter arbiter' : View) (result : Result (Unit {0}) E)
      → new ≡ record old { taken = old.taken ++ m ∷ [] } → OnOk result ((before : List Event) → SendsMore (sending before now arbiter) (sending (before ++ batch_events m.1) after arbiter'))
      → OnOk result (SendsMore (sending (events_taken old.taken) now arbiter) (sending (events_taken new.taken) after arbiter'))
  batch_sends old new m now after arbiter arbiter' (Ok done) is sends =
      subst (λ (es : List Event). SendsMore (sending (events_taken old.taken) now arbiter) (sending es after arbiter')) (sym (events_taken-push old new m is)) (sends (events_taken old.taken))
  batch_sends old new m now after arbiter arbiter' (Err fault) is sends = tt

  pub batch_stops : {E : Type 0} (old new : IntakeReceiverView (Batch A)) (m : Feed × Batch A) (now after : List (LaneSenderView (Order A))) (arbiter arbiter' : View) (result : Result (Unit {0}) E)
      → new ≡ record old { taken = old.taken ++ m ∷ [] } → IfErr result (λ (fault : E). (before : List Event) → StopsWithin (sending before now arbiter) (sending (before ++ batch_events m.1) after arbiter'))
      → IfErr result (λ (fault : E). StopsWithin (sending (events_taken old.taken) now arbiter) (sending (events_taken new.taken) after arbiter'))
  batch_stops old new m now after arbiter arbiter' (Ok done) is stops = tt
  batch_stops old new m now after arbiter arbiter' (Err fault) is stops =
      subst (λ (es : List Event). StopsWithin (sending (events_taken old.taken) now arbiter) (sending es after arbiter')) (sym (events_taken-push old new m is)) (stops (events_taken old.taken))

  -- what is taken further and let go only adds to what is missing
  pub stops_later : (channel : ListedChannel) (now last : IntakeReceiverView (Batch A)) (first lanes : List (LaneSenderView (Order A))) → HasTakenMore now last
      → HasSentFirst channel (events_taken now.taken) first lanes → HasSentFirst channel (events_taken last.taken) first lanes
  stops_later channel now last first lanes more stopped =
      subst (λ (es : List Event). HasSentFirst channel es first lanes)
      (sym (ap (λ (r : IntakeReceiverView (Batch A)). events_taken r.taken) more.1 ∙ events_taken-append now.taken more.0))
      (stops_before channel (events_taken now.taken) (events_taken more.0) first lanes stopped)
