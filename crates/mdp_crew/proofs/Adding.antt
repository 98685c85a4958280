-- What events add one after another, and batch by batch, adds up.
use Rattle.std.proofs.Common.{◌≡◌, List, [], ◌∷◌, ◌++◌, map, refl, sym, ap, subst, ◌∙◌, append_assoc}
use Rattle.std.specs.Prelude.{Result, Ok, Err}
use Rattle.std.proofs.lemmas.List.{append-nil, map-append}
use Rattle.std.proofs.lemmas.List.Concat.{flat_map-append}
use Rattle.mdp_templates.specs.declared.instrument.Instrument.{Instrument}
use Rattle.mdp_arbiter.specs.Accepted.{Event}
use Rattle.mdp_arbiter.specs.Channel.{Channel, ListedChannel, channel_of}
use Rattle.mdp_arbiter.specs.Machine.{Move, first_state, go_on, moves_of, state_at, trace}
use Rattle.mdp_arbiter.specs.Arbiter.{View, state}
use Rattle.mdp_arbiter.specs.Standing.{StandsAt}
use Rattle.mdp_arbiter.proofs.Runs.{law_of_fronts}
use Rattle.mdp_engine.specs.Engine.{IsSettled}
use Rattle.mdp_engine.specs.Steps.{event_of}
use Rattle.mdp_engine.specs.declared.event.Event.{Event as Came}
use Rattle.mdp_crew.specs.Fed.{IsFedAll, feeding}
use Rattle.mdp_crew.specs.Sent.{AreSent, HasSentAll, moves_sent}
use Rattle.mdp_crew.proofs.Making.{if_ok}

-- all went well
abbrev pub well : Result (Unit {0}) (Unit {0})
well = Ok tt

-- ---- events one after another

-- no events add no moves
pub fed_none : (listed : List Instrument) (before : List Event) (v : View) (owned_moves : List Move) → IsSettled listed before v → IsFedAll listed (feeding before v owned_moves) (feeding (before ++ []) v owned_moves) well
fed_none listed before v owned_moves settled =
    let same : before ++ [] ≡ before = append-nil before in
    record {
      made = [];
      rest = [];
      appended = sym (append-nil owned_moves);
      front = ap (trace v.channel) same ∙ sym (append-nil (trace v.channel before));
      whole = (refl, subst (λ (es : List Event). IsSettled listed es v) (sym same) settled, refl);
    }

-- where memory sufficed it does not matter which fault there was not
fed_well : {E F : Type 0} (listed : List Instrument) (before events : List Event) (old new : View) (owned_moves owned_moves' : List Move)
    → IsFedAll {E = E} listed (feeding before old owned_moves) (feeding (before ++ events) new owned_moves') (Ok tt) → IsFedAll {E = F} listed (feeding before old owned_moves) (feeding (before ++ events) new owned_moves') (Ok tt)
fed_well listed before events old new owned_moves owned_moves' fed = record { made = fed.made; rest = fed.rest; appended = fed.appended; front = fed.front; whole = fed.whole }

-- these events and then those add what these add and then what those add
pub fed_more : {E F : Type 0} (listed : List Instrument) (before xs ys : List Event) (old mid new : View) (owned_moves so_far full : List Move) (result : Result (Unit {0}) F)
    → IsFedAll {E = E} listed (feeding before old owned_moves) (feeding (before ++ xs) mid so_far) (Ok tt) → IsFedAll listed (feeding (before ++ xs) mid so_far) (feeding ((before ++ xs) ++ ys) new full) result → IsFedAll listed (feeding before old owned_moves) (feeding (before ++ (xs ++ ys)) new full) result
fed_more listed before xs ys old mid new owned_moves so_far full result one two =
    let joined : (before ++ xs) ++ ys ≡ before ++ (xs ++ ys) = append_assoc before xs ys in
    let first : trace old.channel (before ++ xs) ≡ trace old.channel before ++ one.made =
    one.front ∙ ap (λ (l : List Move). trace old.channel before ++ (one.made ++ l)) one.whole.0 ∙ ap (λ (l : List Move). trace old.channel before ++ l) (append-nil one.made) in
    let second : trace old.channel ((before ++ xs) ++ ys) ≡ trace old.channel (before ++ xs) ++ (two.made ++ two.rest) =
    subst (λ (c : Channel). trace c ((before ++ xs) ++ ys) ≡ trace c (before ++ xs) ++ (two.made ++ two.rest)) one.whole.2 two.front in
    record {
      made = one.made ++ two.made;
      rest = two.rest;
      appended = two.appended ∙ ap (λ (l : List Move). l ++ two.made) one.appended ∙ append_assoc owned_moves one.made two.made;
      front =
          ap (trace old.channel) (sym joined) ∙ second ∙ ap (λ (l : List Move). l ++ (two.made ++ two.rest)) first
          ∙ append_assoc (trace old.channel before) one.made (two.made ++ two.rest)
          ∙ ap (λ (l : List Move). trace old.channel before ++ l) (sym (append_assoc one.made two.made two.rest));
      whole = if_ok result (λ (w : (two.rest ≡ []) × IsSettled listed ((before ++ xs) ++ ys) new × (new.channel ≡ mid.channel)). (
        w.0,
        subst (λ (es : List Event). IsSettled listed es new) joined w.1,
        w.2 ∙ one.whole.2,
      )) two.whole;
    }

-- where memory ran out, whatever further events add is missing too
pub fed_no_more : {E F : Type 0} (listed : List Instrument) (before xs ys : List Event) (old mid new : View) (owned_moves owned_moves' : List Move) (x : E) (y : F)
    → IsFedAll listed (feeding before old owned_moves) (feeding (before ++ xs) mid owned_moves') (Err x) → IsFedAll listed (feeding before old owned_moves) (feeding (before ++ (xs ++ ys)) new owned_moves') (Err y)
fed_no_more listed before xs ys old mid new owned_moves owned_moves' x y one =
    let further = go_on old.channel (before ++ xs) (state_at old.channel (before ++ xs)) ys in
    record {
      made = one.made;
      rest = one.rest ++ further;
      appended = one.appended;
      front =
          ap (trace old.channel) (sym (append_assoc before xs ys)) ∙ law_of_fronts old.channel (before ++ xs) ys
          ∙ ap (λ (l : List Move). l ++ further) one.front
          ∙ append_assoc (trace old.channel before) (one.made ++ one.rest) further
          ∙ ap (λ (l : List Move). trace old.channel before ++ l) (append_assoc one.made one.rest further);
      whole = tt;
    }

-- ---- events that come out of a list

module _ {A E : Type 0} (listed : List Instrument) (before : List Event) (old : View) (owned_moves : List Move) where
  -- one more
  pub fed_further : (done : List (Came A)) (x : Came A) (mid new : View) (so_far full : List Move) → IsFedAll listed (feeding before old owned_moves) (feeding (before ++ (map event_of done)) mid so_far) well
      → IsFedAll {E = E} listed (feeding (before ++ map event_of done) mid so_far) (feeding ((before ++ map event_of done) ++ (event_of x) ∷ []) new full) (Ok tt) → IsFedAll listed (feeding before old owned_moves) (feeding (before ++ (map event_of (done ++ x ∷ []))) new full) well
  fed_further done x mid new so_far full fed one =
      subst (λ (es : List Event). IsFedAll listed (feeding before old owned_moves) (feeding (before ++ es) new full) well) (sym (map-append event_of done (x ∷ [])))
      (fed_more listed before (map event_of done) (event_of x ∷ []) old mid new owned_moves so_far full well fed (fed_well listed (before ++ map event_of done) (event_of x ∷ []) mid new so_far full one))

  -- memory ran out at this one, and these are left
  pub fed_short : (events done left : List (Came A)) (x : Came A) (mid new : View) (so_far full : List Move) (fault : E) → (done ++ x ∷ []) ++ left ≡ events
      → IsFedAll listed (feeding before old owned_moves) (feeding (before ++ (map event_of done)) mid so_far) well → IsFedAll listed (feeding (before ++ map event_of done) mid so_far) (feeding ((before ++ map event_of done) ++ (event_of x) ∷ []) new full) (Err fault)
      → IsFedAll listed (feeding before old owned_moves) (feeding (before ++ (map event_of events)) new full) (Err fault)
  fed_short events done left x mid new so_far full fault are fed one =
      let all : (map event_of done ++ event_of x ∷ []) ++ map event_of left ≡ map event_of events =
      ap (λ (l : List Event). l ++ map event_of left) (sym (map-append event_of done (x ∷ [])))
      ∙ sym (map-append event_of (done ++ x ∷ []) left) ∙ ap (map event_of) are in
      subst (λ (es : List Event). IsFedAll listed (feeding before old owned_moves) (feeding (before ++ es) new full) (Err fault)) all
      (fed_no_more listed before (map event_of done ++ event_of x ∷ []) (map event_of left) old new new owned_moves full fault fault
      (fed_more listed before (map event_of done) (event_of x ∷ []) old mid new owned_moves so_far full (Err fault) fed one))

  -- none is left
  pub fed_all : (events done : List (Came A)) (new : View) (full : List Move) → done ≡ events
      → IsFedAll listed (feeding before old owned_moves) (feeding (before ++ (map event_of done)) new full) well → IsFedAll {E = E} listed (feeding before old owned_moves) (feeding (before ++ (map event_of events)) new full) (Ok tt)
  fed_all events done new full are fed =
      subst (λ (cs : List (Came A)). IsFedAll {E = E} listed (feeding before old owned_moves) (feeding (before ++ (map event_of cs)) new full) (Ok tt)) are
      (fed_well listed before (map event_of done) old new owned_moves full fed)

-- ---- batch by batch

-- before any event
pub sent_none : (channel : ListedChannel) (v : View) → StandsAt [] v → state v ≡ first_state v.channel → v.channel ≡ channel_of channel → HasSentAll channel [] [] v
sent_none channel v stands begins is = record {
  settled = record { stands = stands; ids = ap (λ (c : Channel). c.ids) is; state = begins };
  channel_is = is;
  all = refl;
}

-- the moves of the events of one batch more
all_after : (channel : ListedChannel) (before events : List Event) (batches : List (List Move)) (old new : View) (owned_moves rest : List Move) → HasSentAll channel before batches old
    → trace old.channel (before ++ events) ≡ trace old.channel before ++ (owned_moves ++ rest) → moves_of channel (before ++ events) ≡ moves_sent batches ++ (owned_moves ++ rest)
all_after channel before events batches old new owned_moves rest so_far front =
    subst (λ (c : Channel). trace c (before ++ events) ≡ trace c before ++ (owned_moves ++ rest)) so_far.channel_is front ∙ ap (λ (l : List Move). l ++ (owned_moves ++ rest)) so_far.all

one_more : (batches : List (List Move)) (owned_moves : List Move) → moves_sent (batches ++ owned_moves ∷ []) ≡ moves_sent batches ++ owned_moves
one_more batches owned_moves = flat_map-append (λ (ms : List Move). ms) batches (owned_moves ∷ []) ∙ ap (λ (l : List Move). moves_sent batches ++ l) (append-nil owned_moves)

-- the moves of further events were sent as one batch more
pub sent_more : {E : Type 0} (channel : ListedChannel) (before events : List Event) (batches : List (List Move)) (old new : View) (owned_moves : List Move)
    → HasSentAll channel before batches old → IsFedAll {E = E} channel.listed (feeding before old []) (feeding (before ++ events) new owned_moves) (Ok tt) → HasSentAll channel (before ++ events) (batches ++ owned_moves ∷ []) new
sent_more channel before events batches old new owned_moves so_far fed =
    let made : fed.made ++ fed.rest ≡ owned_moves = ap (λ (l : List Move). fed.made ++ l) fed.whole.0 ∙ append-nil fed.made ∙ sym fed.appended in
    record {
      settled = fed.whole.1;
      channel_is = fed.whole.2 ∙ so_far.channel_is;
      all = all_after channel before events batches old new fed.made fed.rest so_far fed.front ∙ ap (λ (l : List Move). moves_sent batches ++ l) made ∙ sym (one_more batches owned_moves);
    }

-- further events added no move, and no batch was sent
pub sent_as_before : {E : Type 0} (channel : ListedChannel) (before events : List Event) (batches : List (List Move)) (old new : View) (owned_moves : List Move)
    → HasSentAll channel before batches old → IsFedAll {E = E} channel.listed (feeding before old []) (feeding (before ++ events) new owned_moves) (Ok tt) → owned_moves ≡ [] → HasSentAll channel (before ++ events) batches new
sent_as_before channel before events batches old new owned_moves so_far fed none =
    let more = sent_more channel before events batches old new owned_moves so_far fed in
    record {
      settled = more.settled;
      channel_is = more.channel_is;
      all = more.all ∙ one_more batches owned_moves ∙ ap (λ (l : List Move). moves_sent batches ++ l) none ∙ append-nil (moves_sent batches);
    }

-- the arbiter's state is the machine's
pub state_there : (channel : ListedChannel) (events : List Event) (batches : List (List Move)) (v : View) → HasSentAll channel events batches v → state v ≡ state_at (channel_of channel) events
state_there channel events batches v sent = sent.settled.state ∙ ap (λ (c : Channel). state_at c events) sent.channel_is

-- at the end, where all went well
pub all_sent : {X E : Type 0} (channel : ListedChannel) (events : List Event) (batches : List (List Move)) (v : View) (x : X) → HasSentAll channel events batches v → AreSent {X = X} {E = E} channel events batches (Ok x)
all_sent channel events batches v x sent = record { rest = []; front = sent.all ∙ sym (append-nil (moves_sent batches)); whole = refl }

-- Where all were sent before, what was sent begins the moves of all events, whatever came then: want of memory in the midst
-- of further events, or before their moves were sent.
pub some_sent : {X E : Type 0} (channel : ListedChannel) (before more : List Event) (batches : List (List Move)) (v : View) (x : E) → HasSentAll channel before batches v → AreSent {X = X} channel (before ++ more) batches (Err x)
some_sent channel before more batches v x sent =
    let machine = channel_of channel in
    let rest = go_on machine before (state_at machine before) more in
    record { rest = rest; front = law_of_fronts machine before more ∙ ap (λ (l : List Move). l ++ rest) sent.all; whole = tt }

-- further events only add to what is missing
pub sent_no_more : {X E Y F : Type 0} (channel : ListedChannel) (events more : List Event) (batches : List (List Move)) (x : E) (y : F) → AreSent {X = X} channel events batches (Err x)
    → AreSent {X = Y} channel (events ++ more) batches (Err y)
sent_no_more channel events more batches x y sent =
    let machine = channel_of channel in
    let further = go_on machine events (state_at machine events) more in
    record {
      rest = sent.rest ++ further;
      front = law_of_fronts machine events more ∙ ap (λ (l : List Move). l ++ further) sent.front ∙ append_assoc (moves_sent batches) sent.rest further;
      whole = tt;
    }
