-- Moves one after another, as they are handed on.
use Rattle.std.proofs.Common.{◌≡◌, ℕ, List, [], ◌∷◌, ◌++◌, map, refl, sym, ap, subst, ◌∙◌, append_assoc}
use Rattle.std.specs.Prelude.{Option, Some, None, Result, Ok, Err, OnOk}
use Rattle.std.proofs.lemmas.List.{append-nil}
use Rattle.mdp_templates.specs.Snapshot.{SnapshotContent}
use Rattle.mdp_templates.specs.declared.instrument.Instrument.{Instrument}
use Rattle.mdp_arbiter.specs.Accepted.{Event, newest_snapshots}
use Rattle.mdp_arbiter.specs.Channel.{Channel}
use Rattle.mdp_arbiter.specs.Machine.{State, Move, Settles, next_move, after, after_all, settle, snapshots_of, state_at, go_on}
use Rattle.mdp_arbiter.specs.Machine.Move.{passed, jumped}
use Rattle.mdp_arbiter.specs.Arbiter.{View, state}
use Rattle.mdp_arbiter.specs.Moves.{Answers, after_move}
use Rattle.mdp_arbiter.specs.Standing.{StandsAt, StepsAs}
use Rattle.mdp_arbiter.specs.declared.step.Step.{Step}
use Rattle.mdp_arbiter.specs.declared.step.Step.TheVariants.{Pass, Jump}
use Rattle.mdp_arbiter.proofs.Jumps.{law_of_jumps}
use Rattle.mdp_arbiter.proofs.Runs.{law_of_events, law_of_fronts, law_of_moves}
use Rattle.mdp_engine.specs.Engine.{IsSettled}
use Rattle.mdp_engine.proofs.Moving.{Leads, leads-push, no_move}
use Rattle.mdp_arbiter.specs.OwnedMoves.{stepped_move}
use Rattle.mdp_crew.specs.Fed.{HasComeTo, IsFedAll, MakesMoves, feeding}

-- with what settles from there, they settle
leads_on : (channel : Channel) (es : List Event) (s : State) (ms : List Move) (to : State) (rest : List Move)
    → Leads channel es s ms to → Settles channel es to rest → Settles channel es s (ms ++ rest)
leads_on channel es s [] to rest leads settles = subst (λ (t : State). Settles channel es t rest) leads settles
leads_on channel es s (m ∷ ms) to rest leads settles = (leads.0, leads_on channel es (after s m) ms to rest leads.1 settles)

leads_after : (channel : Channel) (es : List Event) (s : State) (ms : List Move) (to : State) → Leads channel es s ms to → to ≡ after_all s ms
leads_after channel es s [] to leads = leads
leads_after channel es s (m ∷ ms) to leads = leads_after channel es (after s m) ms to leads.1

-- ---- one move

all_there : (snapshots : List SnapshotContent) → snapshots_of (map (λ (s : SnapshotContent). Some s) snapshots) ≡ snapshots
all_there [] = refl
all_there (s ∷ snapshots) = ap (λ (l : List SnapshotContent). s ∷ l) (all_there snapshots)

-- the move was possible, and this is what it leaves
record IsMade (channel : Channel) (es : List Event) (old new : State) (move : Move) : Type 0 where
  possible : next_move channel es old ≡ Some move
  state : new ≡ after old move

one_made : {A : Type 0} (channel : Channel) (es : List Event) (old new : State) (newest : List (Option SnapshotContent)) (step : Step A) (m : Option Move)
    → next_move channel es old ≡ m → Answers m (Some step) → new ≡ after_move old m → newest ≡ newest_snapshots channel.ids es
    → IsMade channel es old new (stepped_move step newest)
one_made channel es old new newest step None possible answers next are = elim answers [ ]
one_made channel es old new newest (Pass q) (Some (passed p)) possible answers next are =
    record { possible = possible ∙ ap (λ x. Some (passed x)) (sym answers); state = next }
one_made channel es old new newest (Jump from to) (Some (jumped f t snapshots)) possible answers next are =
    let taken : snapshots_of newest ≡ snapshots = ap snapshots_of (are ∙ (law_of_jumps channel es old f t snapshots possible).1.newest) ∙ all_there snapshots in
    let same : jumped from to (snapshots_of newest) ≡ jumped f t snapshots =
    ap (λ (n : ℕ). jumped n to (snapshots_of newest)) answers.0 ∙ ap (λ (n : ℕ). jumped f n (snapshots_of newest)) answers.1 ∙ ap (jumped f t) taken in
    record { possible = possible ∙ ap (λ (x : Move). Some x) (sym same); state = next ∙ ap (after old) (sym same) }
one_made channel es old new newest (Pass q) (Some (jumped f t snapshots)) possible answers next are = elim answers [ ]
one_made channel es old new newest (Jump from to) (Some (passed p)) possible answers next are = elim answers [ ]

-- ---- moves so far

pub record HasMade (es : List Event) (old now : View) (owned_moves owned_moves' : List Move) : Type 0 where
  pub made : List Move
  pub appended : owned_moves' ≡ owned_moves ++ made
  pub leads : Leads old.channel es (state old) made (state now)
  pub stands : StandsAt es now
  pub channel : now.channel ≡ old.channel

abbrev pub MovesTo : View → View → List Move → List Move → Type 0
MovesTo old now owned_moves owned_moves' = (es : List Event) → StandsAt es old → HasMade es old now owned_moves owned_moves'

-- a step more
pub moves_further : {A : Type 0} (old now new : View) (owned_moves so_far full : List Move) (step : Step A) (move : Move) → MovesTo old now owned_moves so_far
    → ((es : List Event) → StandsAt es now → StepsAs es now new (Some step)) → new.channel ≡ now.channel
    → move ≡ stepped_move step new.newest → full ≡ so_far ++ move ∷ [] → MovesTo old new owned_moves full
moves_further old now new owned_moves so_far full step move moves steps channel is more es stands =
    let has = moves es stands in
    let s = steps es has.stands in
    let newest : new.newest ≡ newest_snapshots now.channel.ids es = s.stands.newest ∙ ap (λ (c : Channel). newest_snapshots c.ids es) channel in
    let one = one_made now.channel es (state now) (state new) new.newest step (next_move now.channel es (state now)) refl s.answer s.state newest in
    let possible : next_move old.channel es (state now) ≡ Some move =
    ap (λ (c : Channel). next_move c es (state now)) (sym has.channel) ∙ one.possible ∙ ap (λ (x : Move). Some x) (sym is) in
    record {
      made = has.made ++ move ∷ [];
      appended = more ∙ ap (λ (l : List Move). l ++ move ∷ []) has.appended ∙ append_assoc owned_moves has.made (move ∷ []);
      leads = leads-push old.channel es (state old) has.made (state now) (state new) move has.leads possible (one.state ∙ ap (after (state now)) (sym is));
      stands = s.stands;
      channel = channel ∙ has.channel;
    }

held : {E P : Type 0} (r : Result (Unit {0}) E) → P → OnOk r P
held (Ok u) p = p
held (Err e) p = tt

-- no step more
pub moves_settled : {A E : Type 0} (old now new : View) (owned_moves full : List Move) (step : Option (Step A)) (result : Result (Unit {0}) E) → step ≡ None → MovesTo old now owned_moves full
    → ((es : List Event) → StandsAt es now → StepsAs es now new step) → new.channel ≡ now.channel → (es : List Event) → StandsAt es old → MakesMoves (feeding es old owned_moves) (feeding es new full) result
moves_settled old now new owned_moves full step result is moves steps channel es stands =
    let has = moves es stands in
    let s = steps es has.stands in
    let still : next_move now.channel es (state now) ≡ None = no_move (next_move now.channel es (state now)) step is s.answer in
    let none_more : next_move old.channel es (state now) ≡ None = ap (λ (c : Channel). next_move c es (state now)) (sym has.channel) ∙ still in
    record {
      made = has.made;
      rest = [];
      appended = has.appended;
      settles = leads_on old.channel es (state old) has.made (state now) [] has.leads none_more;
      whole = held result (
        refl,
        record {
          stands = s.stands;
          channel = channel ∙ has.channel;
          state = s.state ∙ ap (after_move (state now)) still ∙ leads_after old.channel es (state old) has.made (state now) has.leads;
        },
      );
    }

-- memory ran out: the moves so far are a beginning of those that are possible
pub moves_begun : {E : Type 0} (old now new : View) (owned_moves full : List Move) (x : E) → MovesTo old now owned_moves full → (es : List Event) → StandsAt es old → MakesMoves (feeding es old owned_moves) (feeding es new full) (Err x)
moves_begun old now new owned_moves full x moves es stands =
    let has = moves es stands in
    record {
      made = has.made;
      rest = settle old.channel es (state now);
      appended = has.appended;
      settles = leads_on old.channel es (state old) has.made (state now) (settle old.channel es (state now)) has.leads (law_of_moves old.channel es (state now)).0;
      whole = tt;
    }

-- ---- an event

pub if_ok : {E P Q : Type 0} (r : Result (Unit {0}) E) → (P → Q) → OnOk r P → OnOk r Q
if_ok (Ok u) f p = f p
if_ok (Err e) f p = tt

pub fed : {E : Type 0} (listed : List Instrument) (es : List Event) (e : Event) (old mid new : View) (owned_moves full : List Move) (result : Result (Unit {0}) E)
    → StandsAt (es ++ e ∷ []) mid → state mid ≡ state old → mid.channel ≡ old.channel → IsSettled listed es old
    → MakesMoves (feeding (es ++ e ∷ []) mid owned_moves) (feeding (es ++ e ∷ []) new full) result → IsFedAll listed (feeding es old owned_moves) (feeding (es ++ e ∷ []) new full) result
fed listed es e old mid new owned_moves full result stands keeps channel settled moves =
    let all = moves.made ++ moves.rest in
    let settles : Settles old.channel (es ++ e ∷ []) (state_at old.channel es) all =
    subst (λ (s : State). Settles old.channel (es ++ e ∷ []) s all) (keeps ∙ settled.state)
    (subst (λ (c : Channel). Settles c (es ++ e ∷ []) (state mid) all) channel moves.settles) in
    let law = law_of_events old.channel es e all settles in
    record {
      made = moves.made;
      rest = moves.rest;
      appended = moves.appended;
      front = law.0;
      whole = if_ok result (λ (w : (moves.rest ≡ []) × HasComeTo (es ++ e ∷ []) moves.made mid new). (
        w.0,
        record {
          stands = w.1.stands;
          ids = ap (λ (c : Channel). c.ids) (w.1.channel ∙ channel) ∙ settled.ids;
          state =
              w.1.state ∙ ap (λ (s : State). after_all s moves.made) (keeps ∙ settled.state)
              ∙ ap (after_all (state_at old.channel es)) (sym (append-nil moves.made) ∙ ap (λ (l : List Move). moves.made ++ l) (sym w.0))
              ∙ sym law.1
              ∙ ap (λ (c : Channel). state_at c (es ++ e ∷ [])) (sym (w.1.channel ∙ channel));
        },
        w.1.channel ∙ channel,
      )) moves.whole;
    }

-- where the event was not taken in
pub not_fed : {E : Type 0} (listed : List Instrument) (es : List Event) (e : Event) (old new : View) (owned_moves : List Move) (x : E) → IsFedAll listed (feeding es old owned_moves) (feeding (es ++ e ∷ []) new owned_moves) (Err x)
not_fed listed es e old new owned_moves x = record {
  made = [];
  rest = go_on old.channel es (state_at old.channel es) (e ∷ []);
  appended = sym (append-nil owned_moves);
  front = law_of_fronts old.channel es (e ∷ []);
  whole = tt;
}
