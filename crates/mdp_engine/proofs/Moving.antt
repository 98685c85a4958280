-- What an engine shows, move by move, and event by event.
use Rattle.std.proofs.Common.{◌≡◌, ℕ, ℤ, false, List, [], ◌∷◌, ◌++◌, map, length, refl, sym, ap, subst, ◌∙◌, append_assoc}
use Rattle.std.specs.Prelude.{Option, Some, None}
use Rattle.std.proofs.lemmas.List.{append-nil, length-map}
use Rattle.mdp_templates.specs.Packet.{PacketContent}
use Rattle.mdp_templates.specs.Snapshot.{SnapshotContent}
use Rattle.mdp_templates.specs.declared.instrument.Instrument.{Instrument}
use Rattle.mdp_books.specs.Feed.{sent_in}
use Rattle.mdp_arbiter.specs.Accepted.{Event, came, newest_snapshots, newest_snapshot}
use Rattle.mdp_arbiter.specs.Machine.{State, Move, Settles, first_state, next_move, after, after_all, state_at, trace}
use Rattle.mdp_arbiter.specs.Machine.Move.{passed, jumped}
use Rattle.mdp_templates.specs.Instrument.{ids_of}
use Rattle.mdp_arbiter.specs.Channel.{Channel}
use Rattle.mdp_arbiter.specs.Arbiter.{View as ArbiterView, state}
use Rattle.mdp_arbiter.specs.Moves.{Answers, after_move}
use Rattle.mdp_arbiter.specs.Standing.{HasPassed, StandsAt, StepsAs}
use Rattle.mdp_arbiter.specs.declared.step.Step.{Step}
use Rattle.mdp_arbiter.specs.declared.step.Step.TheVariants.{Pass, Jump}
use Rattle.mdp_arbiter.proofs.Jumps.{law_of_jumps}
use Rattle.mdp_arbiter.proofs.Runs.{law_of_events}
use Rattle.mdp_desks.specs.declared.desk.Desk.{Desk}
use Rattle.mdp_desks.specs.Desks.{desk_at_start, passed_desks, passed_moments, rebased_desks}
use Rattle.mdp_desks.specs.Changed.{changed_in}
use Rattle.mdp_desks.specs.Moments.{Moment, at_jump, moments}
use Rattle.mdp_desks.specs.Shows.{Shows}
use Rattle.mdp_engine.specs.Steps.{stepped_desks, stepped_moments}
use Rattle.mdp_engine.specs.Kept.{kept_lines}
use Rattle.mdp_engine.specs.Engine.{View, Stands, IsUnderWay, Advances, AreChanged}
use Rattle.mdp_engine.proofs.Keeping.{IsAsBefore, ShowsMore, holds_as_before, holds_more, kept-append, none_changed, none_kept}
use Rattle.mdp_desks.proofs.Showing.{shows_nothing, shows_passed, shows_jumped}

-- ---- possible moves, one after another

-- each of these moves is the possible one, and they lead from one state to the other
abbrev pub Leads : Channel → List Event → State → List Move → State → Type 0
Leads channel es s [] to = to ≡ s
Leads channel es s (m ∷ ms) to = (next_move channel es s ≡ Some m) × Leads channel es (after s m) ms to

pub leads-push : (channel : Channel) (es : List Event) (s : State) (ms : List Move) (to further : State) (m : Move)
    → Leads channel es s ms to → next_move channel es to ≡ Some m → further ≡ after to m → Leads channel es s (ms ++ m ∷ []) further
leads-push channel es s [] to further m leads possible on =
    (ap (next_move channel es) (sym leads) ∙ possible, on ∙ ap (λ (t : State). after t m) leads)
leads-push channel es s (x ∷ ms) to further m leads possible on = (leads.0, leads-push channel es (after s x) ms to further m leads.1 possible on)

leads_settled : (channel : Channel) (es : List Event) (s : State) (ms : List Move) (to : State)
    → Leads channel es s ms to → next_move channel es to ≡ None → Settles channel es s ms × (to ≡ after_all s ms)
leads_settled channel es s [] to leads none = (ap (next_move channel es) (sym leads) ∙ none, leads)
leads_settled channel es s (m ∷ ms) to leads none =
    let rest = leads_settled channel es (after s m) ms to leads.1 none in
    ((leads.0, rest.0), rest.1)

-- ---- one move

-- a move that was possible, what it leaves of the state, and that it is shown
record IsShown (listed : List Instrument) (es : List Event) (moves : List Move) (shown : List Moment) (now : View) (mid : ArbiterView) (desks : List Desk) : Type 0 where
  move : Move
  possible : next_move now.arbiter.channel es (state now.arbiter) ≡ Some move
  state : state mid ≡ after (state now.arbiter) move
  shows : Shows listed (moves ++ move ∷ []) desks shown

as_many : (listed : List Instrument) (ids : List ℤ) (es : List Event) (snapshots : List SnapshotContent) → ids ≡ ids_of listed
    → newest_snapshots ids es ≡ map (λ (s : SnapshotContent). Some s) snapshots → length snapshots ≡ length listed
as_many listed ids es snapshots are newest =
    sym (length-map snapshots (λ (s : SnapshotContent). Some s)) ∙ ap length (sym newest) ∙ length-map ids (λ (id : ℤ). newest_snapshot id es)
    ∙ ap length are ∙ length-map listed (λ (i : Instrument). i.id)

shown_step : {A : Type 0} (listed : List Instrument) (es : List Event) (moves : List Move) (shown : List Moment) (now : View) (mid : ArbiterView) (desks : List Desk) (step : Step A) (m : Option Move)
    → next_move now.arbiter.channel es (state now.arbiter) ≡ m → Answers m (Some step) → state mid ≡ after_move (state now.arbiter) m
    → mid.newest ≡ newest_snapshots now.arbiter.channel.ids es → now.arbiter.channel.ids ≡ ids_of listed → Shows listed moves now.desks shown
    → desks ≡ stepped_desks step mid.newest now.desks → IsShown listed es moves (shown ++ stepped_moments step now.desks) now mid desks
shown_step listed es moves shown now mid desks step None possible answers next newest ids shows are = elim answers [ ]
shown_step listed es moves shown now mid desks (Pass q) (Some (passed p)) possible answers next newest ids shows are =
    let same : desks ≡ passed_desks (sent_in p) now.desks = are ∙ ap (λ (x : PacketContent). passed_desks (sent_in x) now.desks) answers in
    let more : shown ++ passed_moments (sent_in q) now.desks ≡ shown ++ passed_moments (sent_in p) now.desks = ap (λ (x : PacketContent). shown ++ passed_moments (sent_in x) now.desks) answers in
    record { move = passed p; possible = possible; state = next; shows = shows_passed listed moves p now.desks desks shown (shown ++ passed_moments (sent_in q) now.desks) same more shows }
shown_step listed es moves shown now mid desks (Jump from to) (Some (jumped old new snapshots)) possible answers next newest ids shows are =
    let recovery = (law_of_jumps now.arbiter.channel es (state now.arbiter) old new snapshots possible).1 in
    let taken : mid.newest ≡ map (λ (s : SnapshotContent). Some s) snapshots = newest ∙ recovery.newest in
    let many : length snapshots ≡ length listed = as_many listed now.arbiter.channel.ids es snapshots ids recovery.newest in
    let same : desks ≡ rebased_desks (map (λ (s : SnapshotContent). Some s) snapshots) now.desks = are ∙ ap (λ (b : List (Option SnapshotContent)). rebased_desks b now.desks) taken in
    let more : shown ++ at_jump from to ∷ [] ≡ shown ++ at_jump old new ∷ [] = ap (λ (n : ℕ). shown ++ at_jump n to ∷ []) answers.0 ∙ ap (λ (n : ℕ). shown ++ at_jump old n ∷ []) answers.1 in
    record { move = jumped old new snapshots; possible = possible; state = next; shows = shows_jumped listed moves old new snapshots now.desks desks shown (shown ++ at_jump from to ∷ []) many same more shows }
shown_step listed es moves shown now mid desks (Pass q) (Some (jumped old new snapshots)) possible answers next newest ids shows are = elim answers [ ]
shown_step listed es moves shown now mid desks (Jump from to) (Some (passed p)) possible answers next newest ids shows are = elim answers [ ]

-- ---- moves so far

pub record HasMade (listed : List Instrument) (es : List Event) (moves : List Move) (gone : List Moment) (old now : View) : Type 0 where
  pub made : List Move
  pub leads : Leads old.arbiter.channel es (state old.arbiter) made (state now.arbiter)
  pub under_way : IsUnderWay listed es (moves ++ made) gone now

abbrev pub MovesTo : View → View → Type 0
MovesTo old now = (listed : List Instrument) (es : List Event) (moves : List Move) (gone : List Moment) → IsUnderWay listed es moves gone old → HasMade listed es moves gone old now

move_on : {A : Type 0} (old now new : View) (mid : ArbiterView) (step : Step A) (listed : List Instrument) (es : List Event) (moves : List Move) (gone : List Moment)
    → now.arbiter.channel ≡ old.arbiter.channel → StepsAs es now.arbiter mid (Some step) → mid.channel ≡ now.arbiter.channel
    → new.desks ≡ stepped_desks step mid.newest now.desks → ShowsMore (stepped_moments step now.desks) now new → new.arbiter ≡ mid
    → HasMade listed es moves gone old now → HasMade listed es moves gone old new
move_on old now new mid step listed es moves gone kept steps channel desks more arbiter so_far =
    let newest : mid.newest ≡ newest_snapshots now.arbiter.channel.ids es = steps.stands.newest ∙ ap (λ (c : Channel). newest_snapshots c.ids es) channel in
    let under = so_far.under_way in
    let shown = stepped_moments step now.desks in
    let s = shown_step listed es (moves ++ so_far.made) (gone ++ under.others) now mid new.desks step (next_move now.arbiter.channel es (state now.arbiter)) refl steps.answer steps.state newest under.ids under.shows desks in
    let possible : next_move old.arbiter.channel es (state now.arbiter) ≡ Some s.move =
    ap (λ (c : Channel). next_move c es (state now.arbiter)) (sym kept) ∙ s.possible in
    let next : state new.arbiter ≡ after (state now.arbiter) s.move = ap state arbiter ∙ s.state in
    record {
      made = so_far.made ++ s.move ∷ [];
      leads = leads-push old.arbiter.channel es (state old.arbiter) so_far.made (state now.arbiter) (state new.arbiter) s.move so_far.leads possible next;
      under_way = record {
        stands = subst (StandsAt es) (sym arbiter) steps.stands;
        ids = ap (λ (v : ArbiterView). v.channel.ids) arbiter ∙ ap (λ (c : Channel). c.ids) channel ∙ under.ids;
        others = under.others ++ shown;
        shows =
            subst (λ (ms : List Move). Shows listed ms new.desks (gone ++ (under.others ++ shown))) (append_assoc moves so_far.made (s.move ∷ []))
            (subst (λ (all : List Moment). Shows listed ((moves ++ so_far.made) ++ s.move ∷ []) new.desks all) (append_assoc gone under.others shown) s.shows);
        holds = holds_more listed under.others shown now new under.holds more;
      };
    }

-- a step more
pub moves_further : {A : Type 0} (old now new : View) (mid : ArbiterView) (step : Step A) → MovesTo old now → now.arbiter.channel ≡ old.arbiter.channel
    → ((es : List Event) → StandsAt es now.arbiter → StepsAs es now.arbiter mid (Some step)) → mid.channel ≡ now.arbiter.channel
    → new.desks ≡ stepped_desks step mid.newest now.desks → ShowsMore (stepped_moments step now.desks) now new → new.arbiter ≡ mid → MovesTo old new
moves_further old now new mid step so_far kept steps channel desks more arbiter listed es moves gone under =
    let made = so_far listed es moves gone under in
    move_on old now new mid step listed es moves gone kept (steps es made.under_way.stands) channel desks more arbiter made

pub no_move : {A : Type 0} (m : Option Move) (step : Option (Step A)) → step ≡ None → Answers m step → m ≡ None
no_move None step is answers = refl
no_move (Some m) step is answers = elim (subst (Answers (Some m)) is answers) [ ]

-- no step more
pub moves_settled : {A : Type 0} (old now new : View) (step : Option (Step A)) → step ≡ None → MovesTo old now → now.arbiter.channel ≡ old.arbiter.channel
    → ((es : List Event) → StandsAt es now.arbiter → StepsAs es now.arbiter new.arbiter step) → new.arbiter.channel ≡ now.arbiter.channel
    → IsAsBefore now new → Advances old new
moves_settled old now new step is so_far kept steps channel same listed es moves gone under =
    let so = so_far listed es moves gone under in
    let s = steps es so.under_way.stands in
    let still : next_move now.arbiter.channel es (state now.arbiter) ≡ None = no_move (next_move now.arbiter.channel es (state now.arbiter)) step is s.answer in
    let none_more : next_move old.arbiter.channel es (state now.arbiter) ≡ None =
    ap (λ (c : Channel). next_move c es (state now.arbiter)) (sym kept) ∙ still in
    let settled = leads_settled old.arbiter.channel es (state old.arbiter) so.made (state now.arbiter) so.leads none_more in (
      so.made,
      record { settles = settled.0; state = s.state ∙ ap (after_move (state now.arbiter)) still ∙ settled.1 },
      record {
        stands = s.stands;
        ids = ap (λ (c : Channel). c.ids) channel ∙ so.under_way.ids;
        others = so.under_way.others;
        shows = subst (λ (ds : List Desk). Shows listed (moves ++ so.made) ds (gone ++ so.under_way.others)) (sym same.desks) so.under_way.shows;
        holds = holds_as_before listed so.under_way.others now new same so.under_way.holds;
      },
    )

-- ---- an event

-- an event is taken in, and its moves are still to be made
pub taken_further : (listed : List Instrument) (es : List Event) (e : Event) (gone : List Moment) (old mid : View)
    → StandsAt (es ++ e ∷ []) mid.arbiter → mid.arbiter.channel ≡ old.arbiter.channel → IsAsBefore old mid
    → Stands listed es gone old → IsUnderWay listed (es ++ e ∷ []) (trace old.arbiter.channel es) gone mid
taken_further listed es e gone old mid taken channel same stands = record {
  stands = taken;
  ids = ap (λ (c : Channel). c.ids) channel ∙ stands.settled.ids;
  others = stands.others;
  shows = subst (λ (ds : List Desk). Shows listed (trace old.arbiter.channel es) ds (gone ++ stands.others)) (sym same.desks) stands.shows;
  holds = holds_as_before listed stands.others old mid same stands.holds;
}

pub stands_further : (listed : List Instrument) (es : List Event) (e : Event) (gone : List Moment) (old mid new : View)
    → StandsAt (es ++ e ∷ []) mid.arbiter → state mid.arbiter ≡ state old.arbiter → mid.arbiter.channel ≡ old.arbiter.channel → IsAsBefore old mid
    → new.arbiter.channel ≡ mid.arbiter.channel → Advances mid new → Stands listed es gone old → Stands listed (es ++ e ∷ []) gone new
stands_further listed es e gone old mid new taken keeps channel as_it_was kept advances stands =
    let moved = advances listed (es ++ e ∷ []) (trace old.arbiter.channel es) gone (taken_further listed es e gone old mid taken channel as_it_was stands) in
    let settles : Settles old.arbiter.channel (es ++ e ∷ []) (state_at old.arbiter.channel es) moved.0 =
    subst (λ (s : State). Settles old.arbiter.channel (es ++ e ∷ []) s moved.0) (keeps ∙ stands.settled.state)
    (subst (λ (c : Channel). Settles c (es ++ e ∷ []) (state mid.arbiter) moved.0) channel moved.1.settles) in
    let law = law_of_events old.arbiter.channel es e moved.0 settles in
    let same : new.arbiter.channel ≡ old.arbiter.channel = kept ∙ channel in
    record {
      settled = record {
        stands = moved.2.stands;
        ids = moved.2.ids;
        state =
            moved.1.state ∙ ap (λ (s : State). after_all s moved.0) (keeps ∙ stands.settled.state) ∙ sym law.1
            ∙ ap (λ (c : Channel). state_at c (es ++ e ∷ [])) (sym same);
      };
      others = moved.2.others;
      shows =
          subst (λ (c : Channel). Shows listed (trace c (es ++ e ∷ [])) new.desks (gone ++ moved.2.others)) (sym same)
          (subst (λ (ms : List Move). Shows listed ms new.desks (gone ++ moved.2.others)) (sym law.0) moved.2.shows);
      holds = moved.2.holds;
    }

-- a packet that passed at once and was shown
pub stands_passed : (listed : List Instrument) (es : List Event) (p : PacketContent) (gone : List Moment) (old new : View)
    → HasPassed p (es ++ came p ∷ []) old.arbiter new.arbiter → new.arbiter.channel ≡ old.arbiter.channel
    → new.desks ≡ passed_desks (sent_in p) old.desks → ShowsMore (passed_moments (sent_in p) old.desks) old new
    → Stands listed es gone old → Stands listed (es ++ came p ∷ []) gone new
stands_passed listed es p gone old new has same desks more stands =
    let all = es ++ came p ∷ [] in
    let one = passed p ∷ [] in
    let channel = old.arbiter.channel in
    let from : state old.arbiter ≡ state_at channel es = stands.settled.state in
    let settles : Settles channel all (state_at channel es) one =
    subst (λ (s : State). Settles channel all s one) from (has.possible, ap (next_move channel all) (sym has.state) ∙ has.settled) in
    let law = law_of_events channel es (came p) one settles in
    let here = passed_moments (sent_in p) old.desks in
    let shown : Shows listed (trace channel es ++ one) new.desks (gone ++ (stands.others ++ here)) =
    shows_passed listed (trace channel es) p old.desks new.desks (gone ++ stands.others) (gone ++ (stands.others ++ here)) desks (sym (append_assoc gone stands.others here)) stands.shows in
    record {
      settled = record {
        stands = has.stands;
        ids = ap (λ (c : Channel). c.ids) same ∙ stands.settled.ids;
        state = has.state ∙ ap (λ (s : State). after s (passed p)) from ∙ sym law.1 ∙ ap (λ (c : Channel). state_at c all) (sym same);
      };
      others = stands.others ++ here;
      shows =
          subst (λ (c : Channel). Shows listed (trace c all) new.desks (gone ++ (stands.others ++ here))) (sym same)
          (subst (λ (ms : List Move). Shows listed ms new.desks (gone ++ (stands.others ++ here))) (sym law.0) shown);
      holds = holds_more listed stands.others here old new stands.holds more;
    }

-- before any event
pub stands_at_start : (listed : List Instrument) (arbiter : ArbiterView) (desks : List Desk) (v : View) → v.arbiter ≡ arbiter → v.desks ≡ desks → v.held ≡ kept_lines v.keeps_lines [] → v.changed ≡ changed_in listed []
    → StandsAt [] arbiter → state arbiter ≡ first_state arbiter.channel → arbiter.channel.ids ≡ ids_of listed → desks ≡ map desk_at_start listed → Stands listed [] [] v
stands_at_start listed arbiter desks v arb ds held changed stands begins ids are = record {
  settled = record {
    stands = subst (StandsAt []) (sym arb) stands;
    ids = ap (λ (a : ArbiterView). a.channel.ids) arb ∙ ids;
    state = ap state arb ∙ begins ∙ ap (λ (a : ArbiterView). first_state a.channel) (sym arb);
  };
  others = [];
  shows = shows_nothing listed v.desks (ds ∙ are);
  holds = record { lines_are = held; changed_are = changed };
}

-- ---- what is let go

-- the lines of what was let go and those that are held are the lines of all moments
pub lines_so_far : (listed : List Instrument) (es : List Event) (gone : List Moment) (v : View) → Stands listed es gone v
    → kept_lines v.keeps_lines gone ++ v.held ≡ kept_lines v.keeps_lines (moments listed (trace v.arbiter.channel es))
lines_so_far listed es gone v stands =
    ap (λ (t : List ℕ). kept_lines v.keeps_lines gone ++ t) stands.holds.lines_are ∙ sym (kept-append v.keeps_lines gone stands.others)
    ∙ ap (kept_lines v.keeps_lines) stands.shows.shown_is

pub stands_cleared : (listed : List Instrument) (es : List Event) (gone : List Moment) (old new : View) → new ≡ record old { held = []; changed = map (λ _. false) old.changed }
    → Stands listed es gone old → Stands listed es (moments listed (trace old.arbiter.channel es)) new
stands_cleared listed es gone old new is stands =
    let cleared : View = record old { held = []; changed = map (λ _. false) old.changed } in
    let all = moments listed (trace old.arbiter.channel es) in
    subst (Stands listed es all) (sym is)
    (let stood : Stands listed es all cleared = record {
      settled = stands.settled;
      others = [];
      shows = subst (Shows listed (trace old.arbiter.channel es) old.desks) (stands.shows.shown_is ∙ sym (append-nil all)) stands.shows;
      holds = record {
        lines_are = none_kept old.keeps_lines;
        changed_are = ap (map (λ _. false)) stands.holds.changed_are ∙ none_changed listed stands.others;
      };
    } in stood)

pub stands_unkept : (listed : List Instrument) (es : List Event) (gone : List Moment) (old new : View) → new ≡ record old { held = []; keeps_lines = false } → Stands listed es gone old → Stands listed es gone new
stands_unkept listed es gone old new is stands =
    let unkept : View = record old { held = []; keeps_lines = false } in
    subst (Stands listed es gone) (sym is)
    (let stood : Stands listed es gone unkept = record {
      settled = stands.settled;
      others = stands.others;
      shows = stands.shows;
      holds = record { lines_are = refl; changed_are = stands.holds.changed_are };
    } in stood)

pub changed_since : (listed : List Instrument) (es : List Event) (gone : List Moment) (v : View) → Stands listed es gone v → AreChanged listed (moments listed (trace v.arbiter.channel es)) gone v.changed
changed_since listed es gone v stands = (stands.others, sym stands.shows.shown_is, stands.holds.changed_are)
