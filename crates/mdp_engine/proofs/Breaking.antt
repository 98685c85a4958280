-- Where memory runs out, the lines of what was let go and what is held begin the lines of all events.
use Rattle.std.proofs.Common.{◌≡◌, ℕ, Bool, true, List, [], ◌∷◌, ◌++◌, length, refl, sym, ap, subst, ◌∙◌, append_assoc, arith}
use Rattle.std.specs.Prelude.{Err, IsErrAnd, Ok, Result, Some}
use Rattle.std.proofs.Math.Seq.{take-append_seam}
use Rattle.std.proofs.lemmas.List.{append-nil, take_all}
use Rattle.mdp_templates.specs.Packet.{PacketContent}
use Rattle.mdp_templates.specs.declared.instrument.Instrument.{Instrument}
use Rattle.mdp_books.specs.Feed.{sent_in}
use Rattle.mdp_print.specs.Pieces.{BeginsWith, BreaksOff}
use Rattle.mdp_print.proofs.Fronts.{begins_behind, begins_more}
use Rattle.mdp_arbiter.specs.Accepted.{Event, came}
use Rattle.mdp_arbiter.specs.Machine.{State, Move, Settles, after, go_on, settle, state_at, trace}
use Rattle.mdp_arbiter.specs.Channel.{Channel}
use Rattle.mdp_arbiter.specs.Arbiter.{View as ArbiterView, state}
use Rattle.mdp_arbiter.specs.Standing.{HasPassed, StandsAt, StepsAs}
use Rattle.mdp_arbiter.specs.declared.step.Step.{Step}
use Rattle.mdp_arbiter.proofs.Runs.{law_of_events, law_of_fronts, law_of_moves}
use Rattle.mdp_desks.specs.Desks.{passed_desks, passed_moments}
use Rattle.mdp_desks.specs.Changed.{changed_through}
use Rattle.mdp_desks.specs.Moments.{Moment, moments, moments_after}
use Rattle.mdp_desks.proofs.Moments.{moments-append}
use Rattle.mdp_engine.specs.Kept.{kept_lines}
use Rattle.mdp_engine.specs.Steps.{stepped_desks, stepped_moments}
use Rattle.mdp_engine.specs.Engine.{View, Stands, BreaksOffOnWay, HasBrokenOff, TakesIn}
use Rattle.mdp_engine.proofs.Keeping.{IsAsBefore, kept-append}
use Rattle.mdp_engine.proofs.Moving.{Leads, MovesTo, lines_so_far, moves_further, stands_passed, taken_further}

-- what went out, what was held and a text that breaks off begin what begins with all of that text
begins_so : (out held text after whole more : List ℕ) → (out ++ (held ++ text)) ++ more ≡ whole → BreaksOff text held after → BeginsWith whole (out ++ after)
begins_so out held text after whole more is off =
    subst (λ (t : List ℕ). BeginsWith t (out ++ after)) is (begins_more (out ++ after) (out ++ (held ++ text)) more (begins_behind out (held ++ text) after off.short))

-- the lines of moves and of further moves
lines_further : (keeps : Bool) (listed : List Instrument) (moves later : List Move) → kept_lines keeps (moments listed (moves ++ later)) ≡ kept_lines keeps (moments listed moves) ++ kept_lines keeps (moments_after listed moves later)
lines_further keeps listed moves later = ap (kept_lines keeps) (moments-append listed [] moves later) ∙ kept-append keeps (moments listed moves) (moments_after listed moves later)

-- ---- events that add nothing

begins_events : (listed : List Instrument) (es further : List Event) (gone : List Moment) (v : View) → Stands listed es gone v
    → BeginsWith (kept_lines v.keeps_lines (moments listed (trace v.arbiter.channel (es ++ further)))) (kept_lines v.keeps_lines gone ++ v.held)
begins_events listed es further gone v stands =
    let channel = v.arbiter.channel in
    let keeps = v.keeps_lines in
    let out = kept_lines keeps gone in
    let later = go_on channel es (state_at channel es) further in
    let more = kept_lines keeps (moments_after listed (trace channel es) later) in
    let all : kept_lines keeps (moments listed (trace channel (es ++ further))) ≡ (out ++ v.held) ++ more =
    ap (λ (ms : List Move). kept_lines keeps (moments listed ms)) (law_of_fronts channel es further) ∙ lines_further keeps listed (trace channel es) later
    ∙ ap (λ (t : List ℕ). t ++ more) (sym (lines_so_far listed es gone v stands)) in
    subst (λ (t : List ℕ). BeginsWith t (out ++ v.held)) (sym all) (take-append_seam (out ++ v.held) more)

-- nothing was held more
pub broken_off_before : (further : List Event) (old new : View) → new.held ≡ old.held → HasBrokenOff further old new
broken_off_before further old new held listed es gone stands =
    subst (λ (h : List ℕ). BeginsWith (kept_lines old.keeps_lines (moments listed (trace old.arbiter.channel (es ++ further)))) (kept_lines old.keeps_lines gone ++ h)) (sym held) (begins_events listed es further gone old stands)

-- memory had run out before
pub takes_nothing : {T E : Type 0} (P : E → Type 0) (further : List Event) (result : Result T E) (v : View) → IsErrAnd result P → v.has_failed ≡ true → TakesIn further result v v
takes_nothing P further (Ok done) v is failed = absurd is
takes_nothing P further (Err fault) v is failed = record {
  channel = tt;
  sound = tt;
  fails = failed;
  begins = broken_off_before further v v refl;
  keeps = refl;
  front = take_all (length v.held) v.held (omega arith);
  stays = λ _. refl;
  rests = λ _. refl;
}

-- further events only add lines
pub broken_off_more : (further more : List Event) (old new : View) → HasBrokenOff further old new → HasBrokenOff (further ++ more) old new
broken_off_more further more old new broken listed es gone stands =
    let channel = old.arbiter.channel in
    let keeps = old.keeps_lines in
    let out = kept_lines keeps gone in
    let front = es ++ further in
    let later = go_on channel front (state_at channel front) more in
    let lines = kept_lines keeps (moments_after listed (trace channel front) later) in
    let all : kept_lines keeps (moments listed (trace channel (es ++ (further ++ more)))) ≡ kept_lines keeps (moments listed (trace channel front)) ++ lines =
    ap (λ (xs : List Event). kept_lines keeps (moments listed (trace channel xs))) (sym (append_assoc es further more))
    ∙ ap (λ (ms : List Move). kept_lines keeps (moments listed ms)) (law_of_fronts channel front more)
    ∙ lines_further keeps listed (trace channel front) later in
    subst (λ (t : List ℕ). BeginsWith t (out ++ new.held)) (sym all) (begins_more (out ++ new.held) (kept_lines keeps (moments listed (trace channel front))) lines (broken listed es gone stands))

-- ---- a packet that passes at once

pub broken_off_passing : (p : PacketContent) (old new : View) (mid : ArbiterView) → ((es : List Event) → StandsAt es old.arbiter → HasPassed p (es ++ came p ∷ []) old.arbiter mid)
    → mid.channel ≡ old.arbiter.channel → BreaksOff (kept_lines old.keeps_lines (passed_moments (sent_in p) old.desks)) old.held new.held → HasBrokenOff (came p ∷ []) old new
broken_off_passing p old new mid passes same off listed es gone stands =
    let here = passed_moments (sent_in p) old.desks in
    let text = kept_lines old.keeps_lines here in
    let out = kept_lines old.keeps_lines gone in
    let whole : View = record old { arbiter = mid; desks = passed_desks (sent_in p) old.desks; held = old.held ++ text; changed = changed_through old.changed here } in
    let stood : Stands listed (es ++ came p ∷ []) gone whole =
    stands_passed listed es p gone old whole (passes es stands.settled.stands) same refl (record { lines = refl; changed = refl; keeps = refl }) stands in
    let is = append-nil (out ++ (old.held ++ text)) ∙ lines_so_far listed (es ++ came p ∷ []) gone whole stood
    ∙ ap (λ (c : Channel). kept_lines old.keeps_lines (moments listed (trace c (es ++ came p ∷ [])))) same in
    begins_so out old.held text new.held _ [] is off

-- ---- a step

leads_on : (channel : Channel) (es : List Event) (s : State) (ms : List Move) (to : State) (rest : List Move) → Leads channel es s ms to → Settles channel es to rest → Settles channel es s (ms ++ rest)
leads_on channel es s [] to rest leads settles = subst (λ (t : State). Settles channel es t rest) leads settles
leads_on channel es s (m ∷ ms) to rest leads settles = (leads.0, leads_on channel es (after s m) ms to rest leads.1 settles)

pub way_breaks_off : {A : Type 0} (old now new : View) (mid : ArbiterView) (step : Step A) → MovesTo old now → now.arbiter.channel ≡ old.arbiter.channel → now.keeps_lines ≡ old.keeps_lines
    → ((es : List Event) → StandsAt es now.arbiter → StepsAs es now.arbiter mid (Some step)) → mid.channel ≡ now.arbiter.channel
    → BreaksOff (kept_lines now.keeps_lines (stepped_moments step now.desks)) now.held new.held → BreaksOffOnWay old new
way_breaks_off old now new mid step so_far kept keeps steps channel off listed es moves gone under =
    let here = stepped_moments step now.desks in
    let text = kept_lines now.keeps_lines here in
    let out = kept_lines now.keeps_lines gone in
    let whole : View = record now { arbiter = mid; desks = stepped_desks step mid.newest now.desks; held = now.held ++ text; changed = changed_through now.changed here } in
    let so = moves_further old now whole mid step so_far kept steps channel refl (record { lines = refl; changed = refl; keeps = refl }) refl listed es moves gone under in
    let rest = settle old.arbiter.channel es (state mid) in
    let settles = leads_on old.arbiter.channel es (state old.arbiter) so.made (state mid) rest so.leads (law_of_moves old.arbiter.channel es (state mid)).0 in
    let all : so.made ++ rest ≡ settle old.arbiter.channel es (state old.arbiter) = (law_of_moves old.arbiter.channel es (state old.arbiter)).1 (so.made ++ rest) settles in
    let more = kept_lines now.keeps_lines (moments_after listed (moves ++ so.made) rest) in
    let is : (out ++ (now.held ++ text)) ++ more ≡ kept_lines now.keeps_lines (moments listed (moves ++ settle old.arbiter.channel es (state old.arbiter))) =
    ap (λ (t : List ℕ). t ++ more)
    (ap (λ (t : List ℕ). out ++ t) so.under_way.holds.lines_are ∙ sym (kept-append now.keeps_lines gone so.under_way.others) ∙ ap (kept_lines now.keeps_lines) so.under_way.shows.shown_is)
    ∙ sym (lines_further now.keeps_lines listed (moves ++ so.made) rest)
    ∙ ap (λ (ms : List Move). kept_lines now.keeps_lines (moments listed ms)) (append_assoc moves so.made rest ∙ ap (λ (ms : List Move). moves ++ ms) all) in
    subst (λ (b : Bool). BeginsWith (kept_lines b (moments listed (moves ++ settle old.arbiter.channel es (state old.arbiter)))) (kept_lines b gone ++ new.held)) keeps
    (begins_so out now.held text new.held _ more is off)

-- ---- an event

pub broken_off_on_way : (e : Event) (old mid new : View) → ((es : List Event) → StandsAt es old.arbiter → StandsAt (es ++ e ∷ []) mid.arbiter)
    → state mid.arbiter ≡ state old.arbiter → mid.arbiter.channel ≡ old.arbiter.channel → IsAsBefore old mid → BreaksOffOnWay mid new → HasBrokenOff (e ∷ []) old new
broken_off_on_way e old mid new taken keeps same as_it_was breaks listed es gone stands =
    let channel = old.arbiter.channel in
    let all = es ++ e ∷ [] in
    let begun = breaks listed all (trace channel es) gone (taken_further listed es e gone old mid (taken es stands.settled.stands) same as_it_was stands) in
    let law = law_of_events channel es e (settle channel all (state_at channel es)) (law_of_moves channel all (state_at channel es)).0 in
    let moved : settle mid.arbiter.channel all (state mid.arbiter) ≡ settle channel all (state_at channel es) =
    ap (λ (c : Channel). settle c all (state mid.arbiter)) same ∙ ap (settle channel all) (keeps ∙ stands.settled.state) in
    let here : BeginsWith (kept_lines old.keeps_lines (moments listed (trace channel es ++ settle mid.arbiter.channel all (state mid.arbiter)))) (kept_lines old.keeps_lines gone ++ new.held) =
    subst (λ (b : Bool). BeginsWith (kept_lines b (moments listed (trace channel es ++ settle mid.arbiter.channel all (state mid.arbiter)))) (kept_lines b gone ++ new.held)) as_it_was.keeps begun in
    subst (λ (ms : List Move). BeginsWith (kept_lines old.keeps_lines (moments listed ms)) (kept_lines old.keeps_lines gone ++ new.held)) (ap (λ (ms : List Move). trace channel es ++ ms) moved ∙ sym law.0) here
