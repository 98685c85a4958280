-- The moves of honest events have the moments that the complete feed owes, and so its lines.
use Rattle.std.proofs.Common.{◌≡◌, ◌<◌, ℤ, ℕ, ◌+◌, Bool, true, List, [], ◌∷◌, ◌++◌, map, take, length, get_or, sym, ap, subst, ◌∙◌}
use Rattle.std.proofs.lemmas.List.{map-append, take_more}
use Rattle.mdp_templates.specs.declared.instrument.Instrument.{Instrument}
use Rattle.mdp_arbiter.specs.Accepted.{Event}
use Rattle.mdp_templates.specs.Instrument.{ids_of}
use Rattle.mdp_arbiter.specs.Channel.{Channel, channel_of}
use Rattle.mdp_arbiter.specs.Machine.{moves_of, trace}
use Rattle.mdp_desks.specs.Moments.{Moment, moments, shown_lines, text_of_moments}
use Rattle.mdp_engine.specs.Owed.{owed_moments, numbered_moves}
use Rattle.mdp_engine.specs.Kept.{kept_lines}
use Rattle.mdp_engine.specs.Engine.{LawOfOwedText, Stands, View}
use Rattle.mdp_engine.specs.MomentLaws.{LawOfHonestMoments}
use Rattle.mdp_engine.specs.Steps.{event_of}
use Rattle.mdp_engine.specs.declared.event.Event.{Event as Taken}
use Rattle.mdp_engine.proofs.Agreeing.{law_of_owed_moments}
use Rattle.mdp_engine.proofs.Honesty.{honest_moves_agree}
use Rattle.mdp_engine.proofs.Moving.{lines_so_far}

pub law_of_honest_moments : LawOfHonestMoments
law_of_honest_moments channel feed es honest =
    law_of_owed_moments channel.listed feed (moves_of channel es) honest.complete (honest_moves_agree channel feed es honest)

-- ---- an engine

pub listed_channel : (listed : List Instrument) (channel : Channel) → channel.ids ≡ ids_of listed → channel ≡ channel_of (record { listed = listed; room = channel.room; start = channel.start })
listed_channel listed channel is = ap (λ (ids : List ℤ). record { room = channel.room; ids = ids; start = channel.start }) is

-- where lines are kept
pub text_so_far : (listed : List Instrument) (es : List Event) (gone : List Moment) (v : View) → v.keeps_lines ≡ true → Stands listed es gone v → text_of_moments gone ++ v.held ≡ shown_lines listed (trace v.arbiter.channel es)
text_so_far listed es gone v keeps stands =
    subst (λ (b : Bool). kept_lines b gone ++ v.held ≡ kept_lines b (moments listed (trace v.arbiter.channel es))) keeps (lines_so_far listed es gone v stands)

pub law_of_owed_text : LawOfOwedText
law_of_owed_text listed feed es gone v honest stands =
    let is = listed_channel listed v.arbiter.channel stands.settled.ids in
    lines_so_far listed es gone v stands
    ∙ subst (λ (c : Channel). kept_lines v.keeps_lines (moments listed (trace c es)) ≡ kept_lines v.keeps_lines (owed_moments listed feed (numbered_moves (trace c es)))) (sym is)
    (ap (kept_lines v.keeps_lines) (law_of_honest_moments (record { listed = listed; room = v.arbiter.channel.room; start = v.arbiter.channel.start }) feed es honest))

-- ---- a list of events

pub taken_more : {A : Type 0} (events : List (Taken A)) (i : ℕ) (event : Taken A) (e : Event) → i < length events → event ≡ get_or events i event → e ≡ event_of event
    → map event_of (take i events) ++ e ∷ [] ≡ map event_of (take (i + 1) events)
taken_more events i event e within at is =
    ap (λ (x : Event). map event_of (take i events) ++ x ∷ []) (is ∙ ap event_of at)
    ∙ sym (map-append event_of (take i events) (get_or events i event ∷ []))
    ∙ ap (map event_of) (sym (take_more events i event within))
