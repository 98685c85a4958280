-- Instruments whose lines are accepted fit.
use Rattle.std.proofs.Common.{◌≡◌, ℕ, ℤ, ◌<◌, Bool, true, false, List, [], ◌∷◌, ◌++◌, length, Option, None, Some, Result, Ok, refl, sym, ap, arith, inl, inr, subst}
use Rattle.std.specs.Prelude.{◌↔◌, IsTrue, not, ◌&&◌}
use Rattle.std.specs.Ordering.{int_eq}
use Rattle.std.proofs.lemmas.Bool.{cases_Bool, and_from, and_parts, not-true, not_from_false, leb-false, both_ways}
use Rattle.std.proofs.lemmas.Bool.Decides.{Decides-int_eq}
use Rattle.std.proofs.lemmas.List.{length_push}
use Rattle.std.proofs.lemmas.List.Folds.{Any-from_list_any, list_any-from_Any}
use Rattle.mdp_templates.specs.declared.instrument.Instrument.{Instrument}
use Rattle.mdp_templates.specs.declared.instrument.InstrumentKind.{InstrumentKind}
use Rattle.mdp_templates.specs.declared.instrument.InstrumentKind.TheVariants.{Outright, Calendar}
use Rattle.mdp_templates.specs.Instrument.{HasOutright, HasLegs, HasDepth, FitsAfter, AreFit}
use Rattle.mdp_templates.proofs.Fits.{fit, fit_push}
use Rattle.mdp_capture.specs.Line.{LineContent, Blank, Listing, Packet, Closing, Skipped}
use Rattle.mdp_capture.specs.Capture.{CaptureContent, RefusedLine, has_outright, is_outright, has_legs, refusal_after, refusal_of, unless_refused, add_line}
use Rattle.mdp_capture.specs.Parsed.{ListsDepth}
use Rattle.mdp_capture.specs.FitSoFar.{AreFitSoFar}
use Rattle.mdp_capture.specs.declared.fault.CaptureRefusal.{CaptureRefusal}
use Rattle.mdp_templates.specs.declared.feed.Feed.TheVariants as feeds
use Rattle.mdp_capture.proofs.Accepted.{accepted, in_time, other_id}

kind_of : (kind : InstrumentKind) → is_outright kind ≡ true → kind ≡ Outright
kind_of Outright is = refl
kind_of (Calendar leg1 leg2) is = absurd (cc)

-- the test of an outright of this id, both ways
there : (i : Instrument) (id : ℤ) → (int_eq i.id id && is_outright i.kind) ≡ true → (i.id ≡ id) × (i.kind ≡ Outright)
there i id is =
    let both = and_parts (int_eq i.id id) (is_outright i.kind) is in ((Decides-int_eq i.id id).0 both.0, kind_of i.kind both.1)

found_outright : (xs : List Instrument) (id : ℤ) → has_outright xs id ≡ true → HasOutright xs id
found_outright xs id is =
    let found = Any-from_list_any (λ (other : Instrument). int_eq other.id id && is_outright other.kind) xs is in
    (found.0, found.1, found.2, found.3, there found.1 id found.4)

outright_found : (xs : List Instrument) (id : ℤ) → HasOutright xs id → has_outright xs id ≡ true
outright_found xs id (k, i, below, at, is) =
    list_any-from_Any (λ (other : Instrument). int_eq other.id id && is_outright other.kind) xs
    (k, i, below, at, and_from (int_eq i.id id) (is_outright i.kind) ((Decides-int_eq i.id id).1 is.0) (ap is_outright is.1))

pub legs_found : (xs : List Instrument) (kind : InstrumentKind) → has_legs xs kind ≡ true → HasLegs xs kind
legs_found xs Outright is = tt
legs_found xs (Calendar leg1 leg2) is =
    let one = has_outright xs leg1 in
    let two = has_outright xs leg2 in
    let both = and_parts (not (int_eq leg1 leg2) && one) two is in
    let first = and_parts (not (int_eq leg1 leg2)) one both.0 in (
      λ same. both_ways (int_eq leg1 leg2) (not-true (int_eq leg1 leg2) first.0) ((Decides-int_eq leg1 leg2).1 same),
      found_outright xs leg1 first.1,
      found_outright xs leg2 both.1,
    )

pub legs_are : (xs : List Instrument) (kind : InstrumentKind) → HasLegs xs kind → has_legs xs kind ≡ true
legs_are xs Outright legs = refl
legs_are xs (Calendar leg1 leg2) legs =
    let one = has_outright xs leg1 in
    let two = has_outright xs leg2 in
    let apart : int_eq leg1 leg2 ≡ false = elim (cases_Bool (int_eq leg1 leg2)) [ inl same ↦ absurd (legs.0 ((Decides-int_eq leg1 leg2).0 same)) | inr other ↦ other ] in
    and_from (not (int_eq leg1 leg2) && one) two
    (and_from (not (int_eq leg1 leg2)) one (not_from_false (int_eq leg1 leg2) apart) (outright_found xs leg1 legs.1))
    (outright_found xs leg2 legs.2)

-- a test of the legs tells what the definition of a capture does
pub tells_legs : (b : Bool) (xs : List Instrument) (kind : InstrumentKind) → (IsTrue b ↔ HasLegs xs kind) → b ≡ has_legs xs kind
tells_legs true xs kind both = sym (legs_are xs kind (both.0 refl))
tells_legs false xs kind both =
    elim (cases_Bool (has_legs xs kind)) [
      | inl legs ↦ let is : IsTrue false = both.1 (legs_found xs kind legs) in absurd (cc)
      | inr none ↦ sym none
    ]

accepted_fits : (listed : List Instrument) (instrument : Instrument) → HasDepth instrument → refusal_after listed instrument ≡ None → FitsAfter listed instrument
accepted_fits listed instrument depth is = record {
  id_is_new = other_id listed instrument (accepted listed instrument is).unlisted;
  legs_stand = legs_found listed instrument.kind (accepted listed instrument is).has_legs;
  has_depth = depth;
}

pub one_more : (listed : List Instrument) (instrument : Instrument) → HasDepth instrument → refusal_after listed instrument ≡ None → AreFitSoFar listed → AreFitSoFar (listed ++ instrument ∷ [])
one_more listed instrument depth is so_far = record {
  few = omega (arith, leb-false 512 (length listed) (accepted listed instrument is).few, length_push listed instrument);
  each = fit_push listed instrument so_far.each (accepted_fits listed instrument depth is);
}

-- no instrument yet
pub fit_at_first : AreFitSoFar []
fit_at_first = record { few = omega arith; each = λ k d below. absurd (omega (arith, below)) }

pub unrefused : (n : ℕ) (o : Option CaptureRefusal) (next new : CaptureContent) → unless_refused n o next ≡ Ok new → (o ≡ None) × (next ≡ new)
unrefused n None next new is = (refl, cc)
unrefused n (Some refusal) next new is = absurd (cc)

abbrev Fits : CaptureContent → Type 0
Fits capture = AreFitSoFar capture.instruments

moved : (c d : CaptureContent) → (let x : Result CaptureContent RefusedLine = Ok c in x) ≡ Ok d → Fits c → Fits d
moved c d is fits = let same : c ≡ d = cc in subst Fits same fits

pub line_keeps_fit : (n : ℕ) (line : LineContent) (old new : CaptureContent) → ListsDepth line → add_line n line old ≡ Ok new → AreFitSoFar old.instruments → AreFitSoFar new.instruments
line_keeps_fit n Blank old new depth is fits = moved _ new is fits
line_keeps_fit n (Listing instrument) old new depth is fits =
    let taken = unrefused n (refusal_of old instrument) (record old { instruments = old.instruments ++ instrument ∷ [] }) new is in
    subst Fits taken.1 (one_more old.instruments instrument depth (in_time old instrument taken.0).1 fits)
line_keeps_fit n (Packet feeds.A bytes) old new depth is fits = moved _ new is fits
line_keeps_fit n (Packet feeds.B bytes) old new depth is fits = moved _ new is fits
line_keeps_fit n (Packet feeds.S bytes) old new depth is fits = moved _ new is fits
line_keeps_fit n Closing old new depth is fits = moved _ new is fits
line_keeps_fit n (Skipped skip) old new depth is fits = moved _ new is fits

-- with an instrument at all
pub whole_is_fit : (xs : List Instrument) → 0 < length xs → AreFitSoFar xs → AreFit xs
whole_is_fit xs some so_far = fit xs some so_far.few so_far.each
