-- A text of which each list is what its lines bring, and whose instruments fit, is not refused.
use Rattle.std.proofs.Common.{◌≡◌, ◌≢◌, get_or, ℕ, zero, suc, inl, inr, ◌+◌, ◌-◌, ◌<◌, ◌≤◌, List, [], ◌∷◌, ◌++◌, length, take, drop, Some, Result, Ok, Err, refl, sym, ap, ◌∙◌, subst, length-append, take-append-drop, arith}
use Rattle.std.specs.Prelude.{◌==◌}
use Rattle.std.specs.List.{flat_map, slice_get}
use Rattle.std.specs.Str.Lines.{lines}
use Rattle.std.proofs.Math.Seq.{get_or-append_seam}
use Rattle.std.proofs.lemmas.Bool.{cases_lt, cond-false, ne_eqb}
use Rattle.std.proofs.lemmas.Grind.{flat_map-append}
use Rattle.std.proofs.lemmas.List.{get_or_append_left, take-append-le, take_at}
use Rattle.mdp_templates.specs.Instrument.{AreFit, HasLegs}
use Rattle.mdp_templates.specs.declared.feed.Feed.{Feed}
use Rattle.mdp_templates.specs.declared.instrument.Instrument.{Instrument}
use Rattle.mdp_capture.specs.Capture.{CaptureContent, RefusedLine, add_lines, capture_of, needs_instrument, no_capture}
use Rattle.mdp_capture.specs.Fronts.{front_of}
use Rattle.mdp_capture.specs.Line.{Listing}
use Rattle.mdp_capture.specs.Lines.{NumberedLine, instruments_of, numbered_lines, records_on, InstrumentsFirst, IsCaptureOf}
use Rattle.mdp_capture.specs.Refused.{Holds}
use Rattle.mdp_capture.specs.declared.fault.CaptureRefusal.{CaptureRefusal}
use Rattle.mdp_capture.specs.declared.fault.CaptureRefusal.TheVariants.{DuplicateId, InstrumentLate, NoInstrument, TooMany, UnknownLeg}
use Rattle.mdp_capture.proofs.Bringing.{NamesDiffer, brought_by, same_lists}
use Rattle.mdp_capture.proofs.Stops.{Stops, get_seam, listed_some, listed_there, stops}
use Rattle.mdp_capture.proofs.Stops.Stops.{whole, stopped}

-- ---- no instrument comes behind a record

get_right : {X : Type 0} (xs ys : List X) (k : ℕ) → length xs ≤ k → slice_get (xs ++ ys) k ≡ slice_get ys (k - length xs)
get_right [] ys k above = ap (slice_get ys) (omega arith)
get_right (x ∷ xs) ys zero above = absurd (omega (arith, above))
get_right (x ∷ xs) ys (suc k) above = get_right xs ys k (omega (arith, above)) ∙ ap (slice_get ys) (omega arith)

-- the lines in front bring no record, and those behind list no instrument
in_time : (front back : List NumberedLine) (k n : ℕ) (i : Instrument) (feed : Feed) → flat_map (records_on feed) front ≡ [] → flat_map instruments_of back ≡ []
    → slice_get (front ++ back) k ≡ Some (record { number = n; content = Listing i }) → 0 < length (flat_map (records_on feed) (take k (front ++ back))) → ⊥
in_time front back k n i feed quiet none line some =
    elim (cases_lt k (length front)) [
      | inl early ↦
          let short : take k (front ++ back) ≡ take k front = take-append-le k front back (omega (arith, early)) in
          let part = ap (λ (ls : List NumberedLine). length (flat_map (records_on feed) ls)) short in
          let all : flat_map (records_on feed) (take k front) ++ flat_map (records_on feed) (drop k front) ≡ [] =
          sym (flat_map-append (records_on feed) (take k front) (drop k front)) ∙ ap (λ (ls : List NumberedLine). flat_map (records_on feed) ls) (take-append-drop k front) ∙ quiet in
          omega (arith, some, part, ap length all, length-append (flat_map (records_on feed) (take k front)) (flat_map (records_on feed) (drop k front)))
      | inr late ↦ omega (arith, ap length none, listed_some back (k - length front) n i (sym (get_right front back k late) ∙ line))
    ]

-- ---- an instrument that fits is not refused

-- instruments that fit, of different names
record AreGood (instruments : List Instrument) : Type 0 where
  fit : AreFit instruments
  names : NamesDiffer instruments

module _ (before : List Instrument) (i : Instrument) (behind : List Instrument) (good : AreGood (before ++ i ∷ behind)) where
  inside : length before < length (before ++ i ∷ behind)
  inside = omega (arith, length-append before (i ∷ behind))

  few_before : length before < 512
  few_before = omega (arith, inside, good.fit.few)

  own_id : (k : ℕ) (other : Instrument) → k < length before → get_or before k other ≡ other → other.id ≢ i.id
  own_id k other below at =
      rw (get_or_append_left before (i ∷ behind) other k below, get_or-append_seam before i behind other, at) at (good.fit.ids_differ k (length before) other below inside)

  own_name : (k : ℕ) (other : Instrument) → k < length before → get_or before k other ≡ other → other.name ≢ i.name
  own_name k other below at =
      rw (get_or_append_left before (i ∷ behind) other k below, get_or-append_seam before i behind other, at) at (good.names k (length before) other below inside)

  legs_before : HasLegs before i.kind
  legs_before = rw (take_at before (i ∷ behind) (length before) refl) at (good.fit.legs_stand (length before) i (get_seam before i behind))

none_holds : (r : CaptureRefusal) (lines : List NumberedLine) (k n : ℕ) (i : Instrument) → InstrumentsFirst lines → AreGood (flat_map instruments_of lines) → slice_get lines k ≡ Some (record { number = n; content = Listing i }) → Holds r (take k lines) i → ⊥
none_holds r lines k n i first good line held =
    by_reason r held
  where
    before : List Instrument
    before = flat_map instruments_of (take k lines)

    behind : List Instrument
    behind = flat_map instruments_of (drop (k + 1) lines)

    split : AreGood (before ++ i ∷ behind)
    split = subst AreGood (listed_there lines k n i line) good

    late : (feed : Feed) → 0 < length (flat_map (records_on feed) (take k lines)) → ⊥
    late feed some = in_time first.front first.back k n i feed (first.no_record feed) first.no_instrument (rw first.whole at line) (rw first.whole at some)

    by_reason : (r : CaptureRefusal) → Holds r (take k lines) i → ⊥
    by_reason InstrumentLate held = late held.0 held.1
    by_reason TooMany many = omega (arith, many, few_before before i behind split)
    by_reason DuplicateId (j, other, below, at, same) =
        elim same [ inl id ↦ own_id before i behind split j other below at id | inr name ↦ own_name before i behind split j other below at name ]
    by_reason UnknownLeg none = none (legs_before before i behind split)
    by_reason NoInstrument held = held

-- ---- the whole text

taken : (text : List ℕ) (capture : CaptureContent) (result : Result CaptureContent RefusedLine) (front : CaptureContent) → IsCaptureOf text capture → Stops (numbered_lines text) result front → needs_instrument result ≡ Ok capture
taken text capture result front is (whole reads brings none) =
    let same : brought_by (numbered_lines text) ≡ capture = sym (same_lists capture (brought_by (numbered_lines text)) is.brings.instruments is.brings.a is.brings.b is.brings.s is.brings.skipped) in
    let refused : Result CaptureContent RefusedLine = Err (record { line = 0; refusal = NoInstrument }) in
    ap needs_instrument (reads ∙ ap (λ (c : CaptureContent). let r : Result CaptureContent RefusedLine = Ok c in r) same)
    ∙ cond-false (length capture.instruments == 0) refused (Ok capture) (ne_eqb _ 0 (λ z. omega (arith, z, is.fit.some)))
taken text capture result front is (stopped stop reads first brings) =
    let good : AreGood (flat_map instruments_of (numbered_lines text)) = subst AreGood is.brings.instruments (record { fit = is.fit; names = is.names_differ }) in
    let at = first.refuses in
    absurd (none_holds stop.refusal (numbered_lines text) first.place stop.line at.instrument is.first good at.line at.refused.holds)

pub is_not_refused : (text : List ℕ) (capture : CaptureContent) → IsCaptureOf text capture → capture_of text ≡ Ok capture
is_not_refused text capture is = taken text capture (add_lines 1 (lines text) no_capture) (front_of text) is (stops text)
