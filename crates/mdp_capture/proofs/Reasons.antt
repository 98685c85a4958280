-- The refusals that hold of an instrument, and the tests for them.
use Rattle.std.proofs.Common.{◌≡◌, ℕ, inl, inr, ◌<◌, Bool, true, false, cond, eqb, leb, List, [], ◌∷◌, ◌++◌, length, Option, None, Some, Ok, Err, refl, sym, ap, ◌∙◌, subst, arith, le-leb, leb-true}
use Rattle.std.specs.Prelude.{not}
use Rattle.std.specs.Ordering.{int_eq}
use Rattle.std.specs.Str.{bytes_eq}
use Rattle.std.specs.List.{flat_map, list_any}
use Rattle.std.proofs.lemmas.Bool.{both_ways, cases_Bool, cases_lt, cases_order, not-true, not_from_false, not_from_true, or_cases, or_left, or_right}
use Rattle.std.proofs.lemmas.Bool.Decides.{Decides-int_eq}
use Rattle.std.proofs.lemmas.List.Folds.{Any-from_list_any, list_any-from_Any}
use Rattle.std.proofs.lemmas.Slice.Eq.{bytes_eq-Decides}
use Rattle.mdp_templates.specs.declared.feed.Feed.{Feed}
use Rattle.mdp_templates.specs.declared.feed.Feed.TheVariants as feeds
use Rattle.mdp_templates.specs.declared.instrument.Instrument.{Instrument}
use Rattle.mdp_capture.specs.Capture.{CaptureContent, RefusedLine, add_line, has_legs, has_record, is_listed, refusal_of, unless_refused}
use Rattle.mdp_capture.specs.Line.{LineContent, Blank, Listing, Packet, Closing, Skipped}
use Rattle.mdp_capture.specs.Lines.{NumberedLine, instruments_of, records_on}
use Rattle.mdp_capture.specs.Refused.{HasRecord, Holds, IsRefusedFor, IsTaken, order_of}
use Rattle.mdp_capture.specs.declared.fault.CaptureRefusal.{CaptureRefusal}
use Rattle.mdp_capture.specs.declared.fault.CaptureRefusal.TheVariants.{DuplicateId, UnknownLeg, TooMany, NoInstrument, InstrumentLate}
use Rattle.mdp_capture.proofs.Accepted.{accepted, in_time}
use Rattle.mdp_capture.proofs.Bringing.{brought_by, counted_some, line_at, some_counted}
use Rattle.mdp_capture.proofs.Fit.{legs_are, legs_found, unrefused}

-- ---- each refusal and its test

on_a_feed : (lines : List NumberedLine) (feed : Feed) → 0 < length (flat_map (records_on feed) lines) → has_record (brought_by lines) ≡ true
on_a_feed lines feeds.A some = let c = brought_by lines in counted_some (length c.a) (length c.b) (length c.s) (omega (arith, some))
on_a_feed lines feeds.B some = let c = brought_by lines in counted_some (length c.a) (length c.b) (length c.s) (omega (arith, some))
on_a_feed lines feeds.S some = let c = brought_by lines in counted_some (length c.a) (length c.b) (length c.s) (omega (arith, some))

record_found : (lines : List NumberedLine) → has_record (brought_by lines) ≡ true → HasRecord lines
record_found lines is =
    let c = brought_by lines in
    let some = some_counted (length c.a) (length c.b) (length c.s) is in
    elim (cases_lt 0 (length c.a)) [
      | inl a ↦ (feeds.A, a)
      | inr none_a ↦ elim (cases_lt 0 (length c.b)) [
        | inl b ↦ (feeds.B, b)
        | inr none_b ↦ (feeds.S, omega (arith, some, none_a, none_b))
      ]
    ]

taken_found : (xs : List Instrument) (i : Instrument) → is_listed xs i ≡ true → IsTaken xs i
taken_found xs i is =
    elim (or_cases (list_any (λ other. int_eq other.id i.id) xs) (list_any (λ other. bytes_eq other.name i.name) xs) is) [
      | inl id ↦ let at = Any-from_list_any (λ (other : Instrument). int_eq other.id i.id) xs id in
          (at.0, at.1, at.2, at.3, inl ((Decides-int_eq at.1.id i.id).0 at.4))
      | inr name ↦ let at = Any-from_list_any (λ (other : Instrument). bytes_eq other.name i.name) xs name in
          (at.0, at.1, at.2, at.3, inr ((bytes_eq-Decides at.1.name i.name).0 at.4))
    ]

is_taken : (xs : List Instrument) (i : Instrument) → IsTaken xs i → is_listed xs i ≡ true
is_taken xs i (k, other, below, at, same) =
    elim same [
      | inl id ↦ or_left _ _ (list_any-from_Any (λ (other : Instrument). int_eq other.id i.id) xs (k, other, below, at, (Decides-int_eq other.id i.id).1 id))
      | inr name ↦ or_right _ _ (list_any-from_Any (λ (other : Instrument). bytes_eq other.name i.name) xs (k, other, below, at, (bytes_eq-Decides other.name i.name).1 name))
    ]

-- what `refusal_of` tests for a refusal
abbrev test_for : (late many listed legs : Bool) → CaptureRefusal → Bool
test_for late many listed legs InstrumentLate = late
test_for late many listed legs TooMany = many
test_for late many listed legs DuplicateId = listed
test_for late many listed legs UnknownLeg = not legs
test_for late many listed legs NoInstrument = false

abbrev tests : List NumberedLine → Instrument → CaptureRefusal → Bool
tests before i = test_for (has_record (brought_by before)) (leb 512 (length (flat_map instruments_of before))) (is_listed (flat_map instruments_of before) i) (has_legs (flat_map instruments_of before) i.kind)

holds : (r : CaptureRefusal) (before : List NumberedLine) (i : Instrument) → tests before i r ≡ true → Holds r before i
holds InstrumentLate before i is = record_found before is
holds TooMany before i is = leb-true 512 _ is
holds DuplicateId before i is = taken_found _ i is
holds UnknownLeg before i is = λ legs. both_ways _ (not-true _ is) (legs_are _ i.kind legs)
holds NoInstrument before i is = absurd (cc)

passes : (r : CaptureRefusal) (before : List NumberedLine) (i : Instrument) → Holds r before i → tests before i r ≡ true
passes InstrumentLate before i some = on_a_feed before some.0 some.1
passes TooMany before i many = le-leb 512 _ many
passes DuplicateId before i taken = is_taken _ i taken
passes UnknownLeg before i none =
    elim (cases_Bool (has_legs (flat_map instruments_of before) i.kind)) [
      | inl legs ↦ absurd (none (legs_found _ i.kind legs))
      | inr is ↦ not_from_false _ is
    ]
passes NoInstrument before i is = absurd is

-- ---- the first of the tests that passes

-- no test of an order below n passes
none_below : (late many listed legs : Bool) (n : ℕ) → (0 < n → late ≡ false) → (1 < n → many ≡ false) → (2 < n → listed ≡ false) → (3 < n → legs ≡ true) → (r : CaptureRefusal) → order_of r < n → test_for late many listed legs r ≡ true → ⊥
none_below late many listed legs n in_time few new stand InstrumentLate below is = both_ways late (in_time below) is
none_below late many listed legs n in_time few new stand TooMany below is = both_ways many (few below) is
none_below late many listed legs n in_time few new stand DuplicateId below is = both_ways listed (new below) is
none_below late many listed legs n in_time few new stand UnknownLeg below is = both_ways (not legs) (not_from_true legs (stand below)) is
none_below late many listed legs n in_time few new stand NoInstrument below is = absurd (cc)

abbrev IsFirst : (CaptureRefusal → Bool) → CaptureRefusal → Type 0
IsFirst test r = (test r ≡ true) × ((other : CaptureRefusal) → order_of other < order_of r → test other ≡ true → ⊥)

first_reason : (late many listed legs : Bool) (r : CaptureRefusal) → cond late (Some InstrumentLate) (cond many (Some TooMany) (cond listed (Some DuplicateId) (cond legs None (Some UnknownLeg)))) ≡ Some r → IsFirst (test_for late many listed legs) r
first_reason true many listed legs r is =
    let same : InstrumentLate ≡ r = cc in
    subst (IsFirst (test_for true many listed legs)) same (refl, none_below true many listed legs 0 (λ z. absurd (omega (arith, z))) (λ z. absurd (omega (arith, z))) (λ z. absurd (omega (arith, z))) (λ z. absurd (omega (arith, z))))
first_reason false true listed legs r is =
    let same : TooMany ≡ r = cc in
    subst (IsFirst (test_for false true listed legs)) same (refl, none_below false true listed legs 1 (λ z. refl) (λ z. absurd (omega (arith, z))) (λ z. absurd (omega (arith, z))) (λ z. absurd (omega (arith, z))))
first_reason false false true legs r is =
    let same : DuplicateId ≡ r = cc in
    subst (IsFirst (test_for false false true legs)) same (refl, none_below false false true legs 2 (λ z. refl) (λ z. refl) (λ z. absurd (omega (arith, z))) (λ z. absurd (omega (arith, z))))
first_reason false false false false r is =
    let same : UnknownLeg ≡ r = cc in
    subst (IsFirst (test_for false false false false)) same (refl, none_below false false false false 3 (λ z. refl) (λ z. refl) (λ z. refl) (λ z. absurd (omega (arith, z))))
first_reason false false false true r is = absurd (cc)

-- ---- one line behind others

pub refused_with : (n : ℕ) (o : Option CaptureRefusal) (next : CaptureContent) (refused : RefusedLine) → unless_refused n o next ≡ Err refused → (o ≡ Some refused.refusal) × (n ≡ refused.line)
refused_with n (Some refusal) next refused is = (cc, cc)
refused_with n None next refused is = absurd (cc)

-- a line that refuses the run is an instrument's, and refused for the first refusal that holds
pub record RefusesBehind (before : List NumberedLine) (line : NumberedLine) (refused : RefusedLine) : Type 0 where
  pub instrument : Instrument
  pub is : line ≡ record { number = refused.line; content = Listing instrument }
  pub for : IsRefusedFor refused.refusal before instrument

pub line_refuses : (before : List NumberedLine) (n : ℕ) (content : LineContent) (refused : RefusedLine) → add_line n content (brought_by before) ≡ Err refused → RefusesBehind before (line_at n content) refused
line_refuses before n (Listing i) refused is =
    let old = brought_by before in
    let why = refused_with n (refusal_of old i) (record old { instruments = old.instruments ++ i ∷ [] }) refused is in
    let first = first_reason (has_record old) (leb 512 (length old.instruments)) (is_listed old.instruments i) (has_legs old.instruments i.kind) refused.refusal why.0 in
    record {
      instrument = i;
      is = ap (λ (m : ℕ). line_at m (Listing i)) why.1;
      for = record {
        holds = holds refused.refusal before i first.0;
        first = λ other below held. first.1 other below (passes other before i held);
      };
    }
line_refuses before n Blank refused is = absurd (cc)
line_refuses before n (Packet feed bytes) refused is = absurd (cc)
line_refuses before n Closing refused is = absurd (cc)
line_refuses before n (Skipped skip) refused is = absurd (cc)

order_few : (r : CaptureRefusal) → order_of r < 5
order_few InstrumentLate = omega arith
order_few TooMany = omega arith
order_few DuplicateId = omega arith
order_few UnknownLeg = omega arith
order_few NoInstrument = omega arith

-- of an instrument whose line is accepted no refusal holds
pub none_holds : (before : List NumberedLine) (n : ℕ) (i : Instrument) (new : CaptureContent) → add_line n (Listing i) (brought_by before) ≡ Ok new → (r : CaptureRefusal) → Holds r before i → ⊥
none_holds before n i new is r held =
    let old = brought_by before in
    let timely = in_time old i (unrefused n (refusal_of old i) (record old { instruments = old.instruments ++ i ∷ [] }) new is).0 in
    let free = accepted old.instruments i timely.1 in
    none_below (has_record old) (leb 512 (length old.instruments)) (is_listed old.instruments i) (has_legs old.instruments i.kind) 5
    (λ z. timely.0) (λ z. free.few) (λ z. free.unlisted) (λ z. free.has_legs) r (order_few r) (passes r before i held)

-- ---- one refusal alone is the first

-- the refusal of an order
abbrev refusal_at : ℕ → CaptureRefusal
refusal_at n = cond (eqb n 0) InstrumentLate (cond (eqb n 1) TooMany (cond (eqb n 2) DuplicateId (cond (eqb n 3) UnknownLeg NoInstrument)))

at_order : (r : CaptureRefusal) → refusal_at (order_of r) ≡ r
at_order InstrumentLate = refl
at_order TooMany = refl
at_order DuplicateId = refl
at_order UnknownLeg = refl
at_order NoInstrument = refl

pub same_refusal : (before : List NumberedLine) (i : Instrument) (r s : CaptureRefusal) → IsRefusedFor r before i → IsRefusedFor s before i → r ≡ s
same_refusal before i r s one other =
    elim (cases_order (order_of r) (order_of s)) [
      | inl same ↦ sym (at_order r) ∙ ap refusal_at same ∙ at_order s
      | inr apart ↦ elim apart [
        | inl below ↦ absurd (other.first r below one.holds)
        | inr above ↦ absurd (one.first s above other.holds)
      ]
    ]
