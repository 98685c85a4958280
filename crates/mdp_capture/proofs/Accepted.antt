-- An instrument whose line is accepted.
use Rattle.std.proofs.Common.{◌≡◌, ◌≢◌, ◌<◌, ℕ, inl, inr, Bool, true, false, cond, List, length, get_or, leb, Option, None, Some, refl}
use Rattle.std.specs.Prelude.{is_some}
use Rattle.std.specs.Ordering.{int_eq}
use Rattle.std.specs.List.{list_any}
use Rattle.std.specs.Str.{bytes_eq}
use Rattle.std.proofs.lemmas.Bool.{cases_Bool, or_parts}
use Rattle.std.proofs.lemmas.Bool.Decides.{Decides-int_eq}
use Rattle.std.proofs.lemmas.List.Folds.{list_any_at}
use Rattle.std.proofs.lemmas.Slice.Eq.{bytes_eq-Decides}
use Rattle.mdp_templates.specs.declared.instrument.Instrument.{Instrument}
use Rattle.mdp_capture.specs.Capture.{CaptureContent, refusal_after, refusal_of, has_record, is_listed, has_legs}
use Rattle.mdp_capture.specs.declared.fault.CaptureRefusal.{CaptureRefusal}
use Rattle.mdp_capture.specs.declared.fault.CaptureRefusal.TheVariants.{DuplicateId, UnknownLeg, TooMany, InstrumentLate}

-- none of the reasons to refuse an instrument after others holds
pub record IsAccepted (many listed legs : Bool) : Type 0 where
  pub few : many ≡ false
  pub unlisted : listed ≡ false
  pub has_legs : legs ≡ true

no_reason : (many listed legs : Bool) → cond many (Some TooMany) (cond listed (Some DuplicateId) (cond legs None (Some UnknownLeg))) ≡ None → IsAccepted many listed legs
no_reason true listed legs is = absurd (cc)
no_reason false true legs is = absurd (cc)
no_reason false false false is = absurd (cc)
no_reason false false true is = record { few = refl; unlisted = refl; has_legs = refl }

pub accepted : (listed : List Instrument) (instrument : Instrument) → refusal_after listed instrument ≡ None → IsAccepted (leb 512 (length listed)) (is_listed listed instrument) (has_legs listed instrument.kind)
accepted listed instrument is = no_reason (leb 512 (length listed)) (is_listed listed instrument) (has_legs listed instrument.kind) is

-- no reason was found
pub none_found : (refusal : Option CaptureRefusal) → is_some refusal ≡ false → refusal ≡ None
none_found None is = refl
none_found (Some refusal) is = absurd (cc)

not_late : (late : Bool) (refusal : Option CaptureRefusal) → cond late (Some InstrumentLate) refusal ≡ None → (late ≡ false) × (refusal ≡ None)
not_late true refusal is = absurd (cc)
not_late false refusal is = (refl, is)

-- an instrument whose line is accepted is in time, and accepted after those that are listed
pub in_time : (capture : CaptureContent) (instrument : Instrument) → refusal_of capture instrument ≡ None → (has_record capture ≡ false) × (refusal_after capture.instruments instrument ≡ None)
in_time capture instrument is = not_late (has_record capture) (refusal_after capture.instruments instrument) is

-- where no element passes a test, none at a place does
none_passes : {X : Type 0} (p : X → Bool) (xs : List X) → list_any p xs ≡ false → (k : ℕ) (d : X) → k < length xs → p (get_or xs k d) ≡ false
none_passes {X} p xs none k d below =
    elim (cases_Bool (p (get_or xs k d))) [
      | inl passes ↦ let found : list_any p xs ≡ true = list_any_at p xs k d below passes in absurd (cc)
      | inr fails ↦ fails
    ]

-- an instrument that is not listed has an id and a name of its own
pub other_id : (xs : List Instrument) (i : Instrument) → is_listed xs i ≡ false → (k : ℕ) (d : Instrument) → k < length xs → (get_or xs k d).id ≢ i.id
other_id xs i unlisted k d below = λ same.
    let has_id = list_any (λ other. int_eq other.id i.id) xs in
    let has_name = list_any (λ other. bytes_eq other.name i.name) xs in
    let differs = none_passes (λ (other : Instrument). int_eq other.id i.id) xs (or_parts has_id has_name unlisted).0 k d below in
    let is : int_eq (get_or xs k d).id i.id ≡ true = (Decides-int_eq (get_or xs k d).id i.id).1 same in
    absurd (cc)

pub other_name : (xs : List Instrument) (i : Instrument) → is_listed xs i ≡ false → (k : ℕ) (d : Instrument) → k < length xs → (get_or xs k d).name ≢ i.name
other_name xs i unlisted k d below = λ same.
    let has_id = list_any (λ other. int_eq other.id i.id) xs in
    let has_name = list_any (λ other. bytes_eq other.name i.name) xs in
    let differs = none_passes (λ (other : Instrument). bytes_eq other.name i.name) xs (or_parts has_id has_name unlisted).1 k d below in
    let is : bytes_eq (get_or xs k d).name i.name ≡ true = (bytes_eq-Decides (get_or xs k d).name i.name).1 same in
    absurd (cc)
