-- Places in a list of different ids.
use Rattle.std.proofs.Common.{◌≡◌, ℕ, ℤ, ◌+◌, ◌≤◌, ◌<◌, Bool, true, false, cond, List, [], ◌∷◌, ◌++◌, length, take, get_or, zero, suc, refl, sym, ◌∙◌, ap, arith, inl, inr}
use Rattle.std.specs.Prelude.{◌≢◌, Option, Some, None, slice_get, position, AllPairs, nat_lt, IfSome, IfNone}
use Rattle.std.specs.List.{list_any, position_or_len}
use Rattle.std.specs.Ordering.{int_eq}
use Rattle.std.proofs.lemmas.Grind.{common_steps, take_at_read}
use Rattle.std.proofs.lemmas.Bool.Decides.{Decides-int_eq, leb_tells}
use Rattle.std.proofs.lemmas.List.{length-map, length-take}
use Rattle.std.proofs.lemmas.List.Quantifiers.{position-Some}
use Rattle.std.proofs.lemmas.List.Folds.{Any-from_list_any}
use Rattle.std.proofs.lemmas.List.Sums.{fails_before_first}
use Rattle.std.proofs.lemmas.Option.{slice_get-get_or, get_or_from_slice_get, slice_get_within}
use Rattle.mdp_templates.specs.declared.instrument.Instrument.{Instrument}
use Rattle.mdp_templates.specs.Instrument.{ids_of}

abbrev Differ : List ℤ → Type 0
Differ ids = AllPairs (λ earlier later. earlier ≢ later) ids

slot_found : (ids : List ℤ) (id : ℤ) (slot : ℕ) → position (int_eq id) ids ≡ Some slot → slice_get ids slot ≡ Some id
slot_found ids id slot is =
    let at = position-Some (int_eq id) ids slot id is in
    rw (slice_get-get_or ids slot id at.0, sym ((Decides-int_eq id (get_or ids slot id)).0 at.1)) refl

lower_place : (ids : List ℤ) (id : ℤ) (lower higher : ℕ) → Differ ids → slice_get ids lower ≡ Some id → slice_get ids higher ≡ Some id → lower < higher → ⊥
lower_place ids id lower higher differ low high under =
    differ lower higher id under (slice_get_within ids higher id high) (get_or_from_slice_get ids lower id id low ∙ sym (get_or_from_slice_get ids higher id id high))

-- an id has one place
slot_only : (ids : List ℤ) (id : ℤ) (slot other : ℕ) → Differ ids → slice_get ids slot ≡ Some id → slice_get ids other ≡ Some id → other ≡ slot
slot_only ids id slot other differ here there = elim (leb_tells slot other) [
  | inl up ↦ elim (leb_tells other slot) [
    | inl down ↦ omega (arith, up.1, down.1)
    | inr above ↦ absurd (lower_place ids id slot other differ here there (omega (arith, above.1)))
  ]
  | inr below ↦ absurd (lower_place ids id other slot differ there here (omega (arith, below.1)))
]

none_before : (p : ℤ → Bool) (ids : List ℤ) (k : ℕ) (d : ℤ) → position p ids ≡ None → k < length ids → p (get_or ids k d) ≡ false
none_before p ids k d none within = by (nat_lt (position_or_len p ids) (length ids)) refl none
  where
    by : (b : Bool) → nat_lt (position_or_len p ids) (length ids) ≡ b → cond b (Some (position_or_len p ids)) None ≡ None → p (get_or ids k d) ≡ false
    by true is some = cc
    by false is some = fails_before_first p ids k d (grind (arith, common_steps, is))

slot_none : (ids : List ℤ) (id : ℤ) (slot : ℕ) → position (int_eq id) ids ≡ None → slice_get ids slot ≡ Some id → ⊥
slot_none ids id slot none at =
    let here : get_or ids slot id ≡ id = get_or_from_slice_get ids slot id id at in
    let unequal : int_eq id (get_or ids slot id) ≡ false = none_before (int_eq id) ids slot id none (slice_get_within ids slot id at) in
    let equal : int_eq id (get_or ids slot id) ≡ true = (Decides-int_eq id (get_or ids slot id)).1 (sym here) in
    absurd cc

id_at : (instruments : List Instrument) (i : ℕ) (d : ℤ) (e : Instrument) → i < length instruments → get_or (ids_of instruments) i d ≡ (get_or instruments i e).id
id_at [] i d e within = absurd (omega (arith, within))
id_at (x ∷ xs) zero d e within = refl
id_at (x ∷ xs) (suc i) d e within = id_at xs i d e (omega (arith, within))

-- what a look-up answers
pub some_slot : (ids : List ℤ) (id : ℤ) (found : Option ℕ) → found ≡ position (int_eq id) ids → IfSome found (λ slot. slice_get ids slot ≡ Some id)
some_slot ids id None is = tt
some_slot ids id (Some slot) is = slot_found ids id slot (sym is)

pub only_slot : (ids : List ℤ) (id : ℤ) (found : Option ℕ) → Differ ids → found ≡ position (int_eq id) ids
    → IfSome found (λ slot. (other : ℕ) → slice_get ids other ≡ Some id → other ≡ slot)
only_slot ids id None differ is = tt
only_slot ids id (Some slot) differ is = λ other there. slot_only ids id slot other differ (slot_found ids id slot (sym is)) there

pub no_slot : (ids : List ℤ) (id : ℤ) (found : Option ℕ) → found ≡ position (int_eq id) ids → IfNone found ((slot : ℕ) → slice_get ids slot ≡ Some id → ⊥)
no_slot ids id None is = λ slot at. slot_none ids id slot (sym is) at
no_slot ids id (Some found) is = tt

-- instruments of different ids
ids_differ : (instruments : List Instrument) → AllPairs (λ earlier later. earlier.id ≢ later.id) instruments → Differ (ids_of instruments)
ids_differ [] differ i j d under within = absurd (omega (arith, within))
ids_differ (x ∷ xs) differ i j d under within = λ same.
    let long : j < length (x ∷ xs) = omega (arith, within, length-map (x ∷ xs) (λ (instrument : Instrument). instrument.id)) in
    differ i j x under long (sym (id_at (x ∷ xs) i d x (omega (arith, under, long))) ∙ same ∙ id_at (x ∷ xs) j d x long)

fresh_id : (ids : List ℤ) (i : ℕ) (d : ℤ) (found : Bool) → Differ ids → i < length ids → list_any (int_eq (get_or ids i d)) (take i ids) ≡ found → found ≡ false
fresh_id ids i d false differ within is = refl
fresh_id ids i d true differ within is =
    let at = Any-from_list_any (int_eq (get_or ids i d)) (take i ids) is in
    let under : at.0 < i = omega (arith, at.2, length-take i ids) in
    let earlier : get_or ids at.0 d ≡ at.1 = grind (arith, common_steps, at.3, under, within) in
    absurd (differ at.0 i d under within (earlier ∙ sym ((Decides-int_eq (get_or ids i d) at.1).0 at.4)))

-- one more id is put behind the others
ids_more : (ids keys : List ℤ) (i : ℕ) (id : ℤ) → Differ ids → i < length ids → id ≡ get_or ids i id → keys ≡ cond (list_any (int_eq id) (take i ids)) (take i ids) (take i ids ++ id ∷ []) → keys ≡ take (i + 1) ids
ids_more ids keys i id differ within at is =
    let new : list_any (int_eq id) (take i ids) ≡ false = rw at (fresh_id ids i id (list_any (int_eq (get_or ids i id)) (take i ids)) differ within refl) in
    is ∙ ap (λ (b : Bool). cond b (take i ids) (take i ids ++ id ∷ [])) new ∙ ap (λ (x : ℤ). take i ids ++ x ∷ []) at ∙ sym (take_at_read ids i id within).1

-- the ids of one more instrument
pub ids_of_more : (instruments : List Instrument) (keys more : List ℤ) (i : ℕ) (instrument : Instrument) → AllPairs (λ earlier later. earlier.id ≢ later.id) instruments
    → i < length instruments → instrument ≡ get_or instruments i instrument → keys ≡ take i (ids_of instruments)
    → more ≡ cond (list_any (int_eq instrument.id) keys) keys (keys ++ instrument.id ∷ []) → more ≡ take (i + 1) (ids_of instruments)
ids_of_more instruments keys more i instrument differ within at so_far is =
    let same : instrument.id ≡ get_or (ids_of instruments) i instrument.id = ap (λ (x : Instrument). x.id) at ∙ sym (id_at instruments i instrument.id instrument within) in
    ids_more (ids_of instruments) more i instrument.id (ids_differ instruments differ) (omega (arith, within, length-map instruments (λ (x : Instrument). x.id))) same (rw so_far at is)

pub all_listed : (instruments : List Instrument) (keys : List ℤ) (i : ℕ) → length instruments ≤ i → keys ≡ take i (ids_of instruments) → keys ≡ ids_of instruments
all_listed instruments keys i all is = grind (arith, common_steps, length-map instruments (λ (x : Instrument). x.id))

pub listed_differ : (instruments : List Instrument) (keys : List ℤ) → AllPairs (λ earlier later. earlier.id ≢ later.id) instruments → keys ≡ ids_of instruments → Differ keys
listed_differ instruments keys differ is = rw is (ids_differ instruments differ)
