-- A calendar spread and its legs are found by their places, and give its line.
use Rattle.std.proofs.Common.{◌≡◌, ◌≢◌, ◌<◌, ◌+◌, ◌++◌, ℕ, ℤ, zero, suc, Bool, true, false, cond, List, [], ◌∷◌, length, map, get_or, Option, Some, None, refl, sym, ap, subst, ◌∙◌, arith, inl, inr}
use Rattle.std.specs.Prelude.{◌⊎◌, nat_lt, slice_get}
use Rattle.std.specs.List.{AllByRecursion, AllPairs, flat_map}
use Rattle.std.specs.Option.{option_map, IfSome, IfNone}
use Rattle.std.specs.Ordering.{int_eq}
use Rattle.std.proofs.lemmas.Bool.{cases_Bool}
use Rattle.std.proofs.lemmas.Bool.Decides.{Decides-int_eq}
use Rattle.mdp_templates.specs.declared.instrument.InstrumentKind.{InstrumentKind}
use Rattle.mdp_templates.specs.declared.instrument.InstrumentKind.TheVariants.{Outright, Calendar}
use Rattle.mdp_books.specs.declared.event_end.EventEnd.{EventEnd}
use Rattle.mdp_desks.specs.declared.desk.Desk.{Desk}
use Rattle.mdp_engine.specs.declared.spreads.Spread.{Spread}
use Rattle.mdp_desks.specs.Beside.{listed_in}
use Rattle.mdp_engine.specs.Spreads.{slot_in, spread_at, spread_in, spreads_from, with_spread, IsUnder}
use Rattle.mdp_desks.specs.Lines.{Seen, seen_of, spread_text, legs_text, audit_text}
use Rattle.mdp_desks.specs.Desks.{desk_standing}
use Rattle.mdp_engine.specs.Spreads.{seen_there, spread_line}
use Rattle.mdp_desks.proofs.Hearing.{ids_in, differ_tail, other_than, slot_under}

-- ---- the place of a security

differs : (x id : ℤ) → x ≢ id → int_eq x id ≡ false
differs x id other = elim (cases_Bool (int_eq x id)) [ inl same ↦ absurd (other ((Decides-int_eq x id).0 same)) | inr is ↦ is ]

slot_here : (x id : ℤ) (ids : List ℤ) → x ≡ id → slot_in (x ∷ ids) id ≡ Some 0
slot_here x id ids same = ap (λ (b : Bool). cond b (Some 0) (option_map (λ n. suc n) (slot_in ids id))) ((Decides-int_eq x id).1 same)

slot_past : (x id : ℤ) (ids : List ℤ) → x ≢ id → slot_in (x ∷ ids) id ≡ option_map (λ n. suc n) (slot_in ids id)
slot_past x id ids other = ap (λ (b : Bool). cond b (Some 0) (option_map (λ n. suc n) (slot_in ids id))) (differs x id other)

pub slot_found : (ids : List ℤ) (id : ℤ) (n : ℕ) → slice_get ids n ≡ Some id → ((other : ℕ) → slice_get ids other ≡ Some id → other ≡ n) → slot_in ids id ≡ Some n
slot_found [] id n here only = absurd cc
slot_found (x ∷ ids) id zero here only = let same : x ≡ id = cc in slot_here x id ids same
slot_found (x ∷ ids) id (suc n) here only =
    let other : x ≢ id = λ same. let e : 0 ≡ suc n = only 0 (ap (λ (y : ℤ). Some y) same) in omega (arith, e) in
    let later : slot_in ids id ≡ Some n = slot_found ids id n here (λ k there. let e : suc k ≡ suc n = only (suc k) there in omega (arith, e)) in
    slot_past x id ids other ∙ ap (λ (o : Option ℕ). option_map (λ k. suc k) o) later

pub slot_missed : (ids : List ℤ) (id : ℤ) → ((slot : ℕ) → slice_get ids slot ≡ Some id → ⊥) → slot_in ids id ≡ None
slot_missed [] id none = refl
slot_missed (x ∷ ids) id none =
    slot_past x id ids (λ same. none 0 (ap (λ (y : ℤ). Some y) same)) ∙ ap (λ (o : Option ℕ). option_map (λ k. suc k) o) (slot_missed ids id (λ slot. none (suc slot)))

-- a place that is found is the one
pub slot_of_is : (ids : List ℤ) (id : ℤ) (o : Option ℕ) → IfSome o (λ slot. slice_get ids slot ≡ Some id) → IfSome o (λ slot. (other : ℕ) → slice_get ids other ≡ Some id → other ≡ slot) → IfNone o ((slot : ℕ) → slice_get ids slot ≡ Some id → ⊥) → o ≡ slot_in ids id
slot_of_is ids id None some only none = sym (slot_missed ids id none)
slot_of_is ids id (Some n) some only none = sym (slot_found ids id n some only)

-- what stands at the place is the security's
pub slot_holds : (ids : List ℤ) (id : ℤ) (n : ℕ) → slot_in ids id ≡ Some n → slice_get ids n ≡ Some id
slot_holds [] id n is = absurd cc
slot_holds (x ∷ ids) id n is = by_first (slot_holds ids id) (int_eq x id) refl n is
  where
    later : (o : Option ℕ) → slot_in ids id ≡ o → (n : ℕ) → option_map (λ k. suc k) o ≡ Some n → ((m : ℕ) → slot_in ids id ≡ Some m → slice_get ids m ≡ Some id) → slice_get (x ∷ ids) n ≡ Some id
    later None at n is holds = absurd cc
    later (Some m) at n is holds = let same : suc m ≡ n = cc in ap (slice_get (x ∷ ids)) (sym same) ∙ holds m at

    by_first : ((m : ℕ) → slot_in ids id ≡ Some m → slice_get ids m ≡ Some id) → (b : Bool) → int_eq x id ≡ b → (n : ℕ) → cond b (Some 0) (option_map (λ k. suc k) (slot_in ids id)) ≡ Some n → slice_get (x ∷ ids) n ≡ Some id
    by_first holds true same n is = let first : 0 ≡ n = cc in ap (slice_get (x ∷ ids)) (sym first) ∙ ap (λ (y : ℤ). Some y) ((Decides-int_eq x id).0 same)
    by_first holds false other n is = later (slot_in ids id) refl n is holds

-- none where the security doesn't stand there
none_later : (o : Option ℕ) → option_map (λ k. suc k) o ≡ None → o ≡ None
none_later None is = refl
none_later (Some m) is = absurd cc

none_first : (x id : ℤ) (ids : List ℤ) → slot_in (x ∷ ids) id ≡ None → x ≢ id
none_first x id ids is = λ same. apart (slot_in (x ∷ ids) id) (slot_here x id ids same) is
  where
    apart : (o : Option ℕ) → o ≡ Some 0 → o ≡ None → ⊥
    apart o one none = cc

slot_none : (ids : List ℤ) (id : ℤ) → slot_in ids id ≡ None → (slot : ℕ) → slice_get ids slot ≡ Some id → ⊥
slot_none [] id is slot there = cc
slot_none (x ∷ ids) id is zero there = let same : x ≡ id = cc in none_first x id ids is same
slot_none (x ∷ ids) id is (suc slot) there =
    let rest : slot_in ids id ≡ None = none_later (slot_in ids id) (sym (slot_past x id ids (none_first x id ids is)) ∙ is) in
    slot_none ids id rest slot there

-- ---- what an event end shows of the security

abbrev seen_as : Desk → Seen
seen_as d = record { instrument = d.instrument; printed = d.marked; book = d.book }

passed_over : (k : ℕ) (id : ℤ) (d : Desk) (rest : List (Option Seen)) → d.instrument.id ≢ id → seen_of id (desk_standing k d ∷ rest) ≡ seen_of id rest
passed_over k id d rest other = by_base (nat_lt d.base k)
  where
    by_base : (b : Bool) → seen_of id (cond b (Some (seen_as d)) None ∷ rest) ≡ seen_of id rest
    by_base true = ap (λ (e : Bool). cond e (Some (seen_as d)) (seen_of id rest)) (differs d.instrument.id id other)
    by_base false = refl

seen_first : (k : ℕ) (id : ℤ) (d : Desk) (rest : List (Option Seen)) → d.instrument.id ≡ id → seen_of id rest ≡ None → seen_of id (desk_standing k d ∷ rest) ≡ desk_standing k d
seen_first k id d rest same none = by_base (nat_lt d.base k)
  where
    by_base : (b : Bool) → seen_of id (cond b (Some (seen_as d)) None ∷ rest) ≡ cond b (Some (seen_as d)) None
    by_base true = ap (λ (e : Bool). cond e (Some (seen_as d)) (seen_of id rest)) ((Decides-int_eq d.instrument.id id).1 same)
    by_base false = none

unseen : (k : ℕ) (id : ℤ) (ds : List Desk) → ((slot : ℕ) → slice_get (ids_in ds) slot ≡ Some id → ⊥) → seen_of id (map (desk_standing k) ds) ≡ None
unseen k id [] none = refl
unseen k id (d ∷ ds) none =
    passed_over k id d (map (desk_standing k) ds) (λ same. none 0 (ap (λ (y : ℤ). Some y) same)) ∙ unseen k id ds (λ slot. none (suc slot))

-- what an event end shows of the security at a place
seen_here : (k : ℕ) (id : ℤ) (ds : List Desk) (n : ℕ) → AllPairs (λ a b. a ≢ b) (ids_in ds) → slice_get (ids_in ds) n ≡ Some id → seen_of id (map (desk_standing k) ds) ≡ seen_there k (slice_get ds n)
seen_here k id [] n differ is = absurd cc
seen_here k id (d ∷ ds) zero differ is =
    let same : d.instrument.id ≡ id = cc in
    let none : seen_of id (map (desk_standing k) ds) ≡ None = unseen k id ds (λ slot there. other_than d.instrument.id (ids_in ds) differ slot (there ∙ ap (λ (y : ℤ). Some y) (sym same))) in
    seen_first k id d (map (desk_standing k) ds) same none
seen_here k id (d ∷ ds) (suc n) differ is =
    passed_over k id d (map (desk_standing k) ds) (λ same. other_than d.instrument.id (ids_in ds) differ n (is ∙ ap (λ (y : ℤ). Some y) (sym same)))
    ∙ seen_here k id ds n (differ_tail d.instrument.id (ids_in ds) differ) is

-- ---- a spread's line

-- where a spread stands there, its places are these
pub record Placed (n : ℕ) (o1 o2 : Option ℕ) (spread : Spread) : Type 0 where
  pub slot : n ≡ spread.slot
  pub leg1 : o1 ≡ Some spread.leg1
  pub leg2 : o2 ≡ Some spread.leg2

placed : (n : ℕ) (o1 o2 : Option ℕ) (spread : Spread) → spread_at n o1 o2 ≡ Some spread → Placed n o1 o2 spread
placed n (Some n1) (Some n2) spread is =
    let same : record { slot = n; leg1 = n1; leg2 = n2 } ≡ spread = cc in
    record { slot = ap (λ (s : Spread). s.slot) same; leg1 = ap (λ (s : Spread). Some s.leg1) same; leg2 = ap (λ (s : Spread). Some s.leg2) same }
placed n (Some n1) None spread is = absurd cc
placed n None o2 spread is = absurd cc

one_lacks : (n : ℕ) (o1 o2 : Option ℕ) → spread_at n o1 o2 ≡ None → (o1 ≡ None) ⊎ (o2 ≡ None)
one_lacks n (Some n1) (Some n2) is = absurd cc
one_lacks n (Some n1) None is = inr refl
one_lacks n None o2 is = inl refl

-- a security that the event end doesn't show has no line
at_end : (end : EventEnd) (seen : List (Option Seen)) (d : Desk) (o1 o2 : Option Seen) → legs_text end seen (seen_as d) d.instrument.kind ≡ spread_text end (Some (seen_as d)) o1 o2 → audit_text end seen (desk_standing end.packet d) ≡ spread_text end (desk_standing end.packet d) o1 o2
at_end end seen d o1 o2 is = by_base (nat_lt d.base end.packet)
  where
    by_base : (b : Bool) → audit_text end seen (cond b (Some (seen_as d)) None) ≡ spread_text end (cond b (Some (seen_as d)) None) o1 o2
    by_base true = is
    by_base false = refl

desk_under : (ds : List Desk) (n : ℕ) (d : Desk) → slice_get ds n ≡ Some d → n < length ds
desk_under [] n d is = absurd cc
desk_under (x ∷ ds) zero d is = omega arith
desk_under (x ∷ ds) (suc n) d is = let less = desk_under ds n d is in omega (arith, less)

leg_under : (ds : List Desk) (id : ℤ) (n : ℕ) → slot_in (ids_in ds) id ≡ Some n → n < length ds
leg_under ds id n is = ids_long ds n (slot_under (ids_in ds) n id (slot_holds (ids_in ds) id n is))
  where
    ids_long : (ds : List Desk) (n : ℕ) → n < length (ids_in ds) → n < length ds
    ids_long [] n less = less
    ids_long (d ∷ ds) zero less = omega arith
    ids_long (d ∷ ds) (suc n) less = let rest = ids_long ds n (omega (arith, less)) in omega (arith, rest)

-- all of a spread's places stand below the number of desks
spread_under : (ds : List Desk) (n : ℕ) (d : Desk) (kind : InstrumentKind) (spread : Spread) → slice_get ds n ≡ Some d → spread_in n (ids_in ds) kind ≡ Some spread → IsUnder (length ds) spread
spread_under ds n d Outright spread at is = absurd cc
spread_under ds n d (Calendar id1 id2) spread at is =
    let places = placed n (slot_in (ids_in ds) id1) (slot_in (ids_in ds) id2) spread is in
    record {
      slot = subst (λ (slot : ℕ). slot < length ds) places.slot (desk_under ds n d at);
      leg1 = leg_under ds id1 spread.leg1 places.leg1;
      leg2 = leg_under ds id2 spread.leg2 places.leg2;
    }

-- a spread has the line of what is shown at its places
audited : (end : EventEnd) (ds : List Desk) (n : ℕ) (d : Desk) (spread : Spread) → AllPairs (λ a b. a ≢ b) (ids_in ds) → slice_get ds n ≡ Some d → spread_in n (ids_in ds) d.instrument.kind ≡ Some spread
    → audit_text end (map (desk_standing end.packet) ds) (desk_standing end.packet d) ≡ spread_line end ds spread
audited end ds n d spread differ at is = by_kind d.instrument.kind refl is
  where
    shown : ℕ → Option Seen
    shown slot = seen_there end.packet (slice_get ds slot)

    itself : n ≡ spread.slot → desk_standing end.packet d ≡ seen_there end.packet (slice_get ds spread.slot)
    itself same = sym (ap (seen_there end.packet) at) ∙ ap (λ (slot : ℕ). seen_there end.packet (slice_get ds slot)) same

    by_kind : (kind : InstrumentKind) → d.instrument.kind ≡ kind → spread_in n (ids_in ds) kind ≡ Some spread → audit_text end (map (desk_standing end.packet) ds) (desk_standing end.packet d) ≡ spread_line end ds spread
    by_kind Outright same is = absurd cc
    by_kind (Calendar id1 id2) same is =
        let places = placed n (slot_in (ids_in ds) id1) (slot_in (ids_in ds) id2) spread is in
        let first = seen_here end.packet id1 ds spread.leg1 differ (slot_holds (ids_in ds) id1 spread.leg1 places.leg1) in
        let second = seen_here end.packet id2 ds spread.leg2 differ (slot_holds (ids_in ds) id2 spread.leg2 places.leg2) in
        let legs : legs_text end (map (desk_standing end.packet) ds) (seen_as d) d.instrument.kind ≡ spread_text end (Some (seen_as d)) (seen_there end.packet (slice_get ds spread.leg1)) (seen_there end.packet (slice_get ds spread.leg2)) =
        ap (legs_text end (map (desk_standing end.packet) ds) (seen_as d)) same
        ∙ ap (λ (o : Option Seen). spread_text end (Some (seen_as d)) o (seen_of id2 (map (desk_standing end.packet) ds))) first
        ∙ ap (λ (o : Option Seen). spread_text end (Some (seen_as d)) (seen_there end.packet (slice_get ds spread.leg1)) o) second in
        at_end end (map (desk_standing end.packet) ds) d (seen_there end.packet (slice_get ds spread.leg1)) (seen_there end.packet (slice_get ds spread.leg2)) legs
        ∙ ap (λ (o : Option Seen). spread_text end o (seen_there end.packet (slice_get ds spread.leg1)) (seen_there end.packet (slice_get ds spread.leg2))) (itself places.slot)

no_second : (end : EventEnd) (s : Seen) (o : Option Seen) → spread_text end (Some s) o None ≡ []
no_second end s None = refl
no_second end s (Some leg1) = refl

-- a security with no legs there has no line
not_audited : (end : EventEnd) (ds : List Desk) (n : ℕ) (d : Desk) → spread_in n (ids_in ds) d.instrument.kind ≡ None → audit_text end (map (desk_standing end.packet) ds) (desk_standing end.packet d) ≡ []
not_audited end ds n d is = at_end end (map (desk_standing end.packet) ds) d None None (by_kind d.instrument.kind is) ∙ no_lines (desk_standing end.packet d)
  where
    no_lines : (o : Option Seen) → spread_text end o None None ≡ []
    no_lines None = refl
    no_lines (Some s) = refl

    by_kind : (kind : InstrumentKind) → spread_in n (ids_in ds) kind ≡ None → legs_text end (map (desk_standing end.packet) ds) (seen_as d) kind ≡ spread_text end (Some (seen_as d)) None None
    by_kind Outright is = refl
    by_kind (Calendar id1 id2) is = elim (one_lacks n (slot_in (ids_in ds) id1) (slot_in (ids_in ds) id2) is) [
      | inl lacks ↦ ap (λ (o : Option Seen). spread_text end (Some (seen_as d)) o (seen_of id2 (map (desk_standing end.packet) ds))) (unseen end.packet id1 ds (slot_none (ids_in ds) id1 lacks))
      | inr lacks ↦ ap (λ (o : Option Seen). spread_text end (Some (seen_as d)) (seen_of id1 (map (desk_standing end.packet) ds)) o) (unseen end.packet id2 ds (slot_none (ids_in ds) id2 lacks)) ∙ no_second end (seen_as d) (seen_of id1 (map (desk_standing end.packet) ds))
    ]

-- ---- all spreads

-- these desks stand among all, from a place on
abbrev AreFrom : ℕ → List Desk → List Desk → Type 0
AreFrom n rest ds = (m : ℕ) → slice_get rest m ≡ slice_get ds (n + m)

here_of : (n : ℕ) (d : Desk) (rest ds : List Desk) → AreFrom n (d ∷ rest) ds → slice_get ds n ≡ Some d
here_of n d rest ds are = let none : n + 0 ≡ n = omega arith in sym (ap (λ (m : ℕ). slice_get ds m) none) ∙ sym (are 0)

later_of : (n : ℕ) (d : Desk) (rest ds : List Desk) → AreFrom n (d ∷ rest) ds → AreFrom (n + 1) rest ds
later_of n d rest ds are m = let same : n + suc m ≡ n + 1 + m = omega arith in are (suc m) ∙ ap (λ (i : ℕ). slice_get ds i) same

itself_from : (ds : List Desk) → AreFrom 0 ds ds
itself_from ds m = let same : m ≡ 0 + m = omega arith in ap (λ (i : ℕ). slice_get ds i) same

all_audited : (end : EventEnd) (ds rest : List Desk) (n : ℕ) → AllPairs (λ a b. a ≢ b) (ids_in ds) → AreFrom n rest ds
    → flat_map (audit_text end (map (desk_standing end.packet) ds)) (map (desk_standing end.packet) rest) ≡ flat_map (spread_line end ds) (spreads_from n (ids_in ds) (listed_in rest))
all_audited end ds [] n differ are = refl
all_audited end ds (d ∷ rest) n differ are = one_more (spread_in n (ids_in ds) d.instrument.kind) refl (all_audited end ds rest (n + 1) differ (later_of n d rest ds are))
  where
    one_more : (o : Option Spread) → spread_in n (ids_in ds) d.instrument.kind ≡ o
        → flat_map (audit_text end (map (desk_standing end.packet) ds)) (map (desk_standing end.packet) rest) ≡ flat_map (spread_line end ds) (spreads_from (n + 1) (ids_in ds) (listed_in rest))
        → audit_text end (map (desk_standing end.packet) ds) (desk_standing end.packet d) ++ flat_map (audit_text end (map (desk_standing end.packet) ds)) (map (desk_standing end.packet) rest)
        ≡ flat_map (spread_line end ds) (with_spread (spread_in n (ids_in ds) d.instrument.kind) (spreads_from (n + 1) (ids_in ds) (listed_in rest)))
    one_more None is others =
        ap (λ (t : List ℕ). t ++ flat_map (audit_text end (map (desk_standing end.packet) ds)) (map (desk_standing end.packet) rest)) (not_audited end ds n d is)
        ∙ others
        ∙ ap (λ (o : Option Spread). flat_map (spread_line end ds) (with_spread o (spreads_from (n + 1) (ids_in ds) (listed_in rest)))) (sym is)
    one_more (Some spread) is others =
        ap (λ (t : List ℕ). t ++ flat_map (audit_text end (map (desk_standing end.packet) ds)) (map (desk_standing end.packet) rest)) (audited end ds n d spread differ (here_of n d rest ds are) is)
        ∙ ap (λ (t : List ℕ). spread_line end ds spread ++ t) others
        ∙ ap (λ (o : Option Spread). flat_map (spread_line end ds) (with_spread o (spreads_from (n + 1) (ids_in ds) (listed_in rest)))) (sym is)

-- the lines of all spreads are those of the listed securities
pub audits_are : (end : EventEnd) (ds : List Desk) (spreads : List Spread) → AllPairs (λ a b. a ≢ b) (ids_in ds) → spreads ≡ spreads_from 0 (ids_in ds) (listed_in ds)
    → flat_map (audit_text end (map (desk_standing end.packet) ds)) (map (desk_standing end.packet) ds) ≡ flat_map (spread_line end ds) spreads
audits_are end ds spreads differ are = all_audited end ds ds 0 differ (itself_from ds) ∙ ap (flat_map (spread_line end ds)) (sym are)

all_under : (ds rest : List Desk) (n : ℕ) → AreFrom n rest ds → AllByRecursion (IsUnder (length ds)) (spreads_from n (ids_in ds) (listed_in rest))
all_under ds [] n are = tt
all_under ds (d ∷ rest) n are = one_more (spread_in n (ids_in ds) d.instrument.kind) refl (all_under ds rest (n + 1) (later_of n d rest ds are))
  where
    one_more : (o : Option Spread) → spread_in n (ids_in ds) d.instrument.kind ≡ o
        → AllByRecursion (IsUnder (length ds)) (spreads_from (n + 1) (ids_in ds) (listed_in rest))
        → AllByRecursion (IsUnder (length ds)) (with_spread (spread_in n (ids_in ds) d.instrument.kind) (spreads_from (n + 1) (ids_in ds) (listed_in rest)))
    one_more None is others = subst (λ (o : Option Spread). AllByRecursion (IsUnder (length ds)) (with_spread o (spreads_from (n + 1) (ids_in ds) (listed_in rest)))) (sym is) others
    one_more (Some spread) is others =
        subst (λ (o : Option Spread). AllByRecursion (IsUnder (length ds)) (with_spread o (spreads_from (n + 1) (ids_in ds) (listed_in rest)))) (sym is)
        (spread_under ds n d d.instrument.kind spread (here_of n d rest ds are) is, others)

pub one_under : (count : ℕ) (spreads : List Spread) (m : ℕ) (d : Spread) → AllByRecursion (IsUnder count) spreads → m < length spreads → IsUnder count (get_or spreads m d)
one_under count [] m d all less = absurd (omega (arith, less))
one_under count (s ∷ spreads) zero d all less = all.0
one_under count (s ∷ spreads) (suc m) d all less = one_under count spreads m d all.1 (omega (arith, less))

-- each spread stands below the number of desks with its legs
pub under_there : (ds : List Desk) (spreads : List Spread) (m : ℕ) (d : Spread) → spreads ≡ spreads_from 0 (ids_in ds) (listed_in ds) → m < length spreads → IsUnder (length ds) (get_or spreads m d)
under_there ds spreads m d are less = one_under (length ds) spreads m d (subst (AllByRecursion (IsUnder (length ds))) (sym are) (all_under ds ds 0 (itself_from ds))) less
