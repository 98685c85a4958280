-- Lists of the spreads that each security is part of, noted one after another, and why the others are quiet.
use Rattle.std.proofs.Common.{◌≡◌, ◌<◌, ◌≤◌, ℕ, zero, suc, ◌+◌, ◌++◌, Bool, true, false, List, [], ◌∷◌, length, take, drop, get_or, set, Option, Some, None, refl, sym, ap, subst, ◌∙◌, arith, inl, inr, append-nil, append_assoc}
use Rattle.std.specs.Prelude.{All, Vec, nat_lt, slice_get}
use Rattle.std.specs.List.{Contains, flat_map}
use Rattle.std.proofs.lemmas.Bool.{cases_lt, cases_eq, cases_Bool}
use Rattle.std.proofs.lemmas.List.{get_or-map, get_or_default, length-map, length-set, map-set, get_or-set_same, get_or-set_other, at_drop_more, drop_all, take_at}
use Rattle.std.proofs.lemmas.List.Elements.{Contains-push, Contains-push_cases, Contains-append_left}
use Rattle.mdp_books.specs.declared.event_end.EventEnd.{EventEnd}
use Rattle.mdp_desks.specs.declared.desk.Desk.{Desk}
use Rattle.mdp_desks.specs.Beside.{AreClear, AreDueAt, IsFirstSet, all_due_at}
use Rattle.mdp_desks.specs.Lines.{Seen, spread_text}
use Rattle.mdp_desks.proofs.Waiting.{off_of, unmarked}
use Rattle.mdp_engine.specs.declared.spreads.Spread.{Spread}
use Rattle.mdp_engine.specs.Parts.{AreDue, AreParts, AreQuiet, AreSilent, IsNoted, IsPart, IsQuiet, lists_in, with_part, with_parts}
use Rattle.mdp_engine.specs.Spreads.{IsUnder, seen_there, spread_line}

-- ---- one part more

pub long_part : (slot n : ℕ) (parts : List (List ℕ)) → length (with_part slot n parts) ≡ length parts
long_part slot n parts = length-set parts slot (get_or parts slot [] ++ n ∷ [])

there_part : (slot n : ℕ) (parts : List (List ℕ)) → slot < length parts → IsPart (with_part slot n parts) slot n
there_part slot n parts less =
    subst (λ (xs : List ℕ). Contains xs n) (sym (get_or-set_same parts slot (get_or parts slot [] ++ n ∷ []) [] less)) (Contains-push (get_or parts slot []) n)

kept_part : (slot n : ℕ) (parts : List (List ℕ)) → slot < length parts → (s k : ℕ) → IsPart parts s k → IsPart (with_part slot n parts) s k
kept_part slot n parts less s k is = elim (cases_eq s slot) [
  | inl same ↦ here same
  | inr other ↦ subst (λ (xs : List ℕ). Contains xs k) (sym (get_or-set_other parts slot s (get_or parts slot [] ++ n ∷ []) [] other)) is
]
  where
    here : s ≡ slot → IsPart (with_part slot n parts) s k
    here same =
        let at : IsPart parts slot k = subst (λ (m : ℕ). IsPart parts m k) same is in
        let more = Contains-append_left (get_or parts slot []) (n ∷ []) k at in
        subst (λ (m : ℕ). IsPart (with_part slot n parts) m k) (sym same)
        (subst (λ (xs : List ℕ). Contains xs k) (sym (get_or-set_same parts slot (get_or parts slot [] ++ n ∷ []) [] less)) more)

within_part : (slot n bound : ℕ) (parts : List (List ℕ)) → slot < length parts → n < bound → ((s k : ℕ) → IsPart parts s k → k < bound) → (s k : ℕ) → IsPart (with_part slot n parts) s k → k < bound
within_part slot n bound parts less small within s k is = elim (cases_eq s slot) [
  | inl same ↦ here same
  | inr other ↦ within s k (subst (λ (xs : List ℕ). Contains xs k) (get_or-set_other parts slot s (get_or parts slot [] ++ n ∷ []) [] other) is)
]
  where
    here : s ≡ slot → k < bound
    here same =
        let at : IsPart (with_part slot n parts) slot k = subst (λ (m : ℕ). IsPart (with_part slot n parts) m k) same is in
        elim (Contains-push_cases (get_or parts slot []) n k (subst (λ (xs : List ℕ). Contains xs k) (get_or-set_same parts slot (get_or parts slot [] ++ n ∷ []) [] less) at)) [
          | inl before ↦ within slot k before
          | inr last ↦ omega (arith, last, small)
        ]

-- ---- one spread more

pub long_parts : (n : ℕ) (spread : Spread) (parts : List (List ℕ)) → length (with_parts n spread parts) ≡ length parts
long_parts n spread parts =
    let one = with_part spread.slot n parts in
    let two = with_part spread.leg1 n one in
    long_part spread.leg2 n two ∙ long_part spread.leg1 n one ∙ long_part spread.slot n parts

pub parts_more : (count n : ℕ) (spreads : List Spread) (spread d : Spread) (parts new : List (List ℕ)) → IsUnder count spread → n < length spreads → spread ≡ get_or spreads n d → new ≡ with_parts n spread parts
    → AreParts count n spreads parts → AreParts count (n + 1) spreads new
parts_more count n spreads spread d parts new under less at is so_far =
    let one = with_part spread.slot n parts in
    let two = with_part spread.leg1 n one in
    let three = with_part spread.leg2 n two in
    let long1 = long_part spread.slot n parts in
    let long2 = long_part spread.leg1 n one in
    let long = so_far.long in
    let in1 : spread.slot < length parts = omega (arith, under.slot, long) in
    let in2 : spread.leg1 < length one = omega (arith, under.leg1, long, long1) in
    let in3 : spread.leg2 < length two = omega (arith, under.leg2, long, long1, long2) in
    let kept : (s k : ℕ) → IsPart parts s k → IsPart three s k = λ s k was. kept_part spread.leg2 n two in3 s k (kept_part spread.leg1 n one in2 s k (kept_part spread.slot n parts in1 s k was)) in
    let small : n < n + 1 = omega arith in
    let within : (s k : ℕ) → IsPart three s k → k < n + 1 =
    within_part spread.leg2 n (n + 1) two in3 small (within_part spread.leg1 n (n + 1) one in2 small (within_part spread.slot n (n + 1) parts in1 small (λ s k was. let below = so_far.within s k was in omega (arith, below)))) in
    let new_one : IsNoted three n spread = record {
      slot = kept_part spread.leg2 n two in3 spread.slot n (kept_part spread.leg1 n one in2 spread.slot n (there_part spread.slot n parts in1));
      leg1 = kept_part spread.leg2 n two in3 spread.leg1 n (there_part spread.leg1 n one in2);
      leg2 = there_part spread.leg2 n two in3;
    } in
    subst (λ (ps : List (List ℕ)). AreParts count (n + 1) spreads ps) (sym is) (record {
      long = long_parts n spread parts ∙ long;
      within = within;
      noted = λ m e under1. by_place three kept new_one m e under1;
    })
  where
    by_place : (three : List (List ℕ)) → ((s k : ℕ) → IsPart parts s k → IsPart three s k) → IsNoted three n spread → (m : ℕ) (e : Spread) → m < n + 1 → IsNoted three m (get_or spreads m e)
    by_place three kept new_one m e under1 = elim (cases_lt m n) [
      | inl below ↦ (let was = so_far.noted m e below in record { slot = kept _ m was.slot; leg1 = kept _ m was.leg1; leg2 = kept _ m was.leg2 })
      | inr above ↦ here above
    ]
      where
        here : n ≤ m → IsNoted three m (get_or spreads m e)
        here above =
            let same : n ≡ m = omega (arith, above, under1) in
            let itself : spread ≡ get_or spreads n e = at ∙ get_or_default spreads n d e less in
            subst (λ (i : ℕ). IsNoted three i (get_or spreads i e)) same (subst (λ (s : Spread). IsNoted three n s) itself new_one)

-- ---- marks that are set

-- a mark that is set stays set where others are
pub stays_set : (marks : List Bool) (slot n : ℕ) → get_or marks n false ≡ true → get_or (set marks slot true) n false ≡ true
stays_set [] slot n is = absurd (cc is)
stays_set (b ∷ marks) zero zero is = refl
stays_set (b ∷ marks) (suc slot) zero is = is
stays_set (b ∷ marks) zero (suc n) is = is
stays_set (b ∷ marks) (suc slot) (suc n) is = stays_set marks slot n is

none_past : (marks : List Bool) (n : ℕ) → length marks ≤ n → get_or marks n false ≡ false
none_past [] n past = refl
none_past (b ∷ marks) zero past = absurd (omega (arith, past))
none_past (b ∷ marks) (suc n) past = none_past marks n (omega (arith, past))

opposite : (b : Bool) → b ≡ true → b ≡ false → ⊥
opposite b set clear = cc (set, clear)

-- what one element of a list has that all have
pub of_all : (P : ℕ → Type 0) (xs : List ℕ) (x : ℕ) → All P xs → Contains xs x → P x
of_all P xs x all there = subst P there.2 (all there.0 x there.1)

pub all_of : (P : ℕ → Type 0) (xs : List ℕ) → ((x : ℕ) → Contains xs x → P x) → All P xs
all_of P xs each k d less = each (get_or xs k d) (k, less, get_or_default xs k (get_or xs k d) d less)

-- so far: below a place
abbrev pub DueBelow : ℕ → List Bool → List (List ℕ) → List Bool → Type 0
DueBelow below marks parts due = (slot n : ℕ) → slot < below → get_or marks slot false ≡ true → IsPart parts slot n → get_or due n false ≡ true

pub due_more : (marks : List Bool) (parts : List (List ℕ)) (old new : List Bool) (from slot high : ℕ) → IsFirstSet from high slot marks → ((n : ℕ) → get_or old n false ≡ true → get_or new n false ≡ true) → All (λ n. get_or new n false ≡ true) (get_or parts slot [])
    → DueBelow from marks parts old → DueBelow (slot + 1) marks parts new
due_more marks parts old new from slot high first kept here so_far s n under is part = elim (cases_lt s from) [
  | inl below ↦ kept n (so_far s n below is part)
  | inr above ↦ by_place above
]
  where
    by_place : from ≤ s → get_or new n false ≡ true
    by_place above = elim (cases_lt s slot) [
      | inl before ↦ absurd (opposite (get_or marks s false) is (first.before s above before))
      | inr after ↦ (let same : s ≡ slot = omega (arith, after, under) in of_all (λ (m : ℕ). get_or new m false ≡ true) (get_or parts slot []) n here (subst (λ (i : ℕ). IsPart parts i n) same part))
    ]

-- ---- quiet spreads

-- of the spreads that are not marked, none has a part that is
pub quiet_of : (marks : List Bool) (count : ℕ) (spreads : List Spread) (parts : List (List ℕ)) (due : List Bool) → AreParts count (length spreads) spreads parts → AreDue marks parts due → AreQuiet marks spreads due
quiet_of marks count spreads parts due are marked n d less unmarked =
    let noted = are.noted n d less in
    record { slot = off _ noted.slot; leg1 = off _ noted.leg1; leg2 = off _ noted.leg2 }
  where
    off : (slot : ℕ) → IsPart parts slot n → get_or marks slot false ≡ false
    off slot part = elim (cases_Bool (get_or marks slot false)) [
      | inl is ↦ absurd (opposite (get_or due n false) (marked slot n is part) unmarked)
      | inr is ↦ is
    ]

-- what is shown of a desk that isn't due is not printed
unprinted : (k : ℕ) (ds : List Desk) (n : ℕ) → get_or (all_due_at k ds) n false ≡ false → (s : Seen) → seen_there k (slice_get ds n) ≡ Some s → s.printed ≡ false
unprinted k [] n off s is = absurd (cc is)
unprinted k (d ∷ ds) zero off s is = by_base (nat_lt d.base k) refl
  where
    by_base : (b : Bool) → nat_lt d.base k ≡ b → s.printed ≡ false
    by_base true over =
        let same : Some (record { instrument = d.instrument; printed = d.marked; book = d.book }) ≡ Some s = rw over at is in
        let none : d.marked ≡ false = unmarked d.marked (nat_lt d.base k) off over in
        cc (same, none)
    by_base false under = let none : None ≡ Some s = rw under at is in absurd (cc none)
unprinted k (d ∷ ds) (suc n) off s is = unprinted k ds n off s is

no_text : (end : EventEnd) (o1 o2 o3 : Option Seen) → ((s : Seen) → o1 ≡ Some s → s.printed ≡ false) → ((s : Seen) → o2 ≡ Some s → s.printed ≡ false) → ((s : Seen) → o3 ≡ Some s → s.printed ≡ false) → spread_text end o1 o2 o3 ≡ []
no_text end None o2 o3 p1 p2 p3 = refl
no_text end (Some a) None o3 p1 p2 p3 = refl
no_text end (Some a) (Some b) None p1 p2 p3 = refl
no_text end (Some a) (Some b) (Some e) p1 p2 p3 =
    let x = p1 a refl in
    let y = p2 b refl in
    let z = p3 e refl in
    rw (x, y, z) refl

quiet_line : (end : EventEnd) (ds : List Desk) (spread : Spread) → IsQuiet (all_due_at end.packet ds) spread → spread_line end ds spread ≡ []
quiet_line end ds spread quiet =
    no_text end (seen_there end.packet (slice_get ds spread.slot)) (seen_there end.packet (slice_get ds spread.leg1)) (seen_there end.packet (slice_get ds spread.leg2))
    (unprinted end.packet ds spread.slot quiet.slot) (unprinted end.packet ds spread.leg1 quiet.leg1) (unprinted end.packet ds spread.leg2 quiet.leg2)

-- a spread of which no part is marked has no line
abbrev pub IsSilent : List Bool → (Spread → List ℕ) → Type 0
IsSilent marks line = (spread : Spread) → IsQuiet marks spread → line spread ≡ []

pub desks_silent : (end : EventEnd) (ds : List Desk) (marks : List Bool) → AreDueAt end.packet marks ds → IsSilent marks (spread_line end ds)
desks_silent end ds marks due spread quiet = quiet_line end ds spread (record { slot = off spread.slot quiet.slot; leg1 = off spread.leg1 quiet.leg1; leg2 = off spread.leg2 quiet.leg2 })
  where
    off : (n : ℕ) → get_or marks n false ≡ false → get_or (all_due_at end.packet ds) n false ≡ false
    off n none = off_of (get_or (all_due_at end.packet ds) n false) (get_or marks n false) (due.all n) none

pub all_silent : (line : Spread → List ℕ) (spreads : List Spread) (marks due : List Bool) → IsSilent marks line → AreQuiet marks spreads due → AreSilent line spreads due
all_silent line spreads marks due silent quiet n d less off = silent (get_or spreads n d) (quiet n d less off)

-- ---- the lines of the spreads from one place on, where silent spreads have none

abbrev pub lines_left : (Spread → List ℕ) → List Spread → ℕ → List ℕ
lines_left line spreads n = flat_map line (drop n spreads)

silent_to : {X : Type 0} (f : X → List ℕ) (xs : List X) (a b : ℕ) → a ≤ b → b ≤ length xs → ((i : ℕ) (d : X) → a ≤ i → i < b → f (get_or xs i d) ≡ []) → flat_map f (drop b xs) ≡ flat_map f (drop a xs)
silent_to f [] zero zero up short none = refl
silent_to f [] (suc a) b up short none = absurd (omega (arith, up, short))
silent_to f [] zero (suc b) up short none = absurd (omega (arith, short))
silent_to f (x ∷ xs) zero zero up short none = refl
silent_to f (x ∷ xs) zero (suc b) up short none =
    silent_to f xs zero b (omega arith) (omega (arith, short)) (λ i d from less. none (suc i) d (omega arith) (omega (arith, less)))
    ∙ ap (λ (t : List ℕ). t ++ flat_map f xs) (sym (none 0 x (omega arith) (omega arith)))
silent_to f (x ∷ xs) (suc a) zero up short none = absurd (omega (arith, up))
silent_to f (x ∷ xs) (suc a) (suc b) up short none = silent_to f xs a b (omega (arith, up)) (omega (arith, short)) (λ i d from less. none (suc i) d (omega (arith, from)) (omega (arith, less)))

-- of the spreads whose marks none is set, none has a line
passed_over : (line : Spread → List ℕ) (spreads : List Spread) (due now : List Bool) (from n : ℕ) → AreSilent line spreads due → ((i : ℕ) → from ≤ i → get_or now i false ≡ get_or due i false)
    → from ≤ n → n ≤ length spreads → AreClear from n now → lines_left line spreads n ≡ lines_left line spreads from
passed_over line spreads due now from n silent same up short clear =
    silent_to line spreads from n up short (λ i d above under.
    silent i d (omega (arith, under, short)) (sym (same i above) ∙ clear i above under))

pub line_more : (line : Spread → List ℕ) (spreads : List Spread) (due now : List Bool) (from n : ℕ) (d : Spread) (old new whole : List ℕ) → AreSilent line spreads due → ((i : ℕ) → from ≤ i → get_or now i false ≡ get_or due i false)
    → from ≤ n → n < length spreads → AreClear from n now → new ≡ old ++ line (get_or spreads n d) → old ++ lines_left line spreads from ≡ whole → new ++ lines_left line spreads (n + 1) ≡ whole
line_more line spreads due now from n d old new whole silent same up less clear is before =
    let here = line (get_or spreads n d) in
    let rest = lines_left line spreads (n + 1) in
    let next : lines_left line spreads n ≡ here ++ rest = at_drop_more (flat_map line) spreads n d less in
    ap (λ (t : List ℕ). t ++ rest) is
    ∙ append_assoc old here rest
    ∙ ap (λ (t : List ℕ). old ++ t) (sym next ∙ passed_over line spreads due now from n silent same up (omega (arith, less)) clear)
    ∙ before

pub line_end : (line : Spread → List ℕ) (spreads : List Spread) (due now : List Bool) (from : ℕ) (text whole : List ℕ) → AreSilent line spreads due → ((i : ℕ) → from ≤ i → get_or now i false ≡ get_or due i false)
    → from ≤ length spreads → AreClear from (length spreads) now → text ++ lines_left line spreads from ≡ whole → text ≡ whole
line_end line spreads due now from text whole silent same up clear before =
    let past = passed_over line spreads due now from (length spreads) silent same up (omega arith) clear in
    let none : lines_left line spreads from ≡ [] = sym past ∙ ap (flat_map line) (drop_all (length spreads) spreads (omega arith)) in
    sym (append-nil text) ∙ ap (λ (t : List ℕ). text ++ t) (sym none) ∙ before

-- ---- the lists as a list of vectors

pub lists_long : {Z : Type 0} (lists : List (Vec ℕ Z)) → length (lists_in lists) ≡ length lists
lists_long lists = length-map lists (λ v. v.items)

pub list_there : {Z : Type 0} (lists : List (Vec ℕ Z)) (slot : ℕ) (d : Vec ℕ Z) → slot < length lists → get_or (lists_in lists) slot [] ≡ (get_or lists slot d).items
list_there lists slot d less = get_or-map (λ v. v.items) lists slot d [] less

pub list_set : {Z : Type 0} (lists : List (Vec ℕ Z)) (slot n : ℕ) (here old d : Vec ℕ Z) → slot < length lists → old ≡ get_or lists slot d → here.items ≡ old.items ++ n ∷ [] → lists_in (set lists slot here) ≡ with_part slot n (lists_in lists)
list_set lists slot n here old d less at is =
    map-set (λ v. v.items) lists slot here
    ∙ ap (set (lists_in lists) slot) (is ∙ ap (λ (xs : List ℕ). xs ++ n ∷ []) (ap (λ v. v.items) at ∙ sym (list_there lists slot d less)))

-- what is noted of one spread more, by the lists' vectors
pub noted_more : {Z : Type 0} (count n len : ℕ) (spreads : List Spread) (d : Spread) (before was after : List (Vec ℕ Z)) → ((k : ℕ) (e : Spread) → k < length spreads → IsUnder count (get_or spreads k e)) → n < length spreads → was ≡ before → length was ≡ len
    → lists_in after ≡ with_parts n (get_or spreads n d) (lists_in was) → AreParts count n spreads (lists_in before) → AreParts count (n + 1) spreads (lists_in (take len (after ++ drop (length after) before)))
noted_more count n len spreads d before was after under less same many noted so_far =
    let spread = get_or spreads n d in
    let long : length after ≡ len = sym (lists_long after) ∙ ap length noted ∙ long_parts n spread (lists_in was) ∙ lists_long was ∙ many in
    let kept = take_at after (drop (length after) before) len long in
    let is = noted ∙ ap (λ ls. with_parts n spread (lists_in ls)) same in
    subst (λ ls. AreParts count (n + 1) spreads (lists_in ls)) (sym kept) (parts_more count n spreads spread d (lists_in before) (lists_in after) (under n d less) less refl is so_far)
