-- Of which desks an event end has lines, and the marks that are set for these.
use Rattle.std.proofs.Common.{◌≡◌, ◌≢◌, ◌<◌, ◌≤◌, ℕ, zero, suc, Bool, true, false, List, [], ◌∷◌, cond, length, map, get_or, set, refl, sym, ap, subst, ◌∙◌, arith, inl, inr}
use Rattle.std.specs.Prelude.{Option, Some, None, ◌&&◌, nat_lt}
use Rattle.std.proofs.lemmas.Bool.{cases_eq, cases_lt}
use Rattle.std.proofs.lemmas.Bool.Decides.{nat_tests}
use Rattle.std.proofs.lemmas.List.{map-set, length-map, length-set, get_or-map, get_or-set_same, get_or-set_other}
use Rattle.mdp_desks.specs.declared.desk.Desk.{Desk}
use Rattle.mdp_templates.specs.declared.entry.Entry.{Entry}
use Rattle.mdp_books.specs.declared.book.Place.{Place}
use Rattle.mdp_templates.specs.Snapshot.{SnapshotContent}
use Rattle.mdp_desks.specs.Desks.{desk_entered, desk_jumped, rebased_desks}
use Rattle.mdp_desks.proofs.Hearing.{length_rebased}
use Rattle.mdp_desks.specs.Beside.{AreAmong, AreClear, AreDueAt, AreDueBefore, all_due_at, is_due_at, marks_of}

-- ---- one desk

first_of : (b c : Bool) → (b && c) ≡ true → b ≡ true
first_of true c is = refl
first_of false c is = absurd (cc is)

pub unmarked : (marked over : Bool) → (marked && over) ≡ false → over ≡ true → marked ≡ false
unmarked true true is over = absurd (cc is)
unmarked true false is over = absurd (cc over)
unmarked false over is there = refl

-- a mark that is set only where another one is
pub off_of : (b c : Bool) → (b ≡ true → c ≡ true) → c ≡ false → b ≡ false
off_of true c up off = absurd (cc (up refl, off))
off_of false c up off = refl

-- what is due at one packet is due at each behind it
due_later : (k least : ℕ) (d : Desk) → k ≤ least → is_due_at k d ≡ true → is_due_at least d ≡ true
due_later k least d up is = by_mark d.marked is
  where
    by_mark : (b : Bool) → (b && nat_lt d.base k) ≡ true → (b && nat_lt d.base least) ≡ true
    by_mark true is = grind (arith, nat_tests, is, up)
    by_mark false is = absurd (cc is)

-- ---- all desks

later : (k least : ℕ) (ds : List Desk) → k ≤ least → AreAmong (all_due_at k ds) (all_due_at least ds)
later k least [] up n is = is
later k least (d ∷ ds) up zero is = due_later k least d up is
later k least (d ∷ ds) up (suc n) is = later k least ds up n is

pub marked_due : (k : ℕ) (ds : List Desk) → AreAmong (all_due_at k ds) (marks_of ds)
marked_due k [] n is = is
marked_due k (d ∷ ds) zero is = first_of d.marked (nat_lt d.base k) is
marked_due k (d ∷ ds) (suc n) is = marked_due k ds n is

-- ---- marks that are set for them

-- each desk's own mark will do, at any packet
pub due_marked : (k : ℕ) (ds : List Desk) (marks : List Bool) → marks ≡ marks_of ds → AreDueAt k marks ds
due_marked k ds marks are = record {
  many = ap length are ∙ length-map ds (λ (d : Desk). d.marked);
  only = λ n is. sym (ap (λ (ms : List Bool). get_or ms n false) are) ∙ is;
  all = λ n is. ap (λ (ms : List Bool). get_or ms n false) are ∙ marked_due k ds n is;
}

-- where no mark is set no desk is due
pub clear_due : (k : ℕ) (ds : List Desk) (marks : List Bool) (a b : ℕ) → AreDueAt k marks ds → AreClear a b marks → AreClear a b (all_due_at k ds)
clear_due k ds marks a b due clear n from under = off_of (get_or (all_due_at k ds) n false) (get_or marks n false) (due.all n) (clear n from under)

-- one desk is changed, and its mark with it
pub due_changed : (k : ℕ) (ds : List Desk) (marks new : List Bool) (n : ℕ) (here : Desk) → AreDueAt k marks ds → n < length ds → length new ≡ length marks → ((i : ℕ) → i ≢ n → get_or new i false ≡ get_or marks i false)
    → (get_or new n false ≡ true → here.marked ≡ true) → (is_due_at k here ≡ true → get_or new n false ≡ true) → AreDueAt k new (set ds n here)
due_changed k ds marks new n here due less long others only all = record {
  many = long ∙ due.many ∙ sym (length-set ds n here);
  only = λ i is. ap (λ (ms : List Bool). get_or ms i false) (map-set (λ (d : Desk). d.marked) ds n here) ∙ only_there i is;
  all = λ i is. all_there i (sym (ap (λ (ms : List Bool). get_or ms i false) (map-set (is_due_at k) ds n here)) ∙ is);
}
  where
    only_there : (i : ℕ) → get_or new i false ≡ true → get_or (set (marks_of ds) n here.marked) i false ≡ true
    only_there i is = elim (cases_eq i n) [
      | inl same ↦ subst (λ (j : ℕ). get_or (set (marks_of ds) n here.marked) j false ≡ true) (sym same)
          (get_or-set_same (marks_of ds) n here.marked false (omega (arith, less, length-map ds (λ (d : Desk). d.marked))) ∙ only (subst (λ (j : ℕ). get_or new j false ≡ true) same is))
      | inr other ↦ get_or-set_other (marks_of ds) n i here.marked false other ∙ due.only i (sym (others i other) ∙ is)
    ]

    all_there : (i : ℕ) → get_or (set (all_due_at k ds) n (is_due_at k here)) i false ≡ true → get_or new i false ≡ true
    all_there i is = elim (cases_eq i n) [
      | inl same ↦ subst (λ (j : ℕ). get_or new j false ≡ true) (sym same)
          (all (sym (get_or-set_same (all_due_at k ds) n (is_due_at k here) false (omega (arith, less, length-map ds (is_due_at k)))) ∙ subst (λ (j : ℕ). get_or (set (all_due_at k ds) n (is_due_at k here)) j false ≡ true) same is))
      | inr other ↦ others i other ∙ due.all i (sym (get_or-set_other (all_due_at k ds) n i (is_due_at k here) false other) ∙ is)
    ]

-- a desk whose mark is put
pub due_put : (k : ℕ) (ds : List Desk) (marks new : List Bool) (n : ℕ) (here : Desk) (mark : Bool) → AreDueAt k marks ds → n < length ds → new ≡ set marks n mark → mark ≡ here.marked → AreDueAt k new (set ds n here)
due_put k ds marks new n here mark due less is same =
    let many = due.many in
    let there : get_or new n false ≡ mark = ap (λ (ms : List Bool). get_or ms n false) is ∙ get_or-set_same marks n mark false (omega (arith, less, many)) in
    due_changed k ds marks new n here due less (ap length is ∙ length-set marks n mark) (λ i other. ap (λ (ms : List Bool). get_or ms i false) is ∙ get_or-set_other marks n i mark false other)
    (λ set. sym same ∙ sym there ∙ set) (λ due. there ∙ same ∙ first_of here.marked (nat_lt here.base k) due)

-- an entry is for a desk that waits no longer, and then it is due, or changes nothing
pub due_entered : (until : ℕ) (place : Place) (entry : Entry) (ds : List Desk) (marks new : List Bool) (n : ℕ) (here : Desk) → AreDueBefore until marks ds → n < length ds → here ≡ get_or ds n here
    → new ≡ cond (nat_lt 0 until && nat_lt (desk_entered place entry here).base place.packet) (set marks n true) marks → AreDueBefore until new (set ds n (desk_entered place entry here))
due_entered until place entry ds marks new n here before less at is = record {
  many = long (nat_lt 0 until && nat_lt (desk_entered place entry here).base place.packet) is ∙ before.many ∙ sym (length-set ds n (desk_entered place entry here));
  due = λ k under. by_base k (before.due k under) (some k under) (nat_lt here.base place.packet) refl is;
  none = λ no. subst (λ (ms : List Bool). AreClear 0 (length ms) ms) (sym (is ∙ rw no refl)) (before.none no);
}
  where
    long : (b : Bool) → new ≡ cond b (set marks n true) marks → length new ≡ length marks
    long true same = ap length same ∙ length-set marks n true
    long false same = ap length same

    some : (k : ℕ) → k < until → nat_lt 0 until ≡ true
    some k under = grind (arith, nat_tests, under)

    mark : get_or (marks_of ds) n false ≡ here.marked
    mark = get_or-map (λ (d : Desk). d.marked) ds n here false less ∙ ap (λ (d : Desk). d.marked) (sym at)

    due_here : (k : ℕ) → get_or (all_due_at k ds) n false ≡ is_due_at k here
    due_here k = get_or-map (is_due_at k) ds n here false less ∙ ap (is_due_at k) (sym at)

    by_base : (k : ℕ) → AreDueAt k marks ds → nat_lt 0 until ≡ true → (b : Bool) → nat_lt here.base place.packet ≡ b → new ≡ cond (nat_lt 0 until && nat_lt (desk_entered place entry here).base place.packet) (set marks n true) marks
        → AreDueAt k new (set ds n (desk_entered place entry here))
    by_base k due some true over same =
        let set_it : new ≡ set marks n true = same ∙ rw (over, some, over) refl in
        let many = due.many in
        let there : get_or new n false ≡ true = ap (λ (ms : List Bool). get_or ms n false) set_it ∙ get_or-set_same marks n true false (omega (arith, less, many)) in
        due_changed k ds marks new n (desk_entered place entry here) due less (ap length set_it ∙ length-set marks n true) (λ i other. ap (λ (ms : List Bool). get_or ms i false) set_it ∙ get_or-set_other marks n i true false other)
        (λ set. rw over refl) (λ due. there)
    by_base k due some false under same =
        let kept : new ≡ marks = same ∙ rw (under, some, under) refl in
        let as_it_was : desk_entered place entry here ≡ here = rw under refl in
        subst (λ (d : Desk). AreDueAt k new (set ds n d)) (sym as_it_was)
        (due_changed k ds marks new n here due less (ap length kept) (λ i other. ap (λ (ms : List Bool). get_or ms i false) kept)
        (λ set. sym mark ∙ due.only n (sym (ap (λ (ms : List Bool). get_or ms n false) kept) ∙ set)) (λ is. ap (λ (ms : List Bool). get_or ms n false) kept ∙ due.all n (due_here k ∙ is)))

-- ---- the desks that wait

pub past : (bs : List Bool) (n : ℕ) → length bs ≤ n → get_or bs n false ≡ false
past [] n up = refl
past (b ∷ bs) zero up = absurd (omega (arith, up))
past (b ∷ bs) (suc n) up = past bs n (omega (arith, up))

pub cleared : (marks : List Bool) (n : ℕ) → get_or (map (λ _. false) marks) n false ≡ false
cleared [] n = refl
cleared (b ∷ marks) zero = refl
cleared (b ∷ marks) (suc n) = cleared marks n

-- none waits, and no mark is set
pub none_waits : (ds : List Desk) (marks : List Bool) → length marks ≡ length ds → AreClear 0 (length marks) marks → AreDueBefore 0 marks ds
none_waits ds marks long clear = record { many = long; due = λ k under. absurd (omega (arith, under)); none = λ _. clear }

-- the marks are those of marked desks
among : (until : ℕ) (marks : List Bool) (ds : List Desk) → AreDueBefore until marks ds → AreAmong marks (marks_of ds)
among zero marks ds before n is = absurd (cc (is, off))
  where
    off : get_or marks n false ≡ false
    off = elim (cases_lt n (length marks)) [ inl inside ↦ before.none refl n (omega arith) inside | inr outside ↦ past marks n outside ]
among (suc until) marks ds before n is = (before.due 0 (omega arith)).only n is

-- at packet 0 none is due
none_at_first : (k n : ℕ) (ds : List Desk) → k < 1 → get_or (all_due_at k ds) n false ≡ true → ⊥
none_at_first k n [] first is = cc is
none_at_first k zero (d ∷ ds) first is = by_mark d.marked is
  where
    by_mark : (b : Bool) → (b && nat_lt d.base k) ≡ true → ⊥
    by_mark true is = grind (arith, nat_tests, is, first)
    by_mark false is = cc is
none_at_first k (suc n) (d ∷ ds) first is = none_at_first k n ds first is

-- a jump takes no mark away
jumped_marked : (base : Option SnapshotContent) (d : Desk) → d.marked ≡ true → (desk_jumped base d).marked ≡ true
jumped_marked None d is = is
jumped_marked (Some s) d is = refl

marks_rebased : (bases : List (Option SnapshotContent)) (ds : List Desk) → AreAmong (marks_of ds) (marks_of (rebased_desks bases ds))
marks_rebased bases [] n is = is
marks_rebased [] (d ∷ ds) n is = is
marks_rebased (base ∷ bases) (d ∷ ds) zero is = jumped_marked base d is
marks_rebased (base ∷ bases) (d ∷ ds) (suc n) is = marks_rebased bases ds n is

-- so the marks of before it will do up to the first packet
pub due_rebased : (until : ℕ) (marks : List Bool) (bases : List (Option SnapshotContent)) (ds : List Desk) → AreDueBefore until marks ds → AreDueBefore 1 marks (rebased_desks bases ds)
due_rebased until marks bases ds before = record {
  many = many;
  due = λ k under. record {
    many = many;
    only = λ n is. marks_rebased bases ds n (among until marks ds before n is);
    all = λ n is. absurd (none_at_first k n (rebased_desks bases ds) under is);
  };
  none = λ no. absurd (omega (arith, no));
}
  where
    many : length marks ≡ length (rebased_desks bases ds)
    many = before.many ∙ sym (length_rebased bases ds)
