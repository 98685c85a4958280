-- A desk that isn't due has no lines at an event end, and is as it was behind it.
use Rattle.std.proofs.Common.{◌≡◌, ◌<◌, ◌≤◌, ℕ, zero, suc, ◌+◌, Bool, true, false, List, [], ◌∷◌, ◌++◌, length, map, take, drop, get_or, set, replicate, Option, Some, None, refl, sym, ap, subst, ◌∙◌, arith, append-nil, append_assoc}
use Rattle.std.specs.List.{flat_map}
use Rattle.std.specs.Prelude.{nat_lt, All}
use Rattle.std.proofs.Math.Seq.{map-set_same}
use Rattle.std.proofs.lemmas.List.{map-set, get_or-map, length-map, at_drop_more, drop_all, take_all}
use Rattle.mdp_templates.specs.Snapshot.{SnapshotContent}
use Rattle.mdp_templates.specs.declared.instrument.Instrument.{Instrument}
use Rattle.mdp_books.specs.declared.event_end.EventEnd.{EventEnd}
use Rattle.mdp_desks.specs.declared.desk.Desk.{Desk}
use Rattle.mdp_desks.specs.Lines.{text_of}
use Rattle.mdp_desks.specs.Desks.{desk_at_start, desk_settled, desk_standing, desk_jumped, rebased_desks}
use Rattle.mdp_desks.specs.Beside.{AreClear, all_due_at, is_due_at, listed_in, marks_of}
use Rattle.mdp_templates.specs.Instrument.{HasDepth}
use Rattle.mdp_desks.proofs.Waiting.{unmarked}

-- ---- one desk

pub no_lines : (end : EventEnd) (d : Desk) → is_due_at end.packet d ≡ false → text_of end (desk_standing end.packet d) ≡ []
no_lines end d is = by_base (nat_lt d.base end.packet) refl
  where
    by_base : (b : Bool) → nat_lt d.base end.packet ≡ b → text_of end (desk_standing end.packet d) ≡ []
    by_base true over = let off = unmarked d.marked (nat_lt d.base end.packet) is over in rw (over, off) refl
    by_base false under = rw under refl

pub still : (k : ℕ) (d : Desk) → is_due_at k d ≡ false → desk_settled k d ≡ d
still k d is = by_base (nat_lt d.base k) refl
  where
    by_base : (b : Bool) → nat_lt d.base k ≡ b → desk_settled k d ≡ d
    by_base true over = rw over (ap (λ (b : Bool). record { instrument = d.instrument; base = d.base; book = d.book; marked = b }) (sym (unmarked d.marked (nat_lt d.base k) is over)))
    by_base false under = rw under refl

-- ---- the desks from one place on

abbrev pub lines_in : EventEnd → List Desk → List ℕ
lines_in end ds = flat_map (text_of end) (map (desk_standing end.packet) ds)

pub lines_from : (end : EventEnd) (ds : List Desk) (n : ℕ) → ((i : ℕ) → i < n → get_or (all_due_at end.packet ds) i false ≡ false) → lines_in end (drop n ds) ≡ lines_in end ds
lines_from end ds zero none = refl
lines_from end [] (suc n) none = refl
lines_from end (d ∷ ds) (suc n) none =
    lines_from end ds n (λ i less. none (suc i) (omega (arith, less)))
    ∙ ap (λ (t : List ℕ). t ++ lines_in end ds) (sym (no_lines end d (none 0 (omega arith))))

pub lines_between : (end : EventEnd) (ds : List Desk) (a b : ℕ) → a ≤ b → AreClear a b (all_due_at end.packet ds) → lines_in end (drop b ds) ≡ lines_in end (drop a ds)
lines_between end ds zero b up clear = lines_from end ds b (λ i less. clear i (omega arith) less)
lines_between end ds (suc a) zero up clear = absurd (omega (arith, up))
lines_between end [] (suc a) (suc b) up clear = refl
lines_between end (d ∷ ds) (suc a) (suc b) up clear = lines_between end ds a b (omega (arith, up)) (λ i from less. clear (suc i) (omega (arith, from)) (omega (arith, less)))

pub lines_next : (end : EventEnd) (ds : List Desk) (n : ℕ) (d : Desk) → n < length ds → lines_in end (drop n ds) ≡ text_of end (desk_standing end.packet (get_or ds n d)) ++ lines_in end (drop (n + 1) ds)
lines_next end ds n d less = at_drop_more (lines_in end) ds n d less

-- the desks that are passed over have no lines, and then those of the next come
pub lines_more : (end : EventEnd) (ds : List Desk) (from n : ℕ) (d : Desk) (old new whole : List ℕ) → from ≤ n → n < length ds → AreClear from n (all_due_at end.packet ds) → d ≡ get_or ds n d → new ≡ old ++ text_of end (desk_standing end.packet d)
    → old ++ lines_in end (drop from ds) ≡ whole → new ++ lines_in end (drop (n + 1) ds) ≡ whole
lines_more end ds from n d old new whole up less clear at is before =
    let text = text_of end (desk_standing end.packet d) in
    let rest = lines_in end (drop (n + 1) ds) in
    let next : lines_in end (drop n ds) ≡ text ++ rest = lines_next end ds n d less ∙ ap (λ (x : Desk). text_of end (desk_standing end.packet x) ++ rest) (sym at) in
    ap (λ (t : List ℕ). t ++ rest) is
    ∙ append_assoc old text rest
    ∙ ap (λ (t : List ℕ). old ++ t) (sym next ∙ lines_between end ds from n up clear)
    ∙ before

-- none is left with lines
pub lines_end : (end : EventEnd) (ds : List Desk) (from : ℕ) (text whole : List ℕ) → from ≤ length ds → AreClear from (length ds) (all_due_at end.packet ds) → text ++ lines_in end (drop from ds) ≡ whole → text ≡ whole
lines_end end ds from text whole up clear before =
    let none : lines_in end (drop from ds) ≡ [] = sym (lines_between end ds from (length ds) up clear) ∙ ap (lines_in end) (drop_all (length ds) ds (omega arith)) in
    sym (append-nil text) ∙ ap (λ (t : List ℕ). text ++ t) (sym none) ∙ before

-- ---- desks that are settled one after another

-- the first desks as they are, and the others settled
abbrev pub settled_behind : ℕ → ℕ → List Desk → List Desk
settled_behind k n ds = take n ds ++ map (desk_settled k) (drop n ds)

settled_from : (k : ℕ) (ds : List Desk) (n : ℕ) → ((i : ℕ) → i < n → get_or (all_due_at k ds) i false ≡ false) → settled_behind k n ds ≡ map (desk_settled k) ds
settled_from k ds zero none = refl
settled_from k [] (suc n) none = refl
settled_from k (d ∷ ds) (suc n) none =
    let first = sym (still k d (none 0 (omega arith))) in
    let others = settled_from k ds n (λ i less. none (suc i) (omega (arith, less))) in
    cc (first, others)

pub settled_between : (k : ℕ) (ds : List Desk) (a b : ℕ) → a ≤ b → AreClear a b (all_due_at k ds) → settled_behind k b ds ≡ settled_behind k a ds
settled_between k ds zero b up clear = settled_from k ds b (λ i less. clear i (omega arith) less)
settled_between k ds (suc a) zero up clear = absurd (omega (arith, up))
settled_between k [] (suc a) (suc b) up clear = refl
settled_between k (d ∷ ds) (suc a) (suc b) up clear =
    ap (λ (t : List Desk). d ∷ t) (settled_between k ds a b (omega (arith, up)) (λ i from less. clear (suc i) (omega (arith, from)) (omega (arith, less))))

settled_next : (k : ℕ) (ds : List Desk) (n : ℕ) (here d : Desk) → n < length ds → here ≡ desk_settled k (get_or ds n d) → settled_behind k (suc n) (set ds n here) ≡ settled_behind k n ds
settled_next k [] n here d less is = absurd (omega (arith, less))
settled_next k (x ∷ ds) zero here d less is = ap (λ (t : Desk). t ∷ map (desk_settled k) ds) is
settled_next k (x ∷ ds) (suc n) here d less is = ap (λ (t : List Desk). x ∷ t) (settled_next k ds n here d (omega (arith, less)) is)

-- the desks that are passed over stay as they are, and the next is settled
pub settled_more : (k : ℕ) (ds whole : List Desk) (from n : ℕ) (here d : Desk) → from ≤ n → n < length ds → AreClear from n (all_due_at k ds) → here ≡ desk_settled k (get_or ds n d)
    → settled_behind k from ds ≡ whole → settled_behind k (n + 1) (set ds n here) ≡ whole
settled_more k ds whole from n here d up less clear is before =
    let one : suc n ≡ n + 1 = omega arith in
    subst (λ (m : ℕ). settled_behind k m (set ds n here) ≡ whole) one (settled_next k ds n here d less is ∙ settled_between k ds from n up clear ∙ before)

-- none is left to settle
pub settled_end : (k : ℕ) (ds whole : List Desk) (from : ℕ) → from ≤ length ds → AreClear from (length ds) (all_due_at k ds) → settled_behind k from ds ≡ whole → ds ≡ whole
settled_end k ds whole from up clear before =
    let all : settled_behind k (length ds) ds ≡ ds =
    ap (λ (t : List Desk). take (length ds) ds ++ map (desk_settled k) t) (drop_all (length ds) ds (omega arith)) ∙ append-nil (take (length ds) ds) ∙ take_all (length ds) ds (omega arith) in
    sym all ∙ settled_between k ds from (length ds) up clear ∙ before

-- ---- the start

pub marks_at_start : (listed : List Instrument) → replicate (length listed) false ≡ marks_of (map desk_at_start listed)
marks_at_start [] = refl
marks_at_start (i ∷ is) = ap (λ (t : List Bool). false ∷ t) (marks_at_start is)

-- ---- one mark beside its desk

pub marks_put : (ds : List Desk) (marks new : List Bool) (n : ℕ) (here : Desk) (mark : Bool) → marks ≡ marks_of ds → new ≡ set marks n mark → mark ≡ here.marked → new ≡ marks_of (set ds n here)
marks_put ds marks new n here mark are is same =
    is ∙ ap (λ (ms : List Bool). set ms n mark) are ∙ ap (set (marks_of ds) n) same ∙ sym (map-set (λ (d : Desk). d.marked) ds n here)

pub mark_at : (ds : List Desk) (marks : List Bool) (n : ℕ) (here : Desk) → marks ≡ marks_of ds → n < length ds → here ≡ get_or ds n here → get_or marks n false ≡ here.marked
mark_at ds marks n here are less at =
    ap (λ (ms : List Bool). get_or ms n false) are ∙ get_or-map (λ (d : Desk). d.marked) ds n here false less ∙ ap (λ (d : Desk). d.marked) (sym at)

-- ---- one desk more that takes its snapshot

rebased_next : (n : ℕ) (bases : List (Option SnapshotContent)) (ds : List Desk) (base : Option SnapshotContent) (here d : Desk) → n < length ds → n < length bases → base ≡ get_or bases n base → here ≡ desk_jumped base (get_or ds n d)
    → take (suc n) (set ds n here) ++ rebased_desks (drop (suc n) bases) (drop (suc n) (set ds n here)) ≡ take n ds ++ rebased_desks (drop n bases) (drop n ds)
rebased_next n bases [] base here d less short at is = absurd (omega (arith, less))
rebased_next n [] (x ∷ ds) base here d less short at is = absurd (omega (arith, short))
rebased_next zero (b ∷ bases) (x ∷ ds) base here d less short at is = ap (λ (t : Desk). t ∷ rebased_desks bases ds) (is ∙ ap (λ (o : Option SnapshotContent). desk_jumped o x) at)
rebased_next (suc n) (b ∷ bases) (x ∷ ds) base here d less short at is = ap (λ (t : List Desk). x ∷ t) (rebased_next n bases ds base here d (omega (arith, less)) (omega (arith, short)) at is)

pub rebased_more : (n : ℕ) (bases : List (Option SnapshotContent)) (ds : List Desk) (base : Option SnapshotContent) (here d : Desk) → n < length ds → n < length bases → base ≡ get_or bases n base → here ≡ desk_jumped base (get_or ds n d)
    → take (n + 1) (set ds n here) ++ rebased_desks (drop (n + 1) bases) (drop (n + 1) (set ds n here)) ≡ take n ds ++ rebased_desks (drop n bases) (drop n ds)
rebased_more n bases ds base here d less short at is =
    let one : suc n ≡ n + 1 = omega arith in
    subst (λ (m : ℕ). take m (set ds n here) ++ rebased_desks (drop m bases) (drop m (set ds n here)) ≡ take n ds ++ rebased_desks (drop n bases) (drop n ds)) one (rebased_next n bases ds base here d less short at is)

-- ---- the listed securities stay, and their depths with them

pub depths_kept : (ds old : List Desk) → listed_in ds ≡ listed_in old → All HasDepth (listed_in old) → All HasDepth (listed_in ds)
depths_kept ds old same depths = subst (λ (is : List Instrument). All HasDepth is) (sym same) depths

-- the depth of one of them
pub depth_at : (ds : List Desk) (n : ℕ) (d : Desk) → n < length ds → All HasDepth (listed_in ds) → HasDepth (get_or ds n d).instrument
depth_at ds n d less depths =
    let long : length (listed_in ds) ≡ length ds = length-map ds (λ (d : Desk). d.instrument) in
    subst HasDepth (get_or-map (λ (d : Desk). d.instrument) ds n d d.instrument less) (depths n d.instrument (omega (arith, less, long)))

jumped_instrument : (base : Option SnapshotContent) (d : Desk) → (desk_jumped base d).instrument ≡ d.instrument
jumped_instrument None d = refl
jumped_instrument (Some s) d = refl

pub listed_more : (n : ℕ) (ds : List Desk) (base : Option SnapshotContent) (here d : Desk) → here ≡ desk_jumped base (get_or ds n d) → listed_in (set ds n here) ≡ listed_in ds
listed_more n ds base here d is =
    map-set_same (λ (d : Desk). d.instrument) ds n here d (ap (λ (d : Desk). d.instrument) is ∙ jumped_instrument base (get_or ds n d))
