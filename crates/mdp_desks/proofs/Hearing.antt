-- An entry is for one desk at most, and a message is heard, shown and settled as one step.
use Rattle.std.proofs.Common.{◌≡◌, ◌≢◌, ℕ, ℤ, zero, suc, ◌+◌, ◌<◌, Bool, true, false, cond, List, [], ◌∷◌, ◌++◌, length, take, drop, min, map, get_or, set, Option, Some, None, refl, sym, ap, subst, ◌∙◌, arith, inl, inr}
use Rattle.std.specs.Prelude.{◌||◌, nat_lt, slice_get, All}
use Rattle.std.specs.List.{list_any, AllPairs}
use Rattle.std.proofs.Math.Seq.{map-set_same}
use Rattle.std.proofs.lemmas.Bool.{cases_Bool}
use Rattle.std.proofs.lemmas.Bool.Decides.{Decides-int_eq}
use Rattle.std.proofs.lemmas.List.{get_or-map, length-map}
use Rattle.mdp_templates.specs.Snapshot.{SnapshotContent}
use Rattle.mdp_templates.specs.declared.entry.Entry.{Entry}
use Rattle.mdp_templates.specs.Instrument.{HasDepth, ids_of}
use Rattle.mdp_templates.specs.declared.instrument.Instrument.{Instrument}
use Rattle.mdp_books.specs.declared.book.Place.{Place}
use Rattle.mdp_books.specs.Book.{after_entry}
use Rattle.mdp_books.specs.Feed.{Sent, names, place_at, after_entries_from}
use Rattle.mdp_desks.specs.declared.desk.Desk.{Desk}
use Rattle.mdp_desks.specs.Lines.{Seen}
use Rattle.mdp_desks.specs.Moments.{at_event_end}
use Rattle.mdp_desks.specs.Desks.{desk_at_start, desk_entered, desk_heard, desks_through, desk_settled, desk_standing, desk_seen, desks_after, desks_moment, rebased_desks}
use Rattle.mdp_desks.specs.Beside.{listed_in, marks_of, AreBeside}

-- ---- one entry

pub entered_instrument : (place : Place) (entry : Entry) (d : Desk) → (desk_entered place entry d).instrument ≡ d.instrument
entered_instrument place entry d = elim (cases_Bool (nat_lt d.base place.packet)) [ inl over ↦ rw over refl | inr under ↦ rw under refl ]

names_other : (entry : Entry) (id : ℤ) → entry.security ≢ id → names id entry ≡ false
names_other entry id other = elim (cases_Bool (names id entry)) [ inl same ↦ absurd (other ((Decides-int_eq entry.security id).0 same)) | inr is ↦ is ]

-- a desk of another security hears nothing
not_heard : (place : Place) (entry : Entry) (d : Desk) → entry.security ≢ d.instrument.id → desk_heard place entry d ≡ d
not_heard place entry d other = ap (λ (b : Bool). cond b (desk_entered place entry d) d) (names_other entry d.instrument.id other)

is_heard : (place : Place) (entry : Entry) (d : Desk) → entry.security ≡ d.instrument.id → desk_heard place entry d ≡ desk_entered place entry d
is_heard place entry d same = ap (λ (b : Bool). cond b (desk_entered place entry d) d) ((Decides-int_eq entry.security d.instrument.id).1 same)

abbrev pub ids_in : List Desk → List ℤ
ids_in ds = ids_of (listed_in ds)

-- a place that holds an id stands below their number
pub slot_under : (ids : List ℤ) (n : ℕ) (id : ℤ) → slice_get ids n ≡ Some id → n < length ids
slot_under [] n id is = absurd cc
slot_under (x ∷ ids) zero id is = omega arith
slot_under (x ∷ ids) (suc n) id is = let less = slot_under ids n id is in omega (arith, less)

-- a desk's id stands at its place
pub id_at : (ds : List Desk) (n : ℕ) (here : Desk) → n < length ds → here ≡ get_or ds n here → slice_get (ids_in ds) n ≡ Some here.instrument.id
id_at [] n here less at = absurd (omega (arith, less))
id_at (d ∷ ds) zero here less at = ap (λ (t : Desk). Some t.instrument.id) (sym at)
id_at (d ∷ ds) (suc n) here less at = id_at ds n here (omega (arith, less)) at

pub none_heard : (place : Place) (entry : Entry) (ds : List Desk) → ((slot : ℕ) → slice_get (ids_in ds) slot ≡ Some entry.security → ⊥) → map (desk_heard place entry) ds ≡ ds
none_heard place entry [] none = refl
none_heard place entry (d ∷ ds) none =
    let first : desk_heard place entry d ≡ d = not_heard place entry d (λ same. none 0 (ap (λ (id : ℤ). Some id) (sym same))) in
    let others : map (desk_heard place entry) ds ≡ ds = none_heard place entry ds (λ slot. none (suc slot)) in
    cc (first, others)

pub differ_tail : (x : ℤ) (xs : List ℤ) → AllPairs (λ a b. a ≢ b) (x ∷ xs) → AllPairs (λ a b. a ≢ b) xs
differ_tail x xs differ = λ i j d less below. differ (suc i) (suc j) d (omega arith) (omega arith)

pub other_than : (x : ℤ) (xs : List ℤ) → AllPairs (λ a b. a ≢ b) (x ∷ xs) → (slot : ℕ) → slice_get xs slot ≡ Some x → ⊥
other_than x xs differ slot here = first slot xs here (λ k below. differ 0 (suc k) x (omega arith) (omega arith))
  where
    first : (slot : ℕ) (ys : List ℤ) → slice_get ys slot ≡ Some x → ((k : ℕ) → k < length ys → x ≢ get_or ys k x) → ⊥
    first slot [] here apart = cc
    first zero (y ∷ ys) here apart = let same : y ≡ x = cc in apart 0 (omega arith) (sym same)
    first (suc slot) (y ∷ ys) here apart = first slot ys here (λ k below. apart (suc k) (omega arith))

-- the one desk of the security hears
pub one_heard : (place : Place) (entry : Entry) (ds : List Desk) (slot : ℕ) (here : Desk) → AllPairs (λ a b. a ≢ b) (ids_in ds) → slice_get (ids_in ds) slot ≡ Some entry.security → here ≡ get_or ds slot here → set ds slot (desk_entered place entry here) ≡ map (desk_heard place entry) ds
one_heard place entry [] slot here differ is at = absurd cc
one_heard place entry (d ∷ ds) zero here differ is at =
    let same : d.instrument.id ≡ entry.security = cc in
    let first : desk_entered place entry here ≡ desk_heard place entry d = ap (desk_entered place entry) at ∙ sym (is_heard place entry d (sym same)) in
    let others : map (desk_heard place entry) ds ≡ ds = none_heard place entry ds (λ slot there. other_than d.instrument.id (ids_in ds) differ slot (there ∙ ap (λ (id : ℤ). Some id) (sym same))) in
    cc (first, others)
one_heard place entry (d ∷ ds) (suc slot) here differ is at =
    let first : desk_heard place entry d ≡ d = not_heard place entry d (λ same. other_than d.instrument.id (ids_in ds) differ slot (is ∙ ap (λ (id : ℤ). Some id) same)) in
    let others = one_heard place entry ds slot here (differ_tail d.instrument.id (ids_in ds) differ) is at in
    cc (first, others)

-- ---- the listed securities stay

pub listed_entered : (place : Place) (entry : Entry) (ds : List Desk) (slot : ℕ) (here : Desk) → here ≡ get_or ds slot here → listed_in (set ds slot (desk_entered place entry here)) ≡ listed_in ds
listed_entered place entry ds slot here at =
    map-set_same (λ (d : Desk). d.instrument) ds slot (desk_entered place entry here) here (entered_instrument place entry here ∙ ap (λ (d : Desk). d.instrument) at)

heard_instrument : (place : Place) (entry : Entry) (d : Desk) → (desk_heard place entry d).instrument ≡ d.instrument
heard_instrument place entry d = elim (cases_Bool (names d.instrument.id entry)) [ inl named ↦ rw named (entered_instrument place entry d) | inr other ↦ rw other refl ]

listed_heard : (place : Place) (entry : Entry) (ds : List Desk) → listed_in (map (desk_heard place entry) ds) ≡ listed_in ds
listed_heard place entry [] = refl
listed_heard place entry (d ∷ ds) = let first = heard_instrument place entry d in let others = listed_heard place entry ds in cc (first, others)

pub listed_through : (packet message n : ℕ) (entries : List Entry) (ds : List Desk) → listed_in (desks_through packet message n entries ds) ≡ listed_in ds
listed_through packet message n [] ds = refl
listed_through packet message n (entry ∷ entries) ds =
    listed_through packet message (n + 1) entries (map (desk_heard (place_at packet message n) entry) ds) ∙ listed_heard (place_at packet message n) entry ds

settled_instrument : (packet : ℕ) (d : Desk) → (desk_settled packet d).instrument ≡ d.instrument
settled_instrument packet d = elim (cases_Bool (nat_lt d.base packet)) [ inl over ↦ rw over refl | inr under ↦ rw under refl ]

pub listed_settled : (packet : ℕ) (ds : List Desk) → listed_in (map (desk_settled packet) ds) ≡ listed_in ds
listed_settled packet [] = refl
listed_settled packet (d ∷ ds) = let first = settled_instrument packet d in let others = listed_settled packet ds in cc (first, others)

pub length_rebased : (bases : List (Option SnapshotContent)) (ds : List Desk) → length (rebased_desks bases ds) ≡ length ds
length_rebased bases [] = refl
length_rebased [] (d ∷ ds) = refl
length_rebased (base ∷ bases) (d ∷ ds) = ap (λ (n : ℕ). suc n) (length_rebased bases ds)

-- past the shorter of the two lists no desk is left that has a snapshot
pub rebased_past : (n : ℕ) (bases : List (Option SnapshotContent)) (ds : List Desk) → n ≡ min (length ds) (length bases) → take n ds ++ rebased_desks (drop n bases) (drop n ds) ≡ ds
rebased_past zero bases [] past = refl
rebased_past zero [] (d ∷ ds) past = refl
rebased_past zero (base ∷ bases) (d ∷ ds) past = absurd (omega (arith, past))
rebased_past (suc n) bases [] past = absurd (omega (arith, past))
rebased_past (suc n) [] (d ∷ ds) past = absurd (omega (arith, past))
rebased_past (suc n) (base ∷ bases) (d ∷ ds) past = ap (λ (t : List Desk). d ∷ t) (rebased_past n bases ds (omega (arith, past)))

-- ---- the start

pub start_listed : (listed : List Instrument) → listed_in (map desk_at_start listed) ≡ listed
start_listed [] = refl
start_listed (i ∷ is) = ap (λ (t : List Instrument). i ∷ t) (start_listed is)

pub ids_differ : (listed : List Instrument) → AllPairs (λ (a b : Instrument). a.id ≢ b.id) listed → AllPairs (λ a b. a ≢ b) (map (λ (i : Instrument). i.id) listed)
ids_differ [] differ = λ i j d less below. absurd (omega (arith, below))
ids_differ (x ∷ xs) differ = λ i j d less below.
    let listed : List Instrument = x ∷ xs in
    let inside : j < length listed = omega (arith, simp length-map at below) in
    let left : get_or (map (λ (k : Instrument). k.id) listed) i d ≡ (get_or listed i x).id = get_or-map (λ (k : Instrument). k.id) listed i x d (omega (arith, less, inside)) in
    let right : get_or (map (λ (k : Instrument). k.id) listed) j d ≡ (get_or listed j x).id = get_or-map (λ (k : Instrument). k.id) listed j x d inside in
    λ same. differ i j x less inside (sym left ∙ same ∙ right)

-- what stands beside the desks before any packet
pub beside_start : (listed : List Instrument) (ds : List Desk) (ids : List ℤ) (marks : List Bool) → AllPairs (λ (a b : Instrument). a.id ≢ b.id) listed → All HasDepth listed → ds ≡ map desk_at_start listed → ids ≡ ids_of listed → marks ≡ marks_of ds → AreBeside ds ids marks
beside_start listed ds ids marks differ depths desks same are =
    record {
      same = same ∙ ap ids_of (sym (start_listed listed)) ∙ ap (λ (d : List Desk). ids_of (listed_in d)) (sym desks);
      differ = subst (λ (xs : List ℤ). AllPairs (λ a b. a ≢ b) xs) (sym same) (ids_differ listed differ);
      marks_are = are;
      depths = subst (λ (is : List Instrument). All HasDepth is) (sym (ap listed_in desks ∙ start_listed listed)) depths;
    }

-- ---- a message

-- a desk with a message's entries, the first of which has this number, where it hears them
abbrev pub told : ℕ → ℕ → ℕ → List Entry → Desk → Bool → Desk
told packet message n entries d marked = record { instrument = d.instrument; base = d.base; book = after_entries_from d.instrument (place_at packet message n) entries d.book; marked = marked }

abbrev pub through : ℕ → ℕ → ℕ → List Entry → Desk → Desk
through packet message n entries d = cond (nat_lt d.base packet) (told packet message n entries d (d.marked || list_any (names d.instrument.id) entries)) d

or_assoc : (a b c : Bool) → ((a || b) || c) ≡ (a || (b || c))
or_assoc true b c = refl
or_assoc false b c = refl

or_true : (a : Bool) → (a || true) ≡ true
or_true true = refl
or_true false = refl

or_false : (a : Bool) → (a || false) ≡ a
or_false true = refl
or_false false = refl

-- one entry, and then the others
heard_and : (packet message n : ℕ) (entry : Entry) (entries : List Entry) (d : Desk) (named over : Bool) → names d.instrument.id entry ≡ named → nat_lt d.base packet ≡ over
    → through packet message (n + 1) entries (cond named (cond over (record { instrument = d.instrument; base = d.base; book = after_entry (place_at packet message n) entry d.book; marked = true }) d) d)
    ≡ cond over (record { instrument = d.instrument; base = d.base; book = after_entries_from d.instrument (place_at packet message (n + 1)) entries (cond named (after_entry (place_at packet message n) entry d.book) d.book); marked = d.marked || (named || list_any (names d.instrument.id) entries) }) d
heard_and packet message n entry entries d true true is over =
    rw over (ap (λ (b : Bool). record { instrument = d.instrument; base = d.base; book = after_entries_from d.instrument (place_at packet message (n + 1)) entries (after_entry (place_at packet message n) entry d.book); marked = b }) (sym (or_true d.marked)))
heard_and packet message n entry entries d true false is over = rw over refl
heard_and packet message n entry entries d false true is over = rw over refl
heard_and packet message n entry entries d false false is over = rw over refl

through_more : (packet message n : ℕ) (entry : Entry) (entries : List Entry) (d : Desk) → through packet message (n + 1) entries (desk_heard (place_at packet message n) entry d) ≡ through packet message n (entry ∷ entries) d
through_more packet message n entry entries d = heard_and packet message n entry entries d (names d.instrument.id entry) (nat_lt d.base packet) refl refl

through_none : (packet message n : ℕ) (d : Desk) (over : Bool) → cond over (told packet message n [] d (d.marked || false)) d ≡ d
through_none packet message n d true = ap (λ (b : Bool). told packet message n [] d b) (or_false d.marked)
through_none packet message n d false = refl

pub all_through : (packet message n : ℕ) (entries : List Entry) (ds : List Desk) → desks_through packet message n entries ds ≡ map (through packet message n entries) ds
all_through packet message n [] ds = sym (none ds)
  where
    none : (xs : List Desk) → map (through packet message n []) xs ≡ xs
    none [] = refl
    none (x ∷ xs) = let first = through_none packet message n x (nat_lt x.base packet) in let others = none xs in cc (first, others)
all_through packet message n (entry ∷ entries) ds = all_through packet message (n + 1) entries (map (desk_heard (place_at packet message n) entry) ds) ∙ both ds
  where
    both : (xs : List Desk) → map (through packet message (n + 1) entries) (map (desk_heard (place_at packet message n) entry) xs) ≡ map (through packet message n (entry ∷ entries)) xs
    both [] = refl
    both (x ∷ xs) = let first = through_more packet message n entry entries x in let others = both xs in cc (first, others)

abbrev pub sent_with : ℕ → ℕ → List Entry → Bool → Sent
sent_with packet message entries end = record { packet = packet; message = message; entries = entries; end = end }

-- ---- where the message ends an event

settled_case : (packet message : ℕ) (entries : List Entry) (d : Desk) (over : Bool) → nat_lt d.base packet ≡ over → desk_settled packet (cond over (told packet message 1 entries d (d.marked || list_any (names d.instrument.id) entries)) d) ≡ cond over (told packet message 1 entries d false) d
settled_case packet message entries d true over = rw over refl
settled_case packet message entries d false over = rw over refl

all_settled : (packet message : ℕ) (entries : List Entry) (ds : List Desk) → map (desk_settled packet) (map (through packet message 1 entries) ds) ≡ desks_after (sent_with packet message entries true) ds
all_settled packet message entries [] = refl
all_settled packet message entries (d ∷ ds) =
    let first = settled_case packet message entries d (nat_lt d.base packet) refl in
    let others = all_settled packet message entries ds in
    cc (first, others)

standing_case : (packet message : ℕ) (entries : List Entry) (d : Desk) (over : Bool) → nat_lt d.base packet ≡ over
    → desk_standing packet (cond over (told packet message 1 entries d (d.marked || list_any (names d.instrument.id) entries)) d)
    ≡ cond over (Some (record { instrument = d.instrument; printed = d.marked || list_any (names d.instrument.id) entries; book = after_entries_from d.instrument (place_at packet message 1) entries d.book })) None
standing_case packet message entries d true over = rw over refl
standing_case packet message entries d false over = rw over refl

pub all_standing : (packet message : ℕ) (entries : List Entry) (ds : List Desk) → map (desk_standing packet) (map (through packet message 1 entries) ds) ≡ map (desk_seen (sent_with packet message entries true)) ds
all_standing packet message entries [] = refl
all_standing packet message entries (d ∷ ds) =
    let first = standing_case packet message entries d (nat_lt d.base packet) refl in
    let others = all_standing packet message entries ds in
    cc (first, others)

pub ended_desks : (packet message : ℕ) (entries : List Entry) (ds : List Desk) (end : Bool) → end ≡ true → map (desk_settled packet) (desks_through packet message 1 entries ds) ≡ desks_after (sent_with packet message entries end) ds
ended_desks packet message entries ds end is =
    ap (map (desk_settled packet)) (all_through packet message 1 entries ds) ∙ all_settled packet message entries ds ∙ ap (λ (b : Bool). desks_after (sent_with packet message entries b) ds) (sym is)

pub ended_moment : (packet message : ℕ) (entries : List Entry) (ds : List Desk) (end : Bool) → end ≡ true
    → at_event_end (record { packet = packet; message = message }) (map (desk_standing packet) (desks_through packet message 1 entries ds)) ∷ [] ≡ desks_moment (sent_with packet message entries end) ds
ended_moment packet message entries ds end is =
    ap (λ (xs : List Desk). at_event_end (record { packet = packet; message = message }) (map (desk_standing packet) xs) ∷ []) (all_through packet message 1 entries ds)
    ∙ ap (λ (seen : List (Option Seen)). at_event_end (record { packet = packet; message = message }) seen ∷ []) (all_standing packet message entries ds)
    ∙ ap (λ (b : Bool). desks_moment (sent_with packet message entries b) ds) (sym is)

-- ---- where it ends none

all_open : (packet message : ℕ) (entries : List Entry) (ds : List Desk) → map (through packet message 1 entries) ds ≡ desks_after (sent_with packet message entries false) ds
all_open packet message entries [] = refl
all_open packet message entries (d ∷ ds) = ap (λ (t : List Desk). through packet message 1 entries d ∷ t) (all_open packet message entries ds)

pub open_desks : (packet message : ℕ) (entries : List Entry) (ds : List Desk) (end : Bool) → end ≡ false → desks_through packet message 1 entries ds ≡ desks_after (sent_with packet message entries end) ds
open_desks packet message entries ds end is = all_through packet message 1 entries ds ∙ all_open packet message entries ds ∙ ap (λ (b : Bool). desks_after (sent_with packet message entries b) ds) (sym is)

pub open_moment : (packet message : ℕ) (entries : List Entry) (ds : List Desk) (end : Bool) → end ≡ false → desks_moment (sent_with packet message entries end) ds ≡ []
open_moment packet message entries ds end is = ap (λ (b : Bool). desks_moment (sent_with packet message entries b) ds) is
