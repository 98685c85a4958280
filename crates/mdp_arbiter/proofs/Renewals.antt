-- Lists of snapshots that change place by place.
use Rattle.std.proofs.Common.{◌≡◌, ℕ, ℤ, zero, suc, ◌+◌, ◌<◌, List, [], ◌∷◌, ◌++◌, length, take, drop, get_or, cond, map, refl, ap, add-one, arith}
use Rattle.std.proofs.Math.ListN.{set}
use Rattle.std.specs.Prelude.{Bool, true, false, Option, Some, None, slice_get}
use Rattle.std.specs.Ordering.{int_eq}
use Rattle.std.proofs.lemmas.Bool.Decides.{Decides-int_eq}
use Rattle.mdp_templates.specs.Snapshot.{SnapshotContent}
use Rattle.mdp_arbiter.specs.Accepted.{is_newer, newer_of}
use Rattle.mdp_templates.specs.declared.instrument.Instrument.{Instrument}
use Rattle.mdp_templates.specs.Instrument.{ids_of}
use Rattle.std.proofs.lemmas.List.{length-map}
use Rattle.mdp_arbiter.specs.Snapshots.{newest_after, IsNoNews}
use Rattle.mdp_arbiter.proofs.Standings.{no_news, same_newest}

-- the place after a front that was written over is written over
set-front : {X : Type 0} (from to : List X) (i : ℕ) (x : X) → length from ≡ length to → i < length from → x ≡ get_or from i x
    → set (take i from ++ drop i to) i x ≡ take (suc i) from ++ drop (suc i) to
set-front [] to i x long within at = absurd (omega (arith, within))
set-front (y ∷ from) [] i x long within at = absurd (omega (arith, long))
set-front (y ∷ from) (z ∷ to) zero x long within at = ap (λ t. t ∷ to) at
set-front (y ∷ from) (z ∷ to) (suc i) x long within at = ap (λ t. y ∷ t) (set-front from to i x (omega (arith, long)) (omega (arith, within)) at)

pub front_grows : {X : Type 0} (from to now : List X) (i : ℕ) (x item : X) → length from ≡ length to → i < length from → item ≡ get_or from i item → x ≡ item
    → now ≡ take i from ++ drop i to → set now i x ≡ take (i + 1) from ++ drop (i + 1) to
front_grows from to now i x item long within at same is = rw (is, same, add-one) (set-front from to i item long within at)

newer_at : (id : ℤ) (n : Option SnapshotContent) (s : SnapshotContent) → id ≡ s.security → is_newer n s ≡ true → newer_of id n s ≡ Some s
newer_at id n s same newer = rw ((Decides-int_eq id s.security).1 same, newer) refl

-- a snapshot takes its security's place, which is the only one
pub newest_after-set : (ids : List ℤ) (s : SnapshotContent) (ns : List (Option SnapshotContent)) (slot : ℕ) (held : Option SnapshotContent)
    → slice_get ids slot ≡ Some s.security → ((other : ℕ) → slice_get ids other ≡ Some s.security → other ≡ slot)
    → slice_get ns slot ≡ Some held → is_newer held s ≡ true → newest_after ids s ns ≡ set ns slot (Some s)
newest_after-set [] s ns slot held at only there newer = cc
newest_after-set (id ∷ ids) s [] slot held at only there newer = cc
newest_after-set (id ∷ ids) s (n ∷ ns) zero held at only there newer =
    let same : id ≡ s.security = cc in
    let so : n ≡ held = cc in
    let rest : newest_after ids s ns ≡ ns = no_news ids s ns (λ slot held here there. absurd (let e : suc slot ≡ zero = only (suc slot) here in omega arith)) in
    rw (newer_at id n s same (rw so newer), rest) refl
newest_after-set (id ∷ ids) s (n ∷ ns) (suc slot) held at only there newer =
    let other : id ≡ s.security → is_newer n s ≡ false = λ same. absurd (let e : zero ≡ suc slot = only zero (ap (λ (x : ℤ). Some x) same) in omega arith) in
    let rest : newest_after ids s ns ≡ set ns slot (Some s) = newest_after-set ids s ns slot held at (λ k here. let e : suc k ≡ suc slot = only (suc k) here in omega (arith, e)) there newer in
    rw (same_newest id n s (int_eq id s.security) refl other, rest) refl

-- a snapshot that is no newer than its security's is no news
pub no_news_at : (ids : List ℤ) (ns : List (Option SnapshotContent)) (s : SnapshotContent) (slot : ℕ) (held : Option SnapshotContent)
    → ((other : ℕ) → slice_get ids other ≡ Some s.security → other ≡ slot) → slice_get ns slot ≡ Some held → is_newer held s ≡ false → IsNoNews ids ns s
no_news_at ids ns s slot held only there older other also at from =
    let here : slice_get ns slot ≡ Some also = rw (only other at) at from in
    let same : also ≡ held = cc in
    rw same older

-- none for each instrument is none for each listed id
map_none : (instruments : List Instrument) → map (λ (i : Instrument). let none : Option SnapshotContent = None in none) instruments ≡ map (λ (id : ℤ). None) (ids_of instruments)
map_none [] = refl
map_none (x ∷ xs) = ap (λ t. None ∷ t) (map_none xs)

pub none_listed : (instruments : List Instrument) (ids : List ℤ) (none : List (Option SnapshotContent)) → ids ≡ ids_of instruments → none ≡ map (λ (i : Instrument). None) instruments
    → none ≡ map (λ (id : ℤ). None) ids
none_listed instruments ids none listed is = rw (is, listed) (map_none instruments)

pub none_each : (instruments : List Instrument) (ids : List ℤ) (none : List (Option SnapshotContent)) → ids ≡ ids_of instruments → none ≡ map (λ (i : Instrument). None) instruments
    → length none ≡ length ids
none_each instruments ids none listed is = rw (none_listed instruments ids none listed is) (length-map ids (λ (id : ℤ). let none : Option SnapshotContent = None in none))

pub none_either : {X : Type 0} (b : Bool) → (let none : Option X = None in none) ≡ cond b None None
none_either true = refl
none_either false = refl
