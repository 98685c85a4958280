-- What becomes of a snapshot, by its place among the listed securities.
use Rattle.std.proofs.Common.{◌≡◌, ℕ, ℤ, zero, suc, Bool, true, false, List, [], ◌∷◌, refl, ap, arith}
use Rattle.std.specs.Prelude.{Option, Some, slice_get, if◌then◌else◌}
use Rattle.std.specs.List.{list_any}
use Rattle.std.specs.Ordering.{int_eq}
use Rattle.std.proofs.lemmas.Bool.Decides.{Decides-int_eq}
use Rattle.mdp_templates.specs.Snapshot.{SnapshotContent}
use Rattle.mdp_arbiter.specs.Accepted.{Event, newest_snapshot, newest_snapshots}
use Rattle.mdp_arbiter.specs.Arbiter.{View}
use Rattle.mdp_arbiter.specs.Standing.{StandsAt}
use Rattle.mdp_arbiter.specs.Fates.{fate_among, fate_beside, fate_of_snapshot, snapshot_fate}
use Rattle.mdp_arbiter.specs.declared.fate.SnapshotFate.{SnapshotFate}
use Rattle.mdp_arbiter.specs.declared.fate.SnapshotFate.TheVariants as snapshots

-- a place of another security is passed over
fate_past : (id : ℤ) (ids : List ℤ) (n : Option SnapshotContent) (ns : List (Option SnapshotContent)) (s : SnapshotContent) (b : Bool) → int_eq id s.security ≡ b → (id ≡ s.security → ⊥) → fate_among (id ∷ ids) (n ∷ ns) s ≡ fate_among ids ns s
fate_past id ids n ns s true e other = absurd (other ((Decides-int_eq id s.security).0 e))
fate_past id ids n ns s false e other = rw e refl

-- of a listed security its newest snapshot decides
pub fate_at : (ids : List ℤ) (ns : List (Option SnapshotContent)) (s : SnapshotContent) (slot : ℕ) (held : Option SnapshotContent) → slice_get ids slot ≡ Some s.security → ((other : ℕ) → slice_get ids other ≡ Some s.security → other ≡ slot) → slice_get ns slot ≡ Some held → fate_among ids ns s ≡ fate_beside held s
fate_at [] ns s slot held at only there = cc
fate_at (id ∷ ids) [] s slot held at only there = cc
fate_at (id ∷ ids) (n ∷ ns) s zero held at only there =
    let same : id ≡ s.security = cc in
    let so : n ≡ held = cc in
    rw ((Decides-int_eq id s.security).1 same, so) refl
fate_at (id ∷ ids) (n ∷ ns) s (suc slot) held at only there =
    let other : id ≡ s.security → ⊥ = λ same. let e : zero ≡ suc slot = only zero (ap (λ (x : ℤ). Some x) same) in omega arith in
    rw (fate_past id ids n ns s (int_eq id s.security) refl other)
    (fate_at ids ns s slot held at (λ k here. let e : suc k ≡ suc slot = only (suc k) here in omega (arith, e)) there)

pub fate_unlisted : (ids : List ℤ) (ns : List (Option SnapshotContent)) (s : SnapshotContent) → ((slot : ℕ) → slice_get ids slot ≡ Some s.security → ⊥) → fate_among ids ns s ≡ snapshots.Unlisted
fate_unlisted [] ns s none = refl
fate_unlisted (id ∷ ids) [] s none = refl
fate_unlisted (id ∷ ids) (n ∷ ns) s none =
    rw (fate_past id ids n ns s (int_eq id s.security) refl (λ same. none zero (ap (λ (x : ℤ). Some x) same))) (fate_unlisted ids ns s (λ slot. none (suc slot)))

-- ---- by the events

abbrev opened : List ℤ → List Event → SnapshotContent → SnapshotFate
opened ids es s = if list_any (λ (id : ℤ). int_eq id s.security) ids then fate_beside (newest_snapshot s.security es) s else snapshots.Unlisted

opened_at : (id : ℤ) (ids : List ℤ) (es : List Event) (s : SnapshotContent) (b : Bool) → int_eq id s.security ≡ b → fate_among ids (newest_snapshots ids es) s ≡ opened ids es s → fate_among (id ∷ ids) (newest_snapshots (id ∷ ids) es) s ≡ opened (id ∷ ids) es s
opened_at id ids es s true e rest = let same : id ≡ s.security = (Decides-int_eq id s.security).0 e in rw (e, same) refl
opened_at id ids es s false e rest = rw e rest

fate_opened : (ids : List ℤ) (es : List Event) (s : SnapshotContent) → fate_among ids (newest_snapshots ids es) s ≡ opened ids es s
fate_opened [] es s = refl
fate_opened (id ∷ ids) es s = opened_at id ids es s (int_eq id s.security) refl (fate_opened ids es s)

pub fate_stands : (es : List Event) (v : View) (s : SnapshotContent) → StandsAt es v → fate_of_snapshot v s ≡ snapshot_fate v.channel.ids es s
fate_stands es v s stands = rw (stands.is_closed, stands.newest, fate_opened v.channel.ids es s) refl
