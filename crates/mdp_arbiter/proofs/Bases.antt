-- What the latest jump took stays where a newer snapshot comes, and a jump takes what is newest.
use Rattle.std.proofs.Common.{◌≡◌, ◌<◌, ◌≤◌, ◌+◌, ℕ, ℤ, zero, suc, List, [], ◌∷◌, length, get_or, drop, map, refl, sym, ap, ◌∙◌, arith}
use Rattle.std.proofs.Math.ListN.{set}
use Rattle.std.specs.Prelude.{Option, Some, None, fold, min, slice_get}
use Rattle.std.proofs.lemmas.List.{length-map, drop_more, drop_all}
use Rattle.mdp_templates.specs.Snapshot.{SnapshotContent}
use Rattle.mdp_templates.specs.declared.instrument.Instrument.{Instrument}
use Rattle.mdp_templates.specs.Instrument.{ids_of}
use Rattle.mdp_arbiter.specs.declared.base.Base.{Base}
use Rattle.mdp_arbiter.specs.declared.base.Base.TheVariants.{Newest, Older}
use Rattle.mdp_arbiter.specs.Bases.{base_of, bases_of, kept_base}
use Rattle.mdp_arbiter.specs.Machine.{lesser, snapshots_of}

-- a jump takes what is newest
pub bases_taken : (newest : List (Option SnapshotContent)) (bases : List Base) → length bases ≡ length newest → bases_of newest (map (λ (b : Base). Newest) bases) ≡ newest
bases_taken [] bases long = refl
bases_taken (n ∷ newest) [] long = absurd (omega (arith, long))
bases_taken (n ∷ newest) (b ∷ bases) long = ap (λ t. n ∷ t) (bases_taken newest bases (omega (arith, long)))

base_kept : (before newer : Option SnapshotContent) (base : Base) → base_of newer (kept_base before base) ≡ base_of before base
base_kept before newer Newest = refl
base_kept before newer (Older o) = refl

same_base : (n m : Option SnapshotContent) (a b : Base) → n ≡ m → a ≡ b → base_of n a ≡ base_of m b
same_base n m a b p q = rw (p, q) refl

-- a newer snapshot leaves what the latest jump took
pub bases_kept : (newest : List (Option SnapshotContent)) (bases : List Base) (slot : ℕ) (newer before : Option SnapshotContent) (here : Base)
    → before ≡ get_or newest slot before → here ≡ get_or bases slot here → bases_of (set newest slot newer) (set bases slot (kept_base before here)) ≡ bases_of newest bases
bases_kept [] bases slot newer before here was is = refl
bases_kept (n ∷ newest) [] zero newer before here was is = refl
bases_kept (n ∷ newest) [] (suc slot) newer before here was is = refl
bases_kept (n ∷ newest) (b ∷ bases) zero newer before here was is = ap (λ t. t ∷ bases_of newest bases) (base_kept before newer here ∙ same_base before n here b was is)
bases_kept (n ∷ newest) (b ∷ bases) (suc slot) newer before here was is = ap (λ t. base_of n b ∷ t) (bases_kept newest bases slot newer before here was is)

-- the snapshot at one place
pub base_at : (newest : List (Option SnapshotContent)) (bases : List Base) (slot : ℕ) (n : Option SnapshotContent) (b : Base)
    → slot < length newest → slot < length bases → n ≡ get_or newest slot n → b ≡ get_or bases slot b → slice_get (bases_of newest bases) slot ≡ Some (base_of n b)
base_at [] bases slot n b less short at is = absurd (omega (arith, less))
base_at (m ∷ newest) [] slot n b less short at is = absurd (omega (arith, short))
base_at (m ∷ newest) (a ∷ bases) zero n b less short at is = ap (λ t. Some t) (same_base m n a b (rw at refl) (rw is refl))
base_at (m ∷ newest) (a ∷ bases) (suc slot) n b less short at is = base_at newest bases slot n b (omega (arith, less)) (omega (arith, short)) at is

none_taken : (instruments : List Instrument)
    → bases_of (map (λ (i : Instrument). None) instruments) (map (λ (i : Instrument). Older None) instruments) ≡ map (λ (id : ℤ). None) (ids_of instruments)
none_taken [] = refl
none_taken (i ∷ instruments) = ap (λ t. None ∷ t) (none_taken instruments)

-- before any jump none was taken
pub none_at_first : (instruments : List Instrument) (ids : List ℤ) (newest : List (Option SnapshotContent)) (bases : List Base) → ids ≡ ids_of instruments
    → newest ≡ map (λ (i : Instrument). None) instruments → bases ≡ map (λ (i : Instrument). Older None) instruments → bases_of newest bases ≡ map (λ (id : ℤ). None) ids
none_at_first instruments ids newest bases listed is none = rw (is, none, listed) (none_taken instruments)

pub as_many : (instruments : List Instrument) (ids : List ℤ) (bases : List Base) → ids ≡ ids_of instruments → bases ≡ map (λ (i : Instrument). Older None) instruments → length bases ≡ length ids
as_many instruments ids bases listed none =
    rw (none, listed) (length-map instruments (λ (i : Instrument). let older : Base = Older None in older) ∙ sym (length-map instruments (λ (i : Instrument). i.id)))

-- ---- the least of the snapshots that the latest jump took

least_of_one : (so_far : Option ℕ) (first : Option SnapshotContent) (rest : List (Option SnapshotContent))
    → fold lesser so_far (snapshots_of (first ∷ rest)) ≡ fold lesser (fold lesser so_far (snapshots_of (first ∷ []))) (snapshots_of rest)
least_of_one so_far None rest = refl
least_of_one so_far (Some s) rest = refl

-- one more of them
pub least_more : (newest : List (Option SnapshotContent)) (bases : List Base) (slot : ℕ) (n : Option SnapshotContent) (b : Base) (so_far now : Option ℕ)
    → slot < length newest → slot < length bases → n ≡ get_or newest slot n → b ≡ get_or bases slot b → now ≡ fold lesser so_far (snapshots_of (base_of n b ∷ []))
    → fold lesser now (snapshots_of (bases_of (drop (slot + 1) newest) (drop (slot + 1) bases))) ≡ fold lesser so_far (snapshots_of (bases_of (drop slot newest) (drop slot bases)))
least_more newest bases slot n b so_far now less short at is least =
    let left : drop slot newest ≡ n ∷ drop (slot + 1) newest = drop_more newest slot n less ∙ ap (λ (x : Option SnapshotContent). x ∷ drop (slot + 1) newest) (sym at) in
    let under : drop slot bases ≡ b ∷ drop (slot + 1) bases = drop_more bases slot b short ∙ ap (λ (x : Base). x ∷ drop (slot + 1) bases) (sym is) in
    rw (left, under, least) (sym (least_of_one so_far (base_of n b) (bases_of (drop (slot + 1) newest) (drop (slot + 1) bases))))

none_under : (newest : List (Option SnapshotContent)) → bases_of newest [] ≡ []
none_under [] = refl
none_under (n ∷ newest) = refl

none_left : (newest : List (Option SnapshotContent)) (bases : List Base) (slot : ℕ) → min (length newest) (length bases) ≤ slot → bases_of (drop slot newest) (drop slot bases) ≡ []
none_left [] [] slot past = rw (drop_all slot (let none : List (Option SnapshotContent) = [] in none) (omega arith)) refl
none_left [] (b ∷ bases) slot past = rw (drop_all slot (let none : List (Option SnapshotContent) = [] in none) (omega arith)) refl
none_left (n ∷ newest) [] slot past = rw (drop_all slot (let none : List Base = [] in none) (omega arith)) (none_under (drop slot (n ∷ newest)))
none_left (n ∷ newest) (b ∷ bases) zero past = absurd (omega (arith, past))
none_left (n ∷ newest) (b ∷ bases) (suc slot) past = none_left newest bases slot (omega (arith, past))

-- behind the last of them none is left
pub least_all : (newest : List (Option SnapshotContent)) (bases : List Base) (slot : ℕ) (least : Option ℕ) → min (length newest) (length bases) ≤ slot
    → least ≡ fold lesser least (snapshots_of (bases_of (drop slot newest) (drop slot bases)))
least_all newest bases slot least past = rw (none_left newest bases slot past) refl
