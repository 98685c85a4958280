-- What an arbiter answers to a snapshot, and what that leaves.
use Rattle.std.specs.Prelude.{◌≡◌, ℕ, ℤ, ◌⊎◌, true, false, List, [], ◌∷◌, slice_get, Option, Some, None}
use Rattle.mdp_templates.specs.Snapshot.{SnapshotContent}
use Rattle.mdp_arbiter.specs.Accepted.{is_newer, newer_of}
use Rattle.mdp_arbiter.specs.Arbiter.{View}

-- the snapshot is of a listed security, whose newest gives way to it
abbrev pub IsNews : List ℤ → List (Option SnapshotContent) → SnapshotContent → Type 0
IsNews ids newest s =
    (slot : ℕ) × (held : Option SnapshotContent)
    × (slice_get ids slot ≡ Some s.security) × (slice_get newest slot ≡ Some held) × (is_newer held s ≡ true)

-- no listed security's newest snapshot gives way to this one
abbrev pub IsNoNews : List ℤ → List (Option SnapshotContent) → SnapshotContent → Type 0
IsNoNews ids newest s =
    (slot : ℕ) (held : Option SnapshotContent)
    → slice_get ids slot ≡ Some s.security → slice_get newest slot ≡ Some held → is_newer held s ≡ false

-- the channel is open, and at this place, which is listed for its security alone, is an older one
pub record IsNewsAt (slot : ℕ) (s : SnapshotContent) (v : View) : Type 0 where
  pub opened : v.is_closed ≡ false
  pub held : Option SnapshotContent
  pub at : slice_get v.channel.ids slot ≡ Some s.security
  pub only : (other : ℕ) → slice_get v.channel.ids other ≡ Some s.security → other ≡ slot
  pub there : slice_get v.newest slot ≡ Some held
  pub newer : is_newer held s ≡ true

-- the channel is closed, or no listed security's newest snapshot gives way to this one
abbrev pub IsNotTaken : SnapshotContent → View → Type 0
IsNotTaken s v = (v.is_closed ≡ true) ⊎ IsNoNews v.channel.ids v.newest s

-- each security's newest snapshot, after one more of whatever security
abbrev pub newest_after : List ℤ → SnapshotContent → List (Option SnapshotContent) → List (Option SnapshotContent)
newest_after (id ∷ ids) s (n ∷ ns) = newer_of id n s ∷ newest_after ids s ns
newest_after [] s ns = ns
newest_after (id ∷ ids) s [] = []

-- What a snapshot's answer says, and what it leaves: it comes back only after a close, where its security isn't listed,
-- or where its number isn't greater than that of the newest, and then all is as before.
abbrev pub Renews : SnapshotContent → View → View → Option SnapshotContent → Type 0
Renews s old new None =
    (old.is_closed ≡ false) × IsNews old.channel.ids old.newest s
    × (new ≡ record old { newest = newest_after old.channel.ids s old.newest })
Renews s old new (Some back) =
    (back ≡ s) × (new ≡ old) × ((old.is_closed ≡ true) ⊎ IsNoNews old.channel.ids old.newest s)
