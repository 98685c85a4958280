-- What a channel's events have brought up to the first close: the packets, and each security's newest snapshot.
use Rattle.std.specs.Prelude.{ℕ, ℤ, Bool, true, false, max, nat_lt, ◌==◌, ◌&&◌, if◌then◌else◌, List, [], ◌∷◌, map, fold, Option, Some, None}
use Rattle.std.specs.Ordering.{int_eq}
use Rattle.mdp_templates.specs.Packet.{PacketContent}
use Rattle.mdp_templates.specs.Snapshot.{SnapshotContent}

-- a packet came on either incremental feed, a snapshot on the recovery feed, or the channel was closed
pub data Event : Type 0 where
  came : PacketContent → Event
  recovered : SnapshotContent → Event
  closed : Event

abbrev pub is_closed : List Event → Bool
is_closed [] = false
is_closed (came p ∷ es) = is_closed es
is_closed (recovered s ∷ es) = is_closed es
is_closed (closed ∷ es) = true

-- the packets before the first close, repeats and old ones among them
abbrev pub accepted_packets : List Event → List PacketContent
accepted_packets [] = []
accepted_packets (came p ∷ es) = p ∷ accepted_packets es
accepted_packets (recovered s ∷ es) = accepted_packets es
accepted_packets (closed ∷ es) = []

-- the snapshots before the first close
abbrev pub accepted_snapshots : List Event → List SnapshotContent
accepted_snapshots [] = []
accepted_snapshots (came p ∷ es) = accepted_snapshots es
accepted_snapshots (recovered s ∷ es) = s ∷ accepted_snapshots es
accepted_snapshots (closed ∷ es) = []

abbrev pub highest_of : List PacketContent → ℕ
highest_of [] = 0
highest_of (p ∷ ps) = max p.number (highest_of ps)

-- the greatest number of a packet, 0 where none came
abbrev pub highest : List Event → ℕ
highest es = highest_of (accepted_packets es)

-- of the packets of a number the first, whatever later ones say
abbrev pub first_of : ℕ → List PacketContent → Option PacketContent
first_of n [] = None
first_of n (p ∷ ps) = if n == p.number then Some p else first_of n ps

-- whether a snapshot includes a later packet than the one so far
abbrev pub is_newer : Option SnapshotContent → SnapshotContent → Bool
is_newer None s = true
is_newer (Some t) s = nat_lt t.last s.last

-- the newest of a security's snapshots, after one more of whatever security
abbrev pub newer_of : ℤ → Option SnapshotContent → SnapshotContent → Option SnapshotContent
newer_of id so_far s = if int_eq id s.security && is_newer so_far s then Some s else so_far

-- of a security's snapshots the one that includes the latest packet, of several such the first
abbrev pub newest_snapshot : ℤ → List Event → Option SnapshotContent
newest_snapshot id es = fold (newer_of id) None (accepted_snapshots es)

-- the newest snapshot of each of these securities
abbrev pub newest_snapshots : List ℤ → List Event → List (Option SnapshotContent)
newest_snapshots ids es = map (λ id. newest_snapshot id es) ids
