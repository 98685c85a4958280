-- The complete feed that the lines are defined by.
use Rattle.std.specs.Prelude.{◌≡◌, ◌≤◌, ℕ, ◌+◌, ◌-◌, List, [], ◌∷◌, length, take, slice_get, Some, ⊤}
use Rattle.mdp_templates.specs.Packet.{PacketContent}
use Rattle.mdp_templates.specs.Snapshot.{SnapshotContent}
use Rattle.mdp_templates.specs.declared.instrument.Instrument.{Instrument}
use Rattle.mdp_books.specs.Book.{book_of_snapshot}
use Rattle.mdp_books.specs.Feed.{sent_by, book_at}

-- packets in number order, the first of which has this number
abbrev pub NumberedFrom : ℕ → List PacketContent → Type 0
NumberedFrom k [] = ⊤
NumberedFrom k (p ∷ ps) = (p.number ≡ k) × NumberedFrom (k + 1) ps

-- the complete feed: its k-th packet has number k, and no number is past the largest
pub record IsFeed (feed : List PacketContent) : Type 0 where
  pub numbered : NumberedFrom 1 feed
  pub long : length feed ≤ 4294967295

-- a packet stands in the feed, in the place that its number says
pub record IsIn (feed : List PacketContent) (packet : PacketContent) : Type 0 where
  pub first : 1 ≤ packet.number
  pub place : slice_get feed (packet.number - 1) ≡ Some packet

-- a snapshot's book is the complete feed's after its last packet, and neither direct side is longer than it can be
pub record IsSnapshotOf (feed : List PacketContent) (i : Instrument) (snapshot : SnapshotContent) : Type 0 where
  pub within : snapshot.last ≤ length feed
  pub short_bids : length snapshot.bids ≤ i.depth
  pub short_offers : length snapshot.offers ≤ i.depth
  pub book : book_of_snapshot i.depth snapshot ≡ book_at i (sent_by (take snapshot.last feed))

-- a snapshot of the feed that leaves out no packet behind a jump to this number
pub record IsJumpedTo (feed : List PacketContent) (next : ℕ) (i : Instrument)
    (snapshot : SnapshotContent) : Type 0 where
  pub covers : next ≤ snapshot.last + 1
  pub is : IsSnapshotOf feed i snapshot
