-- When events agree with a complete feed: the premise under which lines are promised.
use Rattle.std.specs.Prelude.{◌≡◌, ◌≤◌, ℕ, List, ◌++◌, length, IfSome}
use Rattle.std.specs.List.{AllByRecursion}
use Rattle.mdp_templates.specs.Packet.{PacketContent}
use Rattle.mdp_templates.specs.Snapshot.{SnapshotContent}
use Rattle.mdp_templates.specs.declared.instrument.Instrument.{Instrument}
use Rattle.mdp_arbiter.specs.Accepted.{Event, accepted_packets, accepted_snapshots, first_of, newest_snapshot}
use Rattle.mdp_arbiter.specs.Channel.{ListedChannel}
use Rattle.mdp_engine.specs.Feed.{IsFeed, IsIn, IsSnapshotOf}
use Rattle.mdp_engine.specs.Agreed.{AreOf}
use Rattle.mdp_arbiter.specs.Machine.{moves_of}

-- Of each number the packet that came first is the feed's, whatever later copies say; and at each front of the events
-- each listed security's newest snapshot, if it has one, is the feed's book.
pub record IsHonest (listed : List Instrument) (feed : List PacketContent) (es : List Event) : Type 0 where
  pub complete : IsFeed feed
  pub packets : (k : ℕ) → IfSome (first_of k (accepted_packets es)) (IsIn feed)
  pub snapshots : (front rest : List Event) → es ≡ front ++ rest
      → AllByRecursion (λ (i : Instrument). IfSome (newest_snapshot i.id front) (IsSnapshotOf feed i)) listed

-- the moves of honest events are the complete feed's
abbrev pub HonestMovesAgree : Type 0
HonestMovesAgree = (channel : ListedChannel) (feed : List PacketContent) (es : List Event)
    → IsHonest channel.listed feed es → AreOf channel.listed feed 1 (moves_of channel es)

-- a snapshot is of no listed security, or is this feed's
abbrev pub IsBookOf : List Instrument → List PacketContent → SnapshotContent → Type 0
IsBookOf listed feed s =
    AllByRecursion (λ (i : Instrument). i.id ≡ s.security → IsSnapshotOf feed i s) listed

-- Let each packet have a number that a feed can have. Where the snapshots of listed securities that came are the books
-- of one feed, and of each of its numbers the packet that came first is its own, there is a complete feed that the
-- events agree with. That one feed may end before the packets that came do.
abbrev pub LawOfHonestFeeds : Type 0
LawOfHonestFeeds = (listed : List Instrument) (es : List Event) (begun : List PacketContent)
    → AllByRecursion (λ (p : PacketContent). (1 ≤ p.number) × (p.number ≤ 4294967295)) (accepted_packets es)
    → IsFeed begun
    → ((k : ℕ) → k ≤ length begun → IfSome (first_of k (accepted_packets es)) (IsIn begun))
    → AllByRecursion (IsBookOf listed begun) (accepted_snapshots es)
    → (feed : List PacketContent) × IsHonest listed feed es
