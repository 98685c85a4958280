-- What a datagram of a feed says: the events that it brings, or why it is refused.
use Rattle.std.specs.Prelude.{◌≡◌, ℕ, List, [], ◌∷◌, map, Option, Some, None}
use Rattle.mdp_sbe.specs.declared.refusal.Refusal.{Refusal}
use Rattle.mdp_templates.specs.Packet.{PacketContent}
use Rattle.mdp_templates.specs.Snapshot.{SnapshotContent}
use Rattle.mdp_templates.specs.Incremental.{IsPacket}
use Rattle.mdp_templates.specs.Recovery.{AreSnapshots}
use Rattle.mdp_templates.specs.Refused.{FeedKind as Kind, IsRefusedAs}
use Rattle.mdp_templates.specs.Refused.FeedKind.{incremental, recovery}
use Rattle.mdp_templates.specs.declared.feed.Feed.{Feed}
use Rattle.mdp_templates.specs.declared.feed.Feed.TheVariants as feeds
use Rattle.mdp_arbiter.specs.Accepted.{Event, came, recovered}
use Rattle.mdp_receiver.specs.declared.decoding.Decoded.{Decoded}
use Rattle.mdp_receiver.specs.declared.decoding.Decoded.TheVariants.{Packet, Snapshots, Refused}

-- it brings events, in order, or is refused
pub data Said : Type 0 where
  brings : List Event → Said
  refused : Refusal → Said

abbrev pub brought_by : Said → List Event
brought_by (brings events) = events
brought_by (refused refusal) = []

abbrev pub refusal_in : Said → Option Refusal
refusal_in (brings events) = None
refusal_in (refused refusal) = Some refusal

-- a datagram of feed A or B brings its packet, one of feed S its snapshots
abbrev pub IsSaid : Kind → List ℕ → Said → Type 0
IsSaid incremental bytes (brings events) =
    (packet : PacketContent) × IsPacket bytes packet × (events ≡ came packet ∷ [])
IsSaid recovery bytes (brings events) =
    (snapshots : List SnapshotContent) × AreSnapshots bytes snapshots × (events ≡ map recovered snapshots)
IsSaid kind bytes (refused refusal) = IsRefusedAs kind bytes refusal

abbrev pub kind_of : Feed → Kind
kind_of feeds.A = incremental
kind_of feeds.B = incremental
kind_of feeds.S = recovery

-- what a decoded datagram says
abbrev pub said_of : {A : Type 0} → Decoded A → Said
said_of (Packet packet) = brings (came packet ∷ [])
said_of (Snapshots snapshots) = brings (map recovered snapshots.items)
said_of (Refused refusal) = refused refusal
