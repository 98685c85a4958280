-- What a datagram is by its framing alone: the parts of its messages, one after the other, and of each its value.
use Rattle.std.specs.Prelude.{◌≡◌, ◌<◌, ℕ, List, Option}
use Rattle.std.specs.List.{AllZip, filter_map}
use Rattle.mdp_sbe.specs.Framing.{IsFramed, Parts}
use Rattle.mdp_sbe.specs.declared.header.Header.{Header}
use Rattle.mdp_templates.specs.Incremental.{IsIncremental}
use Rattle.mdp_templates.specs.Packet.{PacketContent}
use Rattle.mdp_templates.specs.Recovery.{IsRecovery}
use Rattle.mdp_templates.specs.Snapshot.{SnapshotContent}

-- as many messages as are framed, each with the value of its part, under the header's number, which is at least 1
pub record IsFramedPacket (text : List ℕ) (value : PacketContent) : Type 0 where
  pub header : Header
  pub messages : List Parts
  pub framed : IsFramed text header messages
  pub positive : 0 < value.number
  pub number : value.number ≡ header.number
  pub each : AllZip IsIncremental messages value.messages

-- the snapshots among the values of the messages that are framed, whatever the header's number
pub record AreFramedSnapshots (text : List ℕ) (values : List SnapshotContent) : Type 0 where
  pub header : Header
  pub messages : List Parts
  pub framed : IsFramed text header messages
  pub given : List (Option SnapshotContent)
  pub each : AllZip IsRecovery messages given
  pub values_are : values ≡ filter_map (λ (value : Option SnapshotContent). value) given
