-- What is known of a datagram that was read before.
use Rattle.std.specs.Prelude.{◌≡◌, ℕ, List}
use Rattle.mdp_templates.specs.Packet.{PacketContent}
use Rattle.mdp_templates.specs.Incremental.{IsPacket}

-- these bytes are a packet of this number
abbrev pub IsPacketOf : List ℕ → ℕ → Type 0
IsPacketOf bytes number = (packet : PacketContent) × IsPacket bytes packet × (packet.number ≡ number)
