-- A datagram with the number of the packet that comes next.
use Rattle.std.proofs.Common.{◌≡◌, ℕ, List, [], ◌∷◌, refl}
use Rattle.mdp_sbe.specs.declared.refusal.Refusal.{Refusal}
use Rattle.mdp_templates.specs.Incremental.{IsPacket}
use Rattle.mdp_templates.specs.Packet.{PacketContent}
use Rattle.mdp_templates.specs.Refused.{IsRefusedAs}
use Rattle.mdp_templates.specs.Refused.FeedKind.{incremental}
use Rattle.mdp_templates.specs.declared.feed.Feed.TheVariants as feeds
use Rattle.mdp_arbiter.specs.Accepted.{Event, came}
use Rattle.mdp_arbiter.specs.Arbiter.{state}
use Rattle.mdp_arbiter.specs.Fates.{packet_fate}
use Rattle.mdp_arbiter.specs.Standing.{StandsAt}
use Rattle.mdp_arbiter.specs.declared.fate.PacketFate.{PacketFate}
use Rattle.mdp_engine.specs.Engine.{View}
use Rattle.mdp_receiver.specs.Handling.{GoesOn, TakesDatagram}
use Rattle.mdp_receiver.specs.Said.{brings, refused}
use Rattle.mdp_receiver.specs.declared.taken.Taken.TheVariants.{Packet, Refused}
use Rattle.mdp_receiver.proofs.Copying.{packet_taken}
use Rattle.mdp_receiver.proofs.Going.{goes_none}

pub takes_refused : (bytes : List ℕ) (r : Refusal) (v : View) → IsRefusedAs incremental bytes r → TakesDatagram feeds.A bytes (Refused r) v v
takes_refused bytes r v is = (
  refused r,
  is,
  record { goes = goes_none v; refused_is = refl; taken_is = λ listed before gone stands. refl },
)

pub takes_packet : (bytes : List ℕ) (packet : PacketContent) (fate : PacketFate) (old new : View) → IsPacket bytes packet → ((es : List Event) → StandsAt es old.arbiter → fate ≡ packet_fate old.arbiter.channel es (state old.arbiter) packet.number) → GoesOn (came packet ∷ []) old new → TakesDatagram feeds.A bytes (Packet fate) old new
takes_packet bytes packet fate old new is told goes = (
  brings (came packet ∷ []),
  (packet, is, refl),
  record {
    goes = goes;
    refused_is = refl;
    taken_is = λ listed before gone stands. let e = packet_taken listed before gone old packet.number fate told stands in cc;
  },
)
