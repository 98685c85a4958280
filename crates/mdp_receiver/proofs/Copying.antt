-- The second copy of a packet that has passed.
use Rattle.std.proofs.Common.{◌≡◌, ℕ, List, [], ◌∷◌, map, refl, subst}
use Rattle.mdp_templates.specs.Packet.{PacketContent}
use Rattle.mdp_templates.specs.Snapshot.{SnapshotContent}
use Rattle.mdp_templates.specs.declared.feed.Feed.{Feed}
use Rattle.mdp_templates.specs.declared.feed.Feed.TheVariants as feeds
use Rattle.mdp_templates.specs.declared.instrument.Instrument.{Instrument}
use Rattle.mdp_arbiter.specs.Accepted.{Event, came, recovered}
use Rattle.mdp_arbiter.specs.Arbiter.{state}
use Rattle.mdp_arbiter.specs.Fates.{packet_fate}
use Rattle.mdp_arbiter.specs.Machine.{State, state_at}
use Rattle.mdp_arbiter.specs.Standing.{StandsAt}
use Rattle.mdp_arbiter.specs.declared.fate.PacketFate.{PacketFate}
use Rattle.mdp_desks.specs.Moments.{Moment}
use Rattle.mdp_engine.specs.Engine.{Stands, View}
use Rattle.mdp_receiver.specs.Copies.{IsPacketOf}
use Rattle.mdp_receiver.specs.Handling.{IsCopy, TakesDatagram}
use Rattle.mdp_receiver.specs.Said.{IsSaid, brings, kind_of}
use Rattle.mdp_receiver.specs.declared.taken.Taken.TheVariants.{Packet}

-- the fate of a packet, as an arbiter that stands at the events tells it, is the one that they decide
pub packet_taken : (listed : List Instrument) (before : List Event) (gone : List Moment) (v : View) (number : ℕ) (fate : PacketFate) → ((es : List Event) → StandsAt es v.arbiter → fate ≡ packet_fate v.arbiter.channel es (state v.arbiter) number) → Stands listed before gone v → fate ≡ packet_fate v.arbiter.channel before (state_at v.arbiter.channel before) number
packet_taken listed before gone v number fate told stands =
    subst (λ (s : State). fate ≡ packet_fate v.arbiter.channel before s number) stands.settled.state (told before stands.settled.stands)

pub takes_copy : (feed : Feed) (bytes : List ℕ) (number : ℕ) (fate : PacketFate) (v : View) → ((es : List Event) → StandsAt es v.arbiter → fate ≡ packet_fate v.arbiter.channel es (state v.arbiter) number) → IsCopy feed bytes number v → TakesDatagram feed bytes (Packet fate) v v
takes_copy feed bytes number fate v told copy =
    let packet = copy.packet.0 in
    let says : IsSaid (kind_of feed) bytes (brings (came packet ∷ [])) = rw copy.kind (packet, copy.packet.1, refl) in (
      brings (came packet ∷ []),
      says,
      record {
        goes = record { stands = λ listed before gone stands. copy.past listed before gone packet copy.packet.2 stands; channel = refl; keeps = refl };
        refused_is = refl;
        taken_is = λ listed before gone stands. rw copy.packet.2 (let e = packet_taken listed before gone v number fate told stands in cc);
      },
    )

same_packet : (p q : PacketContent) → came p ∷ [] ≡ came q ∷ [] → p ≡ q
same_packet p q e = cc

no_snapshots : (p : PacketContent) (snapshots : List SnapshotContent) → came p ∷ [] ≡ map recovered snapshots → ⊥
no_snapshots p [] e = cc
no_snapshots p (s ∷ snapshots) e = cc

-- bytes that bring a packet are one of its number
pub packet_of : (feed : Feed) (bytes : List ℕ) (p : PacketContent) → IsSaid (kind_of feed) bytes (brings (came p ∷ [])) → IsPacketOf bytes p.number
packet_of feeds.A bytes p (q, is, e) = rw (same_packet p q e) (q, is, refl)
packet_of feeds.B bytes p (q, is, e) = rw (same_packet p q e) (q, is, refl)
packet_of feeds.S bytes p (snapshots, are, e) = absurd (no_snapshots p snapshots e)
