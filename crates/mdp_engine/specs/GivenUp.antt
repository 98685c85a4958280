-- A recovery written out: of two packets the first is lost on both feeds, and a snapshot that includes it comes after
-- the second.
use Rattle.std.specs.Prelude.{◌≡◌, ℕ, pos, true, List, [], ◌∷◌, codes}
use Rattle.mdp_templates.specs.Packet.{PacketContent}
use Rattle.mdp_templates.specs.Snapshot.{SnapshotContent}
use Rattle.mdp_templates.specs.declared.entry.Kind.{Kind}
use Rattle.mdp_templates.specs.declared.entry.Kind.TheVariants.{Bid, Offer}
use Rattle.mdp_templates.specs.declared.entry.Action.TheVariants.{New}
use Rattle.mdp_templates.specs.declared.instrument.Instrument.{Instrument}
use Rattle.mdp_templates.specs.declared.instrument.InstrumentKind.TheVariants.{Outright}
use Rattle.mdp_arbiter.specs.declared.start.Start.TheVariants.{FromOne}
use Rattle.mdp_arbiter.specs.Accepted.{Event, came, recovered}
use Rattle.mdp_arbiter.specs.Machine.Move.{passed, jumped}
use Rattle.mdp_engine.specs.Honest.{IsHonest}
use Rattle.mdp_arbiter.specs.Machine.{moves_of}

abbrev pub near : Instrument
near = record { id = pos 1; name = codes "NEAR"; kind = Outright; depth = 10 }

-- a packet of one message that ends its event, with a new best level of a side
abbrev pub packet_with : ℕ → Kind → ℕ → ℕ → PacketContent
packet_with number kind price size = record {
  number = number;
  messages =
      record {
        entries = record { security = pos 1; kind = kind; action = New; level = 1; price = pos price; size = pos size }
            ∷ [];
        end = true;
      }
      ∷ [];
}

-- the complete feed: a bid of 5 at 100, and then an offer of 4 at 103
abbrev pub two_packets : List PacketContent
two_packets = packet_with 1 Bid 100 5 ∷ packet_with 2 Offer 103 4 ∷ []

-- the book after packet 1
abbrev pub snapshot_of_first : SnapshotContent
snapshot_of_first = record {
  security = pos 1;
  last = 1;
  bids = record { price = pos 100; size = pos 5 } ∷ [];
  offers = [];
  implied_bids = [];
  implied_offers = [];
}

-- packet 2 comes, which gives packet 1 up in a window of one number, and then the snapshot
abbrev pub first_is_lost : List Event
first_is_lost = came (packet_with 2 Offer 103 4) ∷ recovered snapshot_of_first ∷ []

-- The feed is one that these events agree with, recovery jumps over packet 1, and packet 2 passes.
abbrev pub LawOfARecovery : Type 0
LawOfARecovery = IsHonest (near ∷ []) two_packets first_is_lost
    × (moves_of (record { listed = near ∷ []; room = 1; start = FromOne }) first_is_lost
    ≡ jumped 1 2 (snapshot_of_first ∷ []) ∷ passed (packet_with 2 Offer 103 4) ∷ [])
