-- Messages of values, and the parts that are framed.
use Rattle.std.proofs.Common.{◌≡◌, ℕ, List, [], ◌∷◌, subst, sym, refl}
use Rattle.std.specs.List.{AllZip}
use Rattle.mdp_sbe.specs.Framing.{AreMessages, Parts}
use Rattle.mdp_templates.specs.Framed.{IsFramedPacket, AreFramedSnapshots}
use Rattle.mdp_templates.specs.Incremental.{IsIncremental, IsPacket}
use Rattle.mdp_templates.specs.Packet.{PacketContent}
use Rattle.mdp_templates.specs.Recovery.{IsRecovery, AreSnapshots}
use Rattle.mdp_templates.specs.Snapshot.{SnapshotContent}

-- these parts are framed from `rest` to `after`, and have these values
record ArePartsOf {V : Type 0} (IsValue : Parts → V → Type 0) (rest : List ℕ) (values : List V) (after : List ℕ) : Type 0 where
  messages : List Parts
  framed : AreMessages (λ (message : Parts) (is : Parts). message ≡ is) rest messages after
  each : AllZip IsValue messages values

parts_of_values : {V : Type 0} (IsValue : Parts → V → Type 0) (rest : List ℕ) (values : List V) (after : List ℕ) → AreMessages IsValue rest values after → ArePartsOf IsValue rest values after
parts_of_values IsValue rest [] after are = record { messages = []; framed = are; each = tt }
parts_of_values IsValue rest (v ∷ vs) after are =
    let others = parts_of_values IsValue are.1 vs after are.4 in
    record { messages = are.0 ∷ others.messages; framed = (are.0, are.1, are.2, refl, others.framed); each = (are.3, others.each) }

values_of_parts : {V : Type 0} (IsValue : Parts → V → Type 0) (rest : List ℕ) (messages : List Parts) (values : List V) (after : List ℕ) → AreMessages (λ (message : Parts) (is : Parts). message ≡ is) rest messages after → AllZip IsValue messages values → AreMessages IsValue rest values after
values_of_parts IsValue rest [] [] after framed each = framed
values_of_parts IsValue rest [] (v ∷ vs) after framed each = absurd each
values_of_parts IsValue rest (m ∷ ms) [] after framed each = absurd each
values_of_parts {V} IsValue rest (m ∷ ms) (v ∷ vs) after framed each =
    (framed.0, framed.1, framed.2, subst (λ (message : Parts). IsValue message v) (sym framed.3) each.0, values_of_parts IsValue framed.1 ms vs after framed.4 each.1)

pub framed_packet : (text : List ℕ) (value : PacketContent) → IsPacket text value → IsFramedPacket text value
framed_packet text value is =
    let parts = parts_of_values IsIncremental _ value.messages [] is.follow in
    record { header = is.header; messages = parts.messages; framed = record { begins = is.begins; follow = parts.framed }; positive = is.positive; number = is.number; each = parts.each }

pub packet_of_framed : (text : List ℕ) (value : PacketContent) → IsFramedPacket text value → IsPacket text value
packet_of_framed text value is =
    record { header = is.header; begins = is.framed.begins; positive = is.positive; number = is.number; follow = values_of_parts IsIncremental _ is.messages value.messages [] is.framed.follow is.each }

pub framed_snapshots : (text : List ℕ) (values : List SnapshotContent) → AreSnapshots text values → AreFramedSnapshots text values
framed_snapshots text values are =
    let parts = parts_of_values IsRecovery _ are.give.each [] are.give.follow in
    record { header = are.header; messages = parts.messages; framed = record { begins = are.begins; follow = parts.framed }; given = are.give.each; each = parts.each; values_are = are.give.values_are }

pub snapshots_of_framed : (text : List ℕ) (values : List SnapshotContent) → AreFramedSnapshots text values → AreSnapshots text values
snapshots_of_framed text values are =
    record { header = are.header; begins = are.framed.begins; give = record { each = are.given; follow = values_of_parts IsRecovery _ are.messages are.given [] are.framed.follow are.each; values_are = are.values_are } }
