-- Where memory runs out at a datagram, what was handed on and what is held begin the lines of all events.
use Rattle.std.proofs.Common.{◌≡◌, ◌<◌, ◌+◌, ℕ, Bool, List, [], ◌∷◌, ◌++◌, map, take, drop, length, get_or, refl, sym, ap, subst, ◌∙◌, append_assoc}
use Rattle.std.proofs.lemmas.List.{map-append, take-append-drop}
use Rattle.mdp_sbe.specs.Answer.{HasOneAnswer}
use Rattle.mdp_sbe.specs.Answer.HasOneAnswer.{is_good, is_refused}
use Rattle.mdp_templates.specs.Incremental.{IsPacket}
use Rattle.mdp_templates.specs.Packet.{PacketContent}
use Rattle.mdp_templates.specs.Recovery.{AreSnapshots}
use Rattle.mdp_templates.specs.Refused.{FeedKind as Kind, IsRefusedAs}
use Rattle.mdp_templates.specs.Refused.FeedKind.{incremental, recovery}
use Rattle.mdp_templates.specs.Snapshot.{SnapshotContent}
use Rattle.mdp_templates.specs.declared.feed.Feed.{Feed}
use Rattle.mdp_templates.specs.declared.feed.Feed.TheVariants as feeds
use Rattle.mdp_templates.proofs.OneAnswer.{one_packet, one_datagram}
use Rattle.mdp_print.specs.Pieces.{BeginsWith}
use Rattle.mdp_arbiter.specs.Accepted.{Event, came, recovered}
use Rattle.mdp_arbiter.specs.Channel.{Channel}
use Rattle.mdp_arbiter.specs.Machine.{trace}
use Rattle.mdp_desks.specs.Moments.{moments}
use Rattle.mdp_engine.specs.Kept.{kept_lines}
use Rattle.mdp_engine.specs.Engine.{HasBrokenOff, View}
use Rattle.mdp_engine.proofs.Breaking.{broken_off_before, broken_off_more}
use Rattle.mdp_receiver.specs.Handling.{GoesOn, HasBrokenOffAt}
use Rattle.mdp_receiver.specs.Said.{IsSaid, Said, brings, kind_of, refused}
use Rattle.mdp_receiver.proofs.Counting.{taken_so}

-- ---- each datagram says something

packet_says : (bytes : List ℕ) → HasOneAnswer (IsPacket bytes) (IsRefusedAs incremental bytes) → (said : Said) × IsSaid incremental bytes said
packet_says bytes (is_good packet is one none) = (brings (came packet ∷ []), (packet, is, refl))
packet_says bytes (is_refused refusal is one none) = (refused refusal, is)

snapshots_say : (bytes : List ℕ) → HasOneAnswer (AreSnapshots bytes) (IsRefusedAs recovery bytes) → (said : Said) × IsSaid recovery bytes said
snapshots_say bytes (is_good snapshots are one none) = (brings (map recovered snapshots), (snapshots, are, refl))
snapshots_say bytes (is_refused refusal is one none) = (refused refusal, is)

pub datagram_says : (kind : Kind) (bytes : List ℕ) → (said : Said) × IsSaid kind bytes said
datagram_says incremental bytes = packet_says bytes (one_packet bytes)
datagram_says recovery bytes = snapshots_say bytes (one_datagram bytes)

-- ---- where it breaks off

-- nothing that it brings was taken in
pub nothing_brought : (feed : Feed) (bytes : List ℕ) (old new : View) → new.held ≡ old.held → HasBrokenOffAt feed bytes old new
nothing_brought feed bytes old new held =
    let says = datagram_says (kind_of feed) bytes in
    (says.0, says.1, broken_off_before _ old new held)

-- it brings a packet
pub packet_brought : (bytes : List ℕ) (packet : PacketContent) (old new : View) → IsPacket bytes packet → HasBrokenOff (came packet ∷ []) old new → HasBrokenOffAt feeds.A bytes old new
packet_brought bytes packet old new is broken = (brings (came packet ∷ []), (packet, is, refl), broken)

-- behind events that were taken in
broken_off_behind : (events further : List Event) (first now new : View) → GoesOn events first now → HasBrokenOff further now new → HasBrokenOff (events ++ further) first new
broken_off_behind events further first now new goes broken = λ listed es gone stands.
    subst (λ (b : Bool). BeginsWith (kept_lines b (moments listed (trace first.arbiter.channel (es ++ (events ++ further))))) (kept_lines b gone ++ new.held)) goes.keeps
    (subst (λ (c : Channel). BeginsWith (kept_lines now.keeps_lines (moments listed (trace c (es ++ (events ++ further))))) (kept_lines now.keeps_lines gone ++ new.held)) goes.channel
    (subst (λ (xs : List Event). BeginsWith (kept_lines now.keeps_lines (moments listed (trace now.arbiter.channel xs))) (kept_lines now.keeps_lines gone ++ new.held)) (append_assoc es events further)
    (broken listed (es ++ events) gone (goes.stands listed es gone stands))))

-- at one of the snapshots
pub broken_off_at : (snapshots : List SnapshotContent) (i : ℕ) (s : SnapshotContent) (first now new : View) → i < length snapshots → s ≡ get_or snapshots i s
    → GoesOn (map recovered (take i snapshots)) first now → HasBrokenOff (recovered s ∷ []) now new → HasBrokenOff (map recovered snapshots) first new
broken_off_at snapshots i s first now new within at goes broken =
    let so_far = map recovered (take i snapshots) in
    let left = map recovered (drop (i + 1) snapshots) in
    let all : (so_far ++ recovered s ∷ []) ++ left ≡ map recovered snapshots =
    ap (λ (es : List Event). es ++ left) (taken_so snapshots i within s at)
    ∙ sym (map-append recovered (take (i + 1) snapshots) (drop (i + 1) snapshots))
    ∙ ap (map recovered) (take-append-drop (i + 1) snapshots) in
    subst (λ (es : List Event). HasBrokenOff es first new) all
    (broken_off_more (so_far ++ recovered s ∷ []) left first new (broken_off_behind so_far (recovered s ∷ []) first now new goes broken))
