-- What becomes of a packet and of a snapshot that come after these events, and how many packets wait.
use Rattle.std.specs.Prelude.{ℕ, zero, suc, ◌+◌, ◌-◌, ℤ, nat_lt, is_some, if◌then◌else◌, List, [], ◌∷◌, Option, Some, None}
use Rattle.std.specs.List.{list_any}
use Rattle.std.specs.Ordering.{nat_cmp, int_eq}
use Rattle.std.specs.FinMap.{FinMap, contains_key}
use Rattle.mdp_templates.specs.Snapshot.{SnapshotContent}
use Rattle.mdp_arbiter.specs.Accepted.{Event, accepted_packets, first_of, highest, is_closed, is_newer, newest_snapshot}
use Rattle.mdp_arbiter.specs.Arbiter.{View, least_held}
use Rattle.mdp_arbiter.specs.Channel.{Channel}
use Rattle.mdp_arbiter.specs.Machine.{State, is_fresh}
use Rattle.mdp_arbiter.specs.declared.fate.PacketFate.{PacketFate}
use Rattle.mdp_arbiter.specs.declared.fate.PacketFate.TheVariants as packets
use Rattle.mdp_arbiter.specs.declared.fate.SnapshotFate.{SnapshotFate}
use Rattle.mdp_arbiter.specs.declared.fate.SnapshotFate.TheVariants as snapshots

-- ---- by the events

-- what becomes of a packet of this number, which comes after these events where the machine is in this state
abbrev pub packet_fate : Channel → List Event → State → ℕ → PacketFate
packet_fate channel es s number =
    if is_closed es then packets.AfterClose
    else if nat_lt number s.next then packets.Past
    else if nat_lt number (highest es + 1 - channel.room) then packets.Late
    else if is_some (first_of number (accepted_packets es)) then packets.Repeat
    else packets.First

abbrev pub fate_beside : Option SnapshotContent → SnapshotContent → SnapshotFate
fate_beside newest s = if is_newer newest s then snapshots.News else snapshots.Older

-- what becomes of a snapshot, which comes after these events
abbrev pub snapshot_fate : List ℤ → List Event → SnapshotContent → SnapshotFate
snapshot_fate ids es s =
    if is_closed es then snapshots.AfterClose
    else if list_any (λ (id : ℤ). int_eq id s.security) ids then fate_beside (newest_snapshot s.security es) s
    else snapshots.Unlisted

-- ---- by what an arbiter holds

abbrev pub fate_of : View → ℕ → PacketFate
fate_of v number =
    if v.is_closed then packets.AfterClose
    else if nat_lt number v.next then packets.Past
    else if nat_lt number (least_held v) then packets.Late
    else if contains_key v.held number then packets.Repeat
    else packets.First

abbrev pub fate_among : List ℤ → List (Option SnapshotContent) → SnapshotContent → SnapshotFate
fate_among (id ∷ ids) (n ∷ newest) s = if int_eq id s.security then fate_beside n s else fate_among ids newest s
fate_among [] newest s = snapshots.Unlisted
fate_among (id ∷ ids) [] s = snapshots.Unlisted

abbrev pub fate_of_snapshot : View → SnapshotContent → SnapshotFate
fate_of_snapshot v s = if v.is_closed then snapshots.AfterClose else fate_among v.channel.ids v.newest s

-- of so many numbers from one on, how many are held
abbrev pub held_among : {T : Type 0} → FinMap nat_cmp T → ℕ → ℕ → ℕ
held_among held first zero = 0
held_among held first (suc n) = held_among held first n + (if contains_key held (first + n) then 1 else 0)

-- how many packets wait: none has a number past the top
abbrev pub waiting : View → ℕ
waiting v = held_among v.held (least_held v) (v.top + 1 - least_held v)

-- the first place whose snapshot is missing, or leaves out a packet that is given up
abbrev pub first_stale_from : ℕ → ℕ → ℕ → List (Option SnapshotContent) → Option ℕ
first_stale_from place room top [] = None
first_stale_from place room top (s ∷ newest) =
    if is_fresh room top s then first_stale_from (place + 1) room top newest else Some place

abbrev pub first_stale : ℕ → ℕ → List (Option SnapshotContent) → Option ℕ
first_stale room top newest = first_stale_from 0 room top newest
