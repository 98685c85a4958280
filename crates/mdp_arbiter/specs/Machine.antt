-- The recovery machine: which packet passes next, and when recovery jumps to the snapshots. It knows the channel and
-- the events.
use Rattle.std.specs.Prelude.{◌≡◌, ◌<◌, ◌≤◌, All, Any, ℕ, zero, suc, ◌+◌, Bool, true, false, not, ◌||◌, min, nat_le, if◌then◌else◌, List, [], ◌∷◌, ◌++◌, map, fold, Option, Some, None}
use Rattle.std.specs.Option.{option_map}
use Rattle.std.specs.List.{list_all}
use Rattle.mdp_templates.specs.Packet.{PacketContent}
use Rattle.mdp_templates.specs.Snapshot.{SnapshotContent}
use Rattle.mdp_arbiter.specs.declared.start.Start.{Start}
use Rattle.mdp_arbiter.specs.declared.start.Start.TheVariants.{FromOne, Join}
use Rattle.mdp_arbiter.specs.declared.arbiter.Standing.{Standing}
use Rattle.mdp_arbiter.specs.Channel.{Channel, ListedChannel, channel_of}
use Rattle.mdp_arbiter.specs.Accepted.{Event, accepted_packets, first_of, highest, is_closed, newest_snapshots}

-- A packet passes; or recovery jumps from one number to a later one, or to the same where it joins, and the listed
-- securities' snapshots, in listed order, become their bases.
pub data Move : Type 0 where
  passed : PacketContent → Move
  jumped : ℕ → ℕ → List SnapshotContent → Move

-- the number of the packet that passes next, each listed security's snapshot in the latest jump, and whether packets
-- may pass
pub record State : Type 0 where
  pub next : ℕ
  pub bases : List (Option SnapshotContent)
  pub joined : Bool

-- packets may pass from number 1 on, or on a channel that is under way only after a first jump
abbrev pub joined_from : Start → Bool
joined_from FromOne = true
joined_from Join = false

abbrev pub first_state : Channel → State
first_state channel = record { next = 1; bases = map (λ _. None) channel.ids; joined = joined_from channel.start }

-- a packet came the room or more past the next one, which is given up
abbrev pub has_run_ahead : ℕ → ℕ → ℕ → Bool
has_run_ahead room next top = nat_le (next + room) top

-- the receiver is lost: it has not joined, or the packet that passes next is given up
abbrev pub is_lost : Channel → List Event → State → Bool
is_lost channel es s = not s.joined || has_run_ahead channel.room s.next (highest es)

-- a security's snapshot is there, and includes every packet that is given up: those that lie the room or more below the
-- top
abbrev pub is_fresh : ℕ → ℕ → Option SnapshotContent → Bool
is_fresh room top None = false
is_fresh room top (Some s) = nat_le top (s.last + room)

abbrev pub are_fresh : ℕ → ℕ → List (Option SnapshotContent) → Bool
are_fresh room top newest = list_all (is_fresh room top) newest

-- those that are there
abbrev pub snapshots_of : List (Option SnapshotContent) → List SnapshotContent
snapshots_of [] = []
snapshots_of (None ∷ rest) = snapshots_of rest
snapshots_of (Some s ∷ rest) = s ∷ snapshots_of rest

abbrev pub lesser : Option ℕ → SnapshotContent → Option ℕ
lesser None s = Some s.last
lesser (Some n) s = Some (min n s.last)

-- the least number of the packets that the snapshots include last, none where there is no snapshot
abbrev pub least_last : List SnapshotContent → Option ℕ
least_last snapshots = fold lesser None snapshots

-- recovery goes on right after the least number, so that no security misses a packet
abbrev pub jump : ℕ → List SnapshotContent → Option Move
jump next snapshots = option_map (λ least. jumped next (least + 1) snapshots) (least_last snapshots)

-- the one possible move, if there is one
abbrev pub next_move : Channel → List Event → State → Option Move
next_move channel es s =
    if is_closed es then None
    else if is_lost channel es s then
    (if are_fresh channel.room (highest es) (newest_snapshots channel.ids es)
    then jump s.next (snapshots_of (newest_snapshots channel.ids es)) else None)
    else option_map passed (first_of s.next (accepted_packets es))

abbrev pub after : State → Move → State
after s (passed packet) = record { next = s.next + 1; bases = s.bases; joined = s.joined }
after s (jumped old new snapshots) =
    record { next = new; bases = map (λ snapshot. Some snapshot) snapshots; joined = true }

abbrev pub after_all : State → List Move → State
after_all s moves = fold after s moves

-- these are the moves from a state on, one after another, until none is possible
abbrev pub Settles : Channel → List Event → State → List Move → Type 0
Settles channel es s [] = next_move channel es s ≡ None
Settles channel es s (m ∷ ms) = (next_move channel es s ≡ Some m) × Settles channel es (after s m) ms

-- the possible moves one after another, at most so many
abbrev pub moves : ℕ → Channel → List Event → State → List Move
moves zero channel es s = []
moves (suc most) channel es s =
    elim (next_move channel es s) [ None ↦ [] | Some m ↦ m ∷ moves most channel es (after s m) ]

-- The one list that settles: each move begins at most at the highest number, and ends above where it began; one that
-- joins comes first, and ends above 0.
abbrev pub settle : Channel → List Event → State → List Move
settle channel es s = moves (highest es + 1) channel es s

-- the moves after each further event, from a state at the events before
abbrev pub go_on : Channel → List Event → State → List Event → List Move
go_on channel past s [] = []
go_on channel past s (e ∷ es) =
    settle channel (past ++ e ∷ []) s ++ go_on channel (past ++ e ∷ [])
    (after_all s (settle channel (past ++ e ∷ []) s)) es

-- the moves of these events: after each event, as many as are possible
abbrev pub trace : Channel → List Event → List Move
trace channel es = go_on channel [] (first_state channel) es

abbrev pub state_at : Channel → List Event → State
state_at channel es = after_all (first_state channel) (trace channel es)

-- where the channel stands then: the number of the packet that comes next, and whether the receiver is lost
abbrev pub stands_at : Channel → List Event → Standing
stands_at channel es = record { next = (state_at channel es).next; lost = is_lost channel es (state_at channel es) }

-- ---- a channel by its listed securities

-- the moves that its events make possible, and where it stands after them
abbrev pub moves_of : ListedChannel → List Event → List Move
moves_of channel es = trace (channel_of channel) es

abbrev pub stands_after : ListedChannel → List Event → Standing
stands_after channel es = stands_at (channel_of channel) es

-- ---- laws

-- a front's moves are a beginning of the whole's
abbrev pub LawOfFronts : Type 0
LawOfFronts = (channel : Channel) (xs ys : List Event)
    → trace channel (xs ++ ys) ≡ trace channel xs ++ go_on channel xs (state_at channel xs) ys

-- from each state on there is exactly one list of moves until none is possible
abbrev pub LawOfMoves : Type 0
LawOfMoves = (channel : Channel) (es : List Event) (s : State)
    → Settles channel es s (settle channel es s)
    × ((ms : List Move) → Settles channel es s ms → ms ≡ settle channel es s)

-- one more event adds the moves that are then possible, one after another until none is
abbrev pub LawOfEvents : Type 0
LawOfEvents = (channel : Channel) (es : List Event) (e : Event) (ms : List Move)
    → Settles channel (es ++ e ∷ []) (state_at channel es) ms
    → (trace channel (es ++ e ∷ []) ≡ trace channel es ++ ms)
    × (state_at channel (es ++ e ∷ []) ≡ after_all (state_at channel es) ms)

-- a packet that passes is the first that came of the next number
abbrev pub LawOfPasses : Type 0
LawOfPasses = (channel : Channel) (es : List Event) (s : State) (packet : PacketContent)
    → next_move channel es s ≡ Some (passed packet)
    → (packet.number ≡ s.next) × (first_of s.next (accepted_packets es) ≡ Some packet)

-- A jump takes the newest snapshot of each listed security, none of which leaves out a packet that is given up, and
-- goes on right after the one that reaches least far. One that joins may leave the number that passes next.
pub record IsRecovery (channel : Channel) (es : List Event) (s : State) (new : ℕ)
    (snapshots : List SnapshotContent) : Type 0 where
  pub on : s.joined ≡ true → s.next < new
  pub begun : 1 ≤ new
  pub newest : newest_snapshots channel.ids es ≡ map (λ snapshot. Some snapshot) snapshots
  pub fresh : All (λ snapshot. highest es ≤ snapshot.last + channel.room) snapshots
  pub covered : All (λ snapshot. new ≤ snapshot.last + 1) snapshots
  pub least : Any (λ snapshot. new ≡ snapshot.last + 1) snapshots

abbrev pub LawOfJumps : Type 0
LawOfJumps = (channel : Channel) (es : List Event) (s : State) (old new : ℕ) (snapshots : List SnapshotContent)
    → next_move channel es s ≡ Some (jumped old new snapshots)
    → (old ≡ s.next) × IsRecovery channel es s new snapshots

-- nothing has moved, or the first move is a jump from number 1
abbrev pub BeginWithJump : List Move → Type 0
BeginWithJump [] = Unit {0}
BeginWithJump (passed p ∷ ms) = ⊥
BeginWithJump (jumped old new snapshots ∷ ms) = old ≡ 1

-- who joins a channel that is under way has joined by a jump, before which nothing moves
abbrev pub LawOfJoining : Type 0
LawOfJoining = (channel : Channel) (es : List Event) → channel.start ≡ Join
    → BeginWithJump (trace channel es) × ((state_at channel es).joined ≡ false → trace channel es ≡ [])

-- the first packets of the numbers from n on pass, as far as there is one of each
abbrev pub ArePassed : ℕ → List PacketContent → List Move → Type 0
ArePassed n ps [] = first_of n ps ≡ None
ArePassed n ps (passed p ∷ ms) = (first_of n ps ≡ Some p) × ArePassed (n + 1) ps ms
ArePassed n ps (jumped old new snapshots ∷ ms) = ⊥

abbrev pub HaveNoJump : List Move → Type 0
HaveNoJump [] = Unit {0}
HaveNoJump (passed p ∷ ms) = HaveNoJump ms
HaveNoJump (jumped old new snapshots ∷ ms) = ⊥

-- after the moves of no further event the receiver is lost
abbrev pub IsNeverLost : Channel → List Event → State → List Event → Type 0
IsNeverLost channel past s [] = Unit {0}
IsNeverLost channel past s (e ∷ es) =
    (is_lost channel (past ++ e ∷ []) (after_all s (settle channel (past ++ e ∷ []) s)) ≡ false)
    × IsNeverLost channel (past ++ e ∷ []) (after_all s (settle channel (past ++ e ∷ []) s)) es

-- where nothing was lost, the first packet of each number from 1 on passes, as far as there is one of each
abbrev pub LawOfNoLoss : Type 0
LawOfNoLoss = (channel : Channel) (es : List Event) → HaveNoJump (trace channel es)
    → IsNeverLost channel [] (first_state channel) es → ArePassed 1 (accepted_packets es) (trace channel es)
