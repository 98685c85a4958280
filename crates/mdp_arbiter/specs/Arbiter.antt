-- An arbiter as contracts see it.
use Rattle.std.specs.Prelude.{ℕ, ◌+◌, ◌-◌, Bool, not, ◌||◌, max, if◌then◌else◌, List, Option}
use Rattle.std.specs.Ordering.{nat_cmp}
use Rattle.std.specs.FinMap.{FinMap}
use Rattle.mdp_templates.specs.Packet.{PacketContent}
use Rattle.mdp_templates.specs.Snapshot.{SnapshotContent}
use Rattle.mdp_arbiter.specs.Channel.{Channel}
use Rattle.mdp_arbiter.specs.Machine.{State, has_run_ahead}

-- The channel, the number of the packet that passes next, the top (the highest number, or the one before the next if
-- that is greater), whether packets may pass, whether the channel was closed, each listed security's newest snapshot
-- and the one of the latest jump, and the packets held ahead.
pub record View : Type 0 where
  pub channel : Channel
  pub next : ℕ
  pub top : ℕ
  pub joined : Bool
  pub is_closed : Bool
  pub newest : List (Option SnapshotContent)
  pub bases : List (Option SnapshotContent)
  pub held : FinMap nat_cmp PacketContent

-- the machine's state
abbrev pub state : View → State
state v = record { next = v.next; bases = v.bases; joined = v.joined }

-- the receiver is lost, as far as an arbiter knows without the events
abbrev pub is_lost_now : View → Bool
is_lost_now v = not v.joined || has_run_ahead v.channel.room v.next v.top

-- the least number of which an arbiter holds packets: lower ones have passed or are given up
abbrev pub least_held : View → ℕ
least_held v = max v.next (v.top + 1 - v.channel.room)

-- how many steps an arbiter can still make: each pass takes a number, each jump at least one, or it joins
abbrev pub steps_left : View → ℕ
steps_left v = 4294967296 - v.next + (if v.joined then 0 else 1)
