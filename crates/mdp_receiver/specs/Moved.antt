-- What a datagram moved, by what it brings and the events that came before.
use Rattle.std.specs.Prelude.{◌≡◌, ℕ, ◌+◌, Bool, true, false, not, ◌&&◌, ◌||◌, nat_le, is_some, if◌then◌else◌, List, [], ◌∷◌, ◌++◌, Option, Some, None}
use Rattle.mdp_arbiter.specs.Accepted.{Event, highest}
use Rattle.mdp_arbiter.specs.Arbiter.{View as ArbiterView, is_lost_now}
use Rattle.mdp_arbiter.specs.Channel.{Channel}
use Rattle.mdp_arbiter.specs.Machine.{Move, go_on, is_lost, least_last, snapshots_of, state_at}
use Rattle.mdp_arbiter.specs.Machine.Move.{passed, jumped}
use Rattle.mdp_arbiter.specs.declared.arbiter.Standing.{Standing}
use Rattle.mdp_arbiter.specs.declared.fate.PacketFate.TheVariants as fates
use Rattle.mdp_receiver.specs.declared.moved.Jump.{Jump}
use Rattle.mdp_receiver.specs.declared.moved.Loss.{Loss}
use Rattle.mdp_receiver.specs.declared.moved.Moved.{Moved}
use Rattle.mdp_receiver.specs.declared.taken.Taken.{Taken}
use Rattle.mdp_receiver.specs.declared.taken.Taken.TheVariants.{Packet, Snapshots, Refused}

-- With these further events taken in, and no move made yet, the receiver is lost where it was not. There is one loss
-- for each time that it is lost; a receiver that joins is lost from the beginning, and has none before its first jump.
abbrev pub loss_of : Channel → List Event → List Event → Option Loss
loss_of channel es further =
    if not (is_lost channel es (state_at channel es)) && is_lost channel (es ++ further) (state_at channel es)
    then Some (record { next = (state_at channel es).next; highest = highest (es ++ further) }) else None

-- the jumps among moves, in their order
abbrev pub jumps_in : List Move → List Jump
jumps_in [] = []
jumps_in (passed packet ∷ moves) = jumps_in moves
jumps_in (jumped old new snapshots ∷ moves) = (record { old = old; new = new }) ∷ jumps_in moves

-- one jump, or none
abbrev pub one_jump : Option Jump → List Jump
one_jump None = []
one_jump (Some jump) = jump ∷ []

-- these further events made this loss, if any; and the moves that they add have this jump and no other, or none
pub record MovesAs (channel : Channel) (es further : List Event) (moved : Moved) : Type 0 where
  pub loss_is : moved.loss ≡ loss_of channel es further
  pub jump_is : one_jump moved.jump ≡ jumps_in (go_on channel es (state_at channel es) further)

-- ---- by what a handler holds

-- it was a packet, and the channel was open
abbrev pub came_while_open : Taken → Bool
came_while_open (Packet fates.First) = true
came_while_open (Packet fates.Repeat) = true
came_while_open (Packet fates.Past) = true
came_while_open (Packet fates.Late) = true
came_while_open (Packet fates.AfterClose) = false
came_while_open (Snapshots counts) = false
came_while_open (Refused refusal) = false

-- from where the channel stood, in a window of this room, a datagram of which this became, whose packet has this number
abbrev pub loss_told : Standing → ℕ → Taken → ℕ → Option Loss
loss_told before room taken number =
    if not before.lost && (came_while_open taken && nat_le (before.next + room) number)
    then Some (record { next = before.next; highest = number }) else None

-- by whether the receiver was lost before any move, and whether it is after all, the next number and the least base
abbrev pub jump_told : Bool → Bool → ℕ → Option ℕ → Option Jump
jump_told true false next (Some least) = Some (record { old = next; new = least + 1 })
jump_told true false next None = None
jump_told true true next least = None
jump_told false lost next least = None

-- both, from where the channel stood before and how the arbiter stands now
abbrev pub moved_told : Standing → Taken → ℕ → ArbiterView → Moved
moved_told before taken number v = record {
  loss = loss_told before v.channel.room taken number;
  jump = jump_told (before.lost || is_some (loss_told before v.channel.room taken number)) (is_lost_now v) before.next
      (least_last (snapshots_of v.bases));
}
