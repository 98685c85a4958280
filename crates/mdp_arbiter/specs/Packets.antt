-- What an arbiter answers to a packet, and what that leaves.
use Rattle.std.specs.Prelude.{◌≡◌, ◌≤◌, ◌<◌, ◌⊎◌, ◌+◌, ◌==◌, ◌&&◌, ℕ, Bool, true, false, not, max, nat_lt, None, IsSome}
use Rattle.std.specs.FinMap.{get}
use Rattle.mdp_templates.specs.Packet.{PacketContent}
use Rattle.mdp_window.specs.Window.{HoldsAlso, HoldsFrom}
use Rattle.mdp_window.specs.declared.window.Put.{Put}
use Rattle.mdp_window.specs.declared.window.Put.TheVariants.{Kept, Back, Memory}
use Rattle.mdp_arbiter.specs.Arbiter.{View, state, least_held}

-- the number would be held: it lies neither below what is held nor is it held already, and the channel is open
pub record WouldHold (packet : PacketContent) (v : View) : Type 0 where
  pub is_closed : v.is_closed ≡ false
  pub ahead : least_held v ≤ packet.number
  pub absent : get v.held packet.number ≡ None

-- what a packet that is held leaves
pub record HoldsPacket (packet : PacketContent) (old new : View) : Type 0 where
  pub before : WouldHold packet old
  -- a packet's number is at most 4294967295
  pub most : new.top ≤ 4294967295
  pub state : state new ≡ state old
  pub top : new.top ≡ max old.top packet.number
  pub channel : new.channel ≡ old.channel
  pub is_closed : new.is_closed ≡ old.is_closed
  pub newest : new.newest ≡ old.newest
  pub held : HoldsAlso (least_held new) packet.number packet old.held new.held

-- What a packet's answer says, and what it leaves: it comes back after a close, when it is old and as a repeat, and
-- else only for want of memory; then all is as before.
abbrev pub Receives : Bool → PacketContent → View → View → Put PacketContent → Type 0
Receives allocates packet old new Kept = HoldsPacket packet old new
Receives allocates packet old new (Back back) =
    (back ≡ packet) × (new ≡ old)
    × ((old.is_closed ≡ true) ⊎ ((packet.number < least_held old) ⊎ IsSome (get old.held packet.number)))
Receives allocates packet old new (Memory back) =
    (allocates ≡ true) × (back ≡ packet) × (new ≡ old) × WouldHold packet old

-- whether the answer is another than want of memory
abbrev pub is_taken_in : Put PacketContent → Bool
is_taken_in Kept = true
is_taken_in (Back back) = true
is_taken_in (Memory back) = false

-- A packet of this number passes at once: it is the next one, packets may pass, and none came with its number or a
-- later one.
abbrev pub passes_at_once : ℕ → View → Bool
passes_at_once number v = not v.is_closed && (v.joined && (number == v.next && nat_lt v.top v.next))

-- what a packet leaves that passes at once
pub record LetsPass (old new : View) : Type 0 where
  pub next : new.next ≡ old.next + 1
  pub top : new.top ≡ old.next
  pub joined : new.joined ≡ old.joined
  pub channel : new.channel ≡ old.channel
  pub is_closed : new.is_closed ≡ old.is_closed
  pub newest : new.newest ≡ old.newest
  pub bases : new.bases ≡ old.bases
  pub held : HoldsFrom new.next old.held new.held
