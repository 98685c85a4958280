-- What an arbiter holds of the events that came.
use Rattle.std.specs.Prelude.{◌≡◌, ℕ, ◌+◌, ◌-◌, ◌≤◌, max, false, nat_lt, if◌then◌else◌, List, Option, None, Some}
use Rattle.std.specs.FinMap.{get}
use Rattle.mdp_templates.specs.Packet.{PacketContent}
use Rattle.mdp_arbiter.specs.declared.step.Step.{Step}
use Rattle.mdp_arbiter.specs.Accepted.{Event, accepted_packets, first_of, highest, is_closed, newest_snapshots}
use Rattle.mdp_arbiter.specs.Machine.{next_move, after}
use Rattle.mdp_arbiter.specs.Machine.Move.{passed}
use Rattle.mdp_arbiter.specs.Arbiter.{View, state}
use Rattle.mdp_arbiter.specs.Moves.{Answers, after_move}

-- An arbiter stands at these events: it holds what its further moves turn on. Which moves it has made, its state alone
-- says, so this holds between an event and its moves too.
pub record StandsAt (es : List Event) (v : View) : Type 0 where
  pub room : 1 ≤ v.channel.room
  pub begun : 1 ≤ v.next
  -- before a first jump nothing has passed
  pub first : v.joined ≡ false → v.next ≡ 1
  -- a packet's number is at most 4294967295
  pub most : v.top ≤ 4294967295
  pub top : v.top ≡ max (highest es) (v.next - 1)
  pub is_closed : v.is_closed ≡ is_closed es
  pub newest : v.newest ≡ newest_snapshots v.channel.ids es
  -- the first packet of each number from the next one on that isn't given up
  pub held :
      (k : ℕ) → get v.held k
      ≡ (if nat_lt k (max v.next (highest es + 1 - v.channel.room)) then None else first_of k (accepted_packets es))

-- a step is the machine's move at the events, and leaves the arbiter standing there
pub record StepsAs {A : Type 0} (es : List Event) (old new : View) (step : Option (Step A)) : Type 0 where
  pub stands : StandsAt es new
  pub answer : Answers (next_move old.channel es (state old)) step
  pub state : state new ≡ after_move (state old) (next_move old.channel es (state old))

-- a packet passed as the machine's move at the events, which leaves the arbiter standing there, and no other move is
-- possible
pub record HasPassed (packet : PacketContent) (es : List Event) (old new : View) : Type 0 where
  pub stands : StandsAt es new
  pub possible : next_move old.channel es (state old) ≡ Some (passed packet)
  pub settled : next_move old.channel es (state new) ≡ None
  pub state : state new ≡ after (state old) (passed packet)
