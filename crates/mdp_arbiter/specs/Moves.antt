-- The move that an arbiter makes without the events, and what it leaves.
use Rattle.std.specs.Prelude.{◌≡◌, ◌-◌, ◌≤◌, ◌<◌, max, true, if◌then◌else◌, Option, Some, None}
use Rattle.std.specs.Option.{option_map}
use Rattle.std.specs.FinMap.{get}
use Rattle.mdp_window.specs.Window.{HoldsFrom}
use Rattle.mdp_arbiter.specs.declared.step.Step.{Step}
use Rattle.mdp_arbiter.specs.declared.step.Step.TheVariants.{Pass, Jump}
use Rattle.mdp_arbiter.specs.Machine.{State, Move, passed, jumped, after, are_fresh, jump, snapshots_of}
use Rattle.mdp_arbiter.specs.Arbiter.{View, state, is_lost_now, steps_left}

-- what a call's answer is of the machine's move: none exactly where none is possible
abbrev pub Answers : {A : Type 0} → Option Move → Option (Step A) → Type 0
Answers None None = Unit {0}
Answers (Some (passed p)) (Some (Pass q)) = q ≡ p
Answers (Some (jumped old new snapshots)) (Some (Jump from to)) = (from ≡ old) × (to ≡ new)
Answers None (Some s) = ⊥
Answers (Some m) None = ⊥
Answers (Some (passed p)) (Some (Jump from to)) = ⊥
Answers (Some (jumped old new snapshots)) (Some (Pass q)) = ⊥

abbrev pub after_move : State → Option Move → State
after_move s None = s
after_move s (Some m) = after s m

-- the move that an arbiter shows without the events
abbrev pub seen_move : View → Option Move
seen_move v =
    if v.is_closed then None
    else if is_lost_now v then
    (if are_fresh v.channel.room v.top v.newest then jump v.next (snapshots_of v.newest) else None)
    else option_map passed (get v.held v.next)

-- what a move leaves
pub record MovedBy (m : Move) (old new : View) : Type 0 where
  pub on : old.next ≤ new.next
  pub left : steps_left new < steps_left old
  pub joined : new.joined ≡ true
  -- a packet's number is at most 4294967295
  pub most : new.top ≤ 4294967295
  pub state : state new ≡ after (state old) m
  pub top : new.top ≡ max old.top (new.next - 1)
  pub channel : new.channel ≡ old.channel
  pub is_closed : new.is_closed ≡ old.is_closed
  pub newest : new.newest ≡ old.newest
  pub held : HoldsFrom new.next old.held new.held

abbrev pub Moves : Option Move → View → View → Type 0
Moves None old new = new ≡ old
Moves (Some m) old new = MovedBy m old new
