-- What a contract sees of the ends of a queue.
use Rattle.std.specs.Prelude.{◌≡◌, ℕ, List, []}
use Rattle.atomic_table.specs.Seated.{TableId}
use Rattle.atomic_table.specs.declared.badge.Badge.{Badge}
use Rattle.crossbeam_channel.specs.declared.flavors.array.Key.{Key}
use Rattle.crossbeam_channel.specs.Claims.{Pass}
use Rattle.mdp_templates.specs.declared.feed.Feed.{Feed}

-- which queue of messages of type M an end belongs to, and for how many messages it has room
pub record Queue (M : Type 0) : Type 0 where
  pub table : TableId
  pub store : Badge (Key M)
  pub room : ℕ

-- the queue that a pass belongs to, which has this room
abbrev pub queue_of : {M V : Type 0} → Pass M V → ℕ → Queue M
queue_of pass room = record { table = pass.table_id; store = pass.me.0.of; room = room }

-- an intake's sender: its intake, its tag, and all that it has put
pub record IntakeSenderView (I : Type 0) : Type 0 where
  pub intake : Queue (Feed × I)
  pub tag : Feed
  pub sent : List I

-- an intake's receiver: its intake, and all that it has taken, each item with the tag of its sender
pub record IntakeReceiverView (I : Type 0) : Type 0 where
  pub intake : Queue (Feed × I)
  pub taken : List (Feed × I)

-- a lane's sender: its lane, and all that it has put
pub record LaneSenderView (T : Type 0) : Type 0 where
  pub lane : Queue T
  pub sent : List T

-- a lane's receiver: its lane, and all that it has taken
pub record LaneReceiverView (T : Type 0) : Type 0 where
  pub lane : Queue T
  pub taken : List T

-- the sender with this tag of the receiver's intake
abbrev pub IsSenderOf : {I : Type 0} → IntakeReceiverView I → Feed → IntakeSenderView I → Type 0
IsSenderOf r tag s = (s.intake ≡ r.intake) × (s.tag ≡ tag)

-- such a sender, which has put nothing yet
abbrev pub IsFreshSenderOf : {I : Type 0} → IntakeReceiverView I → Feed → IntakeSenderView I → Type 0
IsFreshSenderOf r tag s = (s.intake ≡ r.intake) × (s.tag ≡ tag) × (s.sent ≡ [])
