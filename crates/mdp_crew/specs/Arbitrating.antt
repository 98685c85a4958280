-- What the arbiter's thread has sent of the moves that events make possible.
use Rattle.std.specs.Prelude.{◌≡◌, ◌≤◌, ℕ, List, [], map, IfOk, Err}
use Rattle.mdp_arbiter.specs.Accepted.{Event}
use Rattle.mdp_arbiter.specs.Arbiter.{View, state}
use Rattle.mdp_arbiter.specs.Channel.{ListedChannel, channel_of}
use Rattle.mdp_arbiter.specs.Machine.{Move, first_state, stands_after}
use Rattle.mdp_arbiter.specs.Standing.{StandsAt}
use Rattle.mdp_lanes.specs.Items.{ends_taken}
use Rattle.mdp_lanes.specs.Queues.{IntakeReceiverView, LaneSenderView}
use Rattle.mdp_crew.specs.Sent.{AreSent, HasSentAll}
use Rattle.mdp_crew.specs.declared.arbiter.ArbiterOutcome.{ArbiterOutcome}
use Rattle.mdp_crew.specs.declared.batch.Batch.{Batch}
use Rattle.mdp_crew.specs.declared.order.Order.{Order}
use Rattle.mdp_crew.specs.declared.order.Order.TheVariants.{Take}
use Rattle.mdp_crew.specs.Batches.{HasTakenMore, events_taken}
use Rattle.mdp_crew.specs.Orders.{and_sent, orders_of}

-- an arbiter of this channel that has taken in nothing
pub record HasBegun (channel : ListedChannel) (arbiter : View) : Type 0 where
  pub stands : StandsAt [] arbiter
  pub begins : state arbiter ≡ first_state arbiter.channel
  pub channel_is : arbiter.channel ≡ channel_of channel

-- a number that the packet can have which comes next
abbrev pub IsNextNumber : ℕ → Type 0
IsNextNumber n = (1 ≤ n) × (n ≤ 4294967296)

-- The arbiter's thread has ended: it took all batches of the readers, each worker's lane has the
-- same orders more, and these are the moves of the events that were taken, or a beginning of them
-- where memory ran out. Else it tells where the channel stands.
pub record HasSent {A : Type 0} (channel : ListedChannel) (receiver : IntakeReceiverView (Batch A))
    (senders : List (LaneSenderView (Order A))) (outcome : ArbiterOutcome A) : Type 0 where
  pub batches : List (List Move)
  pub lanes : outcome.senders.items ≡ map (and_sent (orders_of batches)) senders
  pub takes : HasTakenMore receiver outcome.receiver
  pub ends : ends_taken (λ b. b.is_last) outcome.receiver.taken ≡ 3
  pub sent : AreSent channel (events_taken outcome.receiver.taken) batches outcome.standing
  pub stands : IfOk outcome.standing
      (λ standing. standing ≡ stands_after channel (events_taken outcome.receiver.taken))
  pub range : IfOk outcome.standing (λ standing. IsNextNumber standing.next)

-- ---- batch by batch

-- Where the arbiter's thread stands: the events that were taken in, what the lanes to the workers
-- were sent, and the arbiter.
pub record Sending (A : Type 0) : Type 0 where
  pub events : List Event
  pub lanes : List (LaneSenderView (Order A))
  pub arbiter : View

abbrev pub sending : {A : Type 0} → List Event → List (LaneSenderView (Order A)) → View → Sending A
sending events lanes arbiter = record { events = events; lanes = lanes; arbiter = arbiter }

-- the lanes have these batches of moves more
abbrev pub HavePut : {A : Type 0} → List (List Move) → List (LaneSenderView (Order A))
    → List (LaneSenderView (Order A)) → Type 0
HavePut batches before after = after ≡ map (and_sent (map Take batches)) before

-- all moves of the events that the arbiter has taken in went into the lanes
pub record HasSentSoFar {A : Type 0} (channel : ListedChannel)
    (before : List (LaneSenderView (Order A))) (now : Sending A) : Type 0 where
  pub batches : List (List Move)
  pub lanes : HavePut batches before now.lanes
  pub all : HasSentAll channel now.events batches now.arbiter

-- a beginning of these events' moves went into the lanes
pub record HasSentFirst {A : Type 0} (channel : ListedChannel) (events : List Event)
    (before after : List (LaneSenderView (Order A))) : Type 0 where
  pub batches : List (List Move)
  pub lanes : HavePut batches before after
  pub sent : AreSent {X = Unit {0}} {E = Unit {0}} channel events batches (Err tt)

-- Where all moves of the events were sent, all moves of those are that are taken in now.
abbrev pub SendsMore : {A : Type 0} → Sending A → Sending A → Type 0
SendsMore {A} old new =
    (channel : ListedChannel) (first : List (LaneSenderView (Order A)))
    → HasSentSoFar channel first old → HasSentSoFar channel first new

-- Where all moves of the events were sent, a beginning of the moves of those is that are taken now.
abbrev pub StopsWithin : {A : Type 0} → Sending A → Sending A → Type 0
StopsWithin {A} old new =
    (channel : ListedChannel) (first : List (LaneSenderView (Order A)))
    → HasSentSoFar channel first old → HasSentFirst channel new.events first new.lanes
