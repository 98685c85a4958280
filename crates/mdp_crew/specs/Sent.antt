-- What was sent of the moves of a channel's events, batch by batch.
use Rattle.std.specs.Prelude.{◌≡◌, List, [], ◌++◌, OnOk, Result}
use Rattle.std.specs.List.{flat_map}
use Rattle.mdp_arbiter.specs.Accepted.{Event}
use Rattle.mdp_arbiter.specs.Channel.{ListedChannel, channel_of}
use Rattle.mdp_arbiter.specs.Machine.{Move, moves_of}
use Rattle.mdp_arbiter.specs.Arbiter.{View}
use Rattle.mdp_engine.specs.Engine.{IsSettled}

-- the moves of batches, one batch after another
abbrev pub moves_sent : List (List Move) → List Move
moves_sent batches = flat_map (λ (moves : List Move). moves) batches

-- The channel's arbiter has taken in these events, and all their moves were sent.
pub record HasSentAll (channel : ListedChannel) (events : List Event) (batches : List (List Move))
    (arbiter : View) : Type 0 where
  pub settled : IsSettled channel.listed events arbiter
  pub channel_is : arbiter.channel ≡ channel_of channel
  pub all : moves_of channel events ≡ moves_sent batches

-- The moves of these events begin with those that were sent; where all went well there are no others.
pub record AreSent {X E : Type 0} (channel : ListedChannel) (events : List Event) (batches : List (List Move))
    (result : Result X E) : Type 0 where
  pub rest : List Move
  pub front : moves_of channel events ≡ moves_sent batches ++ rest
  pub whole : OnOk result (rest ≡ [])
