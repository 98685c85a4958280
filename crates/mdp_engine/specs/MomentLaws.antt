-- The laws of moments: the moves of honest events have exactly the moments that the complete feed owes, from which text
-- and board alike follow.
use Rattle.std.specs.Prelude.{◌≡◌, List}
use Rattle.mdp_templates.specs.Packet.{PacketContent}
use Rattle.mdp_templates.specs.declared.instrument.Instrument.{Instrument}
use Rattle.mdp_arbiter.specs.Accepted.{Event}
use Rattle.mdp_arbiter.specs.Channel.{ListedChannel}
use Rattle.mdp_arbiter.specs.Machine.{Move, moves_of}
use Rattle.mdp_desks.specs.Moments.{moments}
use Rattle.mdp_engine.specs.Agreed.{AreOf}
use Rattle.mdp_engine.specs.Feed.{IsFeed}
use Rattle.mdp_engine.specs.Honest.{IsHonest}
use Rattle.mdp_engine.specs.Owed.{numbered_moves, owed_moments}

-- moves that are a complete feed's have the moments that the feed owes
abbrev pub LawOfOwedMoments : Type 0
LawOfOwedMoments =
    (listed : List Instrument) (feed : List PacketContent) (moves : List Move) → IsFeed feed → AreOf listed feed 1 moves
    → moments listed moves ≡ owed_moments listed feed (numbered_moves moves)

-- and so have the moves of events that agree with a complete feed
abbrev pub LawOfHonestMoments : Type 0
LawOfHonestMoments =
    (channel : ListedChannel) (feed : List PacketContent) (es : List Event) → IsHonest channel.listed feed es
    → moments channel.listed (moves_of channel es)
    ≡ owed_moments channel.listed feed (numbered_moves (moves_of channel es))
