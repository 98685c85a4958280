-- What a handle holds from call to call.
use Rattle.std.specs.Prelude.{ℕ, List, [], ◌∷◌, ◌++◌}
use Rattle.mdp_templates.specs.declared.feed.Feed.{Feed}
use Rattle.mdp_arbiter.specs.Accepted.{Event, closed}
use Rattle.mdp_arbiter.specs.Channel.{ListedChannel}
use Rattle.mdp_arbiter.specs.Machine.{moves_of}
use Rattle.mdp_desks.specs.Moments.{Moment, moments}
use Rattle.mdp_engine.specs.Engine.{View}
use Rattle.mdp_receiver.specs.Handling.{Handles}
use Rattle.mdp_receiver.specs.Said.{IsSaid, Said, brought_by, kind_of}
use Rattle.mdp_c.specs.Feeding.{Takes, TakesClose, holding}
use Rattle.mdp_c.specs.Lines.{LetsGo, cleared}
use Rattle.mdp_c.specs.declared.became.Became.{Became}

-- What each call makes of a handle that has taken in these events, where these moments were let go. The events that a
-- datagram brings come behind those before it.
pub record Follows (channel : ListedChannel) (events : List Event) (gone : List Moment) (old : View) : Type 0 where
  pub datagram : (feed : Feed) (bytes : List ℕ) (b : Became) (new : View) (b' : Became) (r : ℕ)
      → Takes feed bytes (holding old b) (holding new b') r
      → (said : Said) × IsSaid (kind_of feed) bytes said × Handles channel (events ++ brought_by said) gone new
  pub close : (new : View) (r : ℕ) → TakesClose old new r → Handles channel (events ++ closed ∷ []) gone new
  pub lines : LetsGo old → Handles channel events (moments channel.listed (moves_of channel events)) (cleared old)

abbrev pub LawOfCalls : Type 0
LawOfCalls =
    (channel : ListedChannel) (events : List Event) (gone : List Moment) (v : View) → Handles channel events gone v
    → Follows channel events gone v
