-- What an arbiter hands on of the moves that events add.
use Rattle.std.specs.Prelude.{◌≡◌, List, [], ◌++◌, OnOk, Result}
use Rattle.mdp_templates.specs.declared.instrument.Instrument.{Instrument}
use Rattle.mdp_arbiter.specs.Accepted.{Event}
use Rattle.mdp_arbiter.specs.Machine.{Move, Settles, after_all, trace}
use Rattle.mdp_arbiter.specs.Arbiter.{View, state}
use Rattle.mdp_arbiter.specs.Standing.{StandsAt}
use Rattle.mdp_engine.specs.Engine.{IsSettled}

-- Where an arbiter stands that is fed: the events that came, the arbiter, and the moves that were
-- handed on.
pub record Feeding : Type 0 where
  pub events : List Event
  pub arbiter : View
  pub moves : List Move

abbrev pub feeding : List Event → View → List Move → Feeding
feeding events arbiter moves = record { events = events; arbiter = arbiter; moves = moves }

-- More events were taken in. The moves that they add are appended; where memory ran out, a
-- beginning of them, and the rest are those that are missing.
pub record IsFedAll {E : Type 0} (listed : List Instrument) (old new : Feeding)
    (result : Result (Unit {0}) E) : Type 0 where
  pub made : List Move
  pub rest : List Move
  pub appended : new.moves ≡ old.moves ++ made
  pub front : trace old.arbiter.channel new.events
      ≡ trace old.arbiter.channel old.events ++ (made ++ rest)
  pub whole : OnOk result ((rest ≡ []) × IsSettled listed new.events new.arbiter
      × (new.arbiter.channel ≡ old.arbiter.channel))

-- ---- moves one after another

-- an arbiter that stands at these events has made these moves
pub record HasComeTo (events : List Event) (made : List Move) (old new : View) : Type 0 where
  pub stands : StandsAt events new
  pub channel : new.channel ≡ old.channel
  pub state : state new ≡ after_all (state old) made

-- The moves that are possible after the same events are appended, one after another until none is;
-- where memory ran out, a beginning of them.
pub record MakesMoves {E : Type 0} (old new : Feeding) (result : Result (Unit {0}) E) : Type 0 where
  pub made : List Move
  pub rest : List Move
  pub appended : new.moves ≡ old.moves ++ made
  pub settles : Settles old.arbiter.channel old.events (state old.arbiter) (made ++ rest)
  pub whole : OnOk result ((rest ≡ []) × HasComeTo old.events made old.arbiter new.arbiter)
