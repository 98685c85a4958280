-- Lines that are let go.
use Rattle.std.specs.Prelude.{false, List, [], map}
use Rattle.mdp_templates.specs.declared.instrument.Instrument.{Instrument}
use Rattle.mdp_arbiter.specs.Accepted.{Event}
use Rattle.mdp_arbiter.specs.Machine.{trace}
use Rattle.mdp_desks.specs.Moments.{Moment, moments}
use Rattle.mdp_engine.specs.Engine.{Stands, View}

-- no lines, and no mark of what changed
abbrev pub cleared : View → View
cleared v = record v { held = []; changed = map (λ _. false) v.changed }

-- then all moments were let go that the moves of the events show
abbrev pub LetsGo : View → Type 0
LetsGo v =
    (listed : List Instrument) (events : List Event) (gone : List Moment) → Stands listed events gone v
    → Stands listed events (moments listed (trace v.arbiter.channel events)) (cleared v)
