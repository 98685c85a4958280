use Rattle.std.proofs.Common.{◌≡◌, List, [], map, take}
use Rattle.mdp_templates.specs.declared.instrument.Instrument.{Instrument}
use Rattle.mdp_engine.specs.Engine.{Stands}
use Rattle.mdp_engine.specs.Steps.{event_of}
use Rattle.mdp_engine.proofs.engine.lines_of.Given as goal

-- the engine stands at the events so far
abbrev pub invariant-loop-event : goal.invariant-loop-event
invariant-loop-event g l = record {
  stands : (listed : List Instrument) → Stands listed [] [] l.initial.engine → Stands listed (map event_of (take l.event-index l.events)) [] l.engine;
  keeps : l.engine.keeps_lines ≡ l.initial.engine.keeps_lines;
  channel : l.engine.arbiter.channel ≡ l.initial.engine.arbiter.channel;
}
