use Rattle.std.proofs.Common.{◌≡◌, ◌++◌, List, map, length}
use Rattle.std.specs.Vec.Iter.{into_iter_items, into_iter_len}
use Rattle.mdp_templates.specs.declared.instrument.Instrument.{Instrument}
use Rattle.mdp_arbiter.specs.Accepted.{Event}
use Rattle.mdp_engine.specs.Engine.{IsSettled}
use Rattle.mdp_engine.specs.Steps.{event_of}
use Rattle.mdp_crew.specs.Fed.{IsFedAll, feeding}
use Rattle.mdp_arbiter.specs.OwnedMoves.{move_of}
use Rattle.mdp_crew.proofs.Adding.{well}
use Rattle.mdp_crew.proofs.feeding.feed_all.Given as goal

-- the events so far were taken in, and with those that are left they are all
abbrev pub invariant-loop-event : goal.invariant-loop-event
invariant-loop-event g l = record {
  fed : (listed : List Instrument) (before : List Event) → IsSettled listed before l.initial.arbiter
      → IsFedAll listed (feeding before l.initial.arbiter (map move_of l.initial.owned_moves.items)) (feeding (before ++ (map event_of l.yielded)) l.arbiter (map move_of l.owned_moves.items)) well;
  all : l.yielded ++ into_iter_items l.event-iterator ≡ l.fn.events.items;
  left : into_iter_len l.event-iterator ≡ length (into_iter_items l.event-iterator);
}
