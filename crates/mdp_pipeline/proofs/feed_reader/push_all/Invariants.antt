use Rattle.std.proofs.Common.{◌≡◌, ◌++◌, map, take}
use Rattle.mdp_arbiter.specs.Accepted.{recovered}
use Rattle.mdp_engine.specs.Steps.{event_of}
use Rattle.mdp_pipeline.proofs.feed_reader.push_all.Given as goal

-- the first snapshots stand behind the events
abbrev pub invariant-loop-snapshot : goal.invariant-loop-snapshot
invariant-loop-snapshot g l = map event_of l.events.items ≡ map event_of l.initial.events.items ++ map recovered (take l.snapshot-index l.snapshots)
