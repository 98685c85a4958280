use Rattle.std.proofs.Common.{length}
use Rattle.mdp_pipeline.specs.Merge.{in_order, records_in}
use Rattle.handler_times.proofs.follow.Given as goal

abbrev pub invariant-loop-feed : goal.invariant-loop-feed
invariant-loop-feed l = record {}

-- each turn takes a record
abbrev pub decreases-loop-feed : goal.decreases-loop-feed
decreases-loop-feed l = length (in_order (records_in l.feeds))
