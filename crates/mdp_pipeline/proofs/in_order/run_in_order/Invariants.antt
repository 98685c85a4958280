use Rattle.std.proofs.Common.{◌≡◌, length}
use Rattle.mdp_crew.specs.Plan.{channel_in}
use Rattle.mdp_pipeline.specs.Merge.{in_order, records_in}
use Rattle.mdp_pipeline.proofs.Written.{HasTaken}
use Rattle.mdp_pipeline.proofs.in_order.run_in_order.Given as goal

-- the run is over the records so far in the order of their lines, and no write has failed
abbrev pub invariant-loop-feed : goal.invariant-loop-feed
invariant-loop-feed g l = record {
  taken : HasTaken (channel_in l.plan) (records_in l.fn.feeds) (g.W.CountedWrite.taken l.fn.writer) (g.W.CountedWrite.taken l.writer) l.run (records_in l.feeds);
  failed : g.W.CountedWrite.failed l.writer ≡ g.W.CountedWrite.failed l.fn.writer;
}

abbrev pub decreases-loop-feed : goal.decreases-loop-feed
decreases-loop-feed g l = length (in_order (records_in l.feeds))
