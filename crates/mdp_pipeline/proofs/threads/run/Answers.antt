use Rattle.mdp_crew.specs.Plan.{channel_in}
use Rattle.std.specs.Prelude.{None}
use Rattle.mdp_pipeline.specs.Merge.{records_in}
use Rattle.mdp_pipeline.specs.Output.{standing_in}
use Rattle.mdp_pipeline.proofs.Joining.{map_err, map_ok}
use Rattle.mdp_pipeline.proofs.OnBoards.{begins_alone, prints_alone}
use Rattle.mdp_pipeline.proofs.threads.run.Goals as goal

pub returns-clause-text : goal.returns-clause-text
returns-clause-text g c =
    map_ok c.run_where-outcome.result _ _
    (λ summary. prints_alone (channel_in c.args.plan) (records_in c.args.feeds) (g.W.CountedWrite.taken c.args.writer.now) (g.W.CountedWrite.taken c.run_where-outcome.new.writer)
    None c.run_where-outcome.new.board (standing_in summary)) c.run_where-outcome.ensures.ends.text

pub returns-clause-begins : goal.returns-clause-begins
returns-clause-begins g c =
    map_err c.run_where-outcome.result _ _
    (λ fault. begins_alone (channel_in c.args.plan) (records_in c.args.feeds) (g.W.CountedWrite.taken c.args.writer.now) (g.W.CountedWrite.taken c.run_where-outcome.new.writer)
    None c.run_where-outcome.new.board) c.run_where-outcome.ensures.ends.begins
