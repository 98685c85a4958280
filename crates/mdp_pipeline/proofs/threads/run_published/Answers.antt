use Rattle.mdp_crew.specs.Plan.{channel_in}
use Rattle.mdp_pipeline.specs.Merge.{records_in}
use Rattle.mdp_pipeline.specs.Output.{standing_in}
use Rattle.mdp_pipeline.proofs.Joining.{map_err, map_ok}
use Rattle.mdp_pipeline.proofs.OnBoards.{begins_on_board, board_is_there, board_stays, prints_on_board}
use Rattle.mdp_pipeline.proofs.threads.run_published.Goals as goal

pub unreachable-requires : goal.unreachable-requires
unreachable-requires g c =
    board_is_there (channel_in c.args.plan) (records_in c.args.feeds) (g.W.CountedWrite.taken c.args.writer.now) (g.W.CountedWrite.taken c.run_where-outcome.new.writer)
    c.args.publisher c.run_where-outcome.new.board c.run_where-outcome.result c.in_default.is c.run_where-outcome.ensures.ends

pub returns-clause-board : goal.returns-clause-board
returns-clause-board g c =
    board_stays (channel_in c.args.plan) (records_in c.args.feeds) (g.W.CountedWrite.taken c.args.writer.now) (g.W.CountedWrite.taken c.run_where-outcome.new.writer)
    c.args.publisher c.in-Some.publisher c.run_where-outcome.new.board c.run_where-outcome.result c.in-Some.is c.run_where-outcome.ensures.ends

pub returns-clause-text : goal.returns-clause-text
returns-clause-text g c =
    map_ok c.run_where-outcome.result _ _
    (λ summary. prints_on_board (channel_in c.args.plan) (records_in c.args.feeds) (g.W.CountedWrite.taken c.args.writer.now) (g.W.CountedWrite.taken c.run_where-outcome.new.writer)
    c.args.publisher c.in-Some.publisher c.run_where-outcome.new.board (standing_in summary) c.in-Some.is) c.run_where-outcome.ensures.ends.text

pub returns-clause-begins : goal.returns-clause-begins
returns-clause-begins g c =
    map_err c.run_where-outcome.result _ _
    (λ fault. begins_on_board (channel_in c.args.plan) (records_in c.args.feeds) (g.W.CountedWrite.taken c.args.writer.now) (g.W.CountedWrite.taken c.run_where-outcome.new.writer)
    c.args.publisher c.in-Some.publisher c.run_where-outcome.new.board c.in-Some.is) c.run_where-outcome.ensures.ends.begins
