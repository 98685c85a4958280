use Rattle.std.proofs.Common.{refl, ◌∙◌}
use Rattle.mdp_crew.specs.Collecting.{showing}
use Rattle.mdp_crew.proofs.Taking.{under_way_first, under_way_on, ended}
use Rattle.mdp_crew.proofs.collector.Collecting.collect.Goals as goal

pub loop-init : goal.loop-init
loop-init g c = record { under_way = under_way_first (showing c.args.self.now (g.W.CountedWrite.taken c.args.writer.now) c.args.board.now); sound = refl }

pub returns-in-Some-turn-clause-ends : goal.returns-in-Some-turn-clause-ends
returns-in-Some-turn-clause-ends g c =
    ended (showing c.args.self.now (g.W.CountedWrite.taken c.args.writer.now) c.args.board.now) (showing c.loop.self (g.W.CountedWrite.taken c.loop.writer) c.loop.board)
    (showing c.turn.new.self (g.W.CountedWrite.taken c.turn.new.writer) c.turn.new.board) c.in-Some-turn.outcome c.in-Some-turn.ensures.turned c.loop.invariant.under_way

pub loop-preserved : goal.loop-preserved
loop-preserved g c = record {
  under_way =
      under_way_on (showing c.args.self.now (g.W.CountedWrite.taken c.args.writer.now) c.args.board.now) (showing c.loop.self (g.W.CountedWrite.taken c.loop.writer) c.loop.board)
      (showing c.turn.new.self (g.W.CountedWrite.taken c.turn.new.writer) c.turn.new.board) c.in_default.ensures.turned c.loop.invariant.under_way;
  sound = c.in_default.ensures.still ∙ c.loop.invariant.sound;
}
