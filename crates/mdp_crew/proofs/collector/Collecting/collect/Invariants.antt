use Rattle.std.proofs.Common.{◌≡◌}
use Rattle.mdp_crew.specs.Collecting.{IsCollecting, showing}
use Rattle.mdp_crew.proofs.collector.Collecting.collect.Given as goal

abbrev pub invariant-loop : goal.invariant-loop
invariant-loop g l = record {
  under_way : IsCollecting (showing l.fn.self (g.W.CountedWrite.taken l.fn.writer) l.fn.board) (showing l.self (g.W.CountedWrite.taken l.writer) l.board);
  sound : g.W.CountedWrite.failed l.writer ≡ g.W.CountedWrite.failed l.fn.writer;
}
