use Rattle.std.proofs.Common.{◌≡◌}
use Rattle.board_demo.proofs.watch.Given as goal

abbrev pub invariant-loop : goal.invariant-loop
invariant-loop g l = (l.reader.board ≡ l.fn.reader.board) × (l.reader.slots ≡ l.fn.reader.slots)
