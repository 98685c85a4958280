use Rattle.std.proofs.Common.{◌≡◌}
use Rattle.layer_tests.proofs.lanes.boards.publish.Given as goal

abbrev pub invariant-loop-message : goal.invariant-loop-message
invariant-loop-message g l = l.publisher.board ≡ l.fn.publisher.board
