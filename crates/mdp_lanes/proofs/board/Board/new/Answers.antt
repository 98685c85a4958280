use Rattle.std.proofs.Common.{rules}
use Rattle.mdp_lanes.proofs.board.Board.new.Goals as goal

pub invariant_of-publisher : goal.invariant_of-publisher
invariant_of-publisher g c = rw (c.make_readers.ensures.same.0, c.make_readers.ensures.same.1, c.make_readers.ensures.same.2) (search rules)
