use Rattle.std.proofs.Common.{◌≡◌, vec_len, All}
use Rattle.left_right.specs.Sides.{view}
use Rattle.mdp_lanes.specs.Boards.{Knows, IsFreshReader}
use Rattle.mdp_lanes.proofs.board.make_readers.Given as goal

abbrev pub invariant-loop-made : goal.invariant-loop-made
invariant-loop-made g l =
    (vec_len l.ends ≡ l.made)
    × All (IsFreshReader l.front.book l.slots) l.ends.items
    × Knows (view l.writer.desk.place) l.front.book l.slots
    × (l.writer.desk.shown ≡ l.fn.writer.desk.shown)
    × (l.writer.log ≡ l.fn.writer.log)
    × (l.writer.behind ≡ l.fn.writer.behind)
