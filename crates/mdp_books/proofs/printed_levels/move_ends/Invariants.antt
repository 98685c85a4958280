use Rattle.std.proofs.Common.{◌≡◌, drop}
use Rattle.mdp_books.proofs.Ends.{move_from}
use Rattle.mdp_books.proofs.printed_levels.move_ends.Given as goal

-- those that are left are as they were, and still have to be moved
abbrev pub invariant-loop-n : goal.invariant-loop-n
invariant-loop-n g l = record {
  ends : move_from l.less l.more l.n l.all ≡ move_from l.less l.more l.from l.initial.all;
  left : drop l.n l.all ≡ drop l.n l.initial.all;
}
