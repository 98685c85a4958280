use Rattle.std.proofs.Common.{◌≡◌, ℕ, ◌<◌, get_or, length}
use Rattle.mdp_lanes.specs.declared.row.Row.TheVariants.{Never}
use Rattle.mdp_lanes.proofs.reader.copy_rows.Given as goal

abbrev pub invariant-loop-k : goal.invariant-loop-k
invariant-loop-k l = (length l.out ≡ length l.slots) × ((k : ℕ) → k < l.k → get_or l.out k Never ≡ get_or l.rows (get_or l.slots k 0) Never)
