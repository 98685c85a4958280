use Rattle.std.proofs.Common.{◌≡◌, ◌-◌, drop}
use Rattle.mdp_quotes.specs.Merged.{are_ordered}
use Rattle.mdp_quotes.proofs.merged.is_ordered.Given as goal

-- the order of all turns on the levels from the one before this place on
abbrev pub invariant-loop-at : goal.invariant-loop-at
invariant-loop-at l = are_ordered l.way l.levels ≡ are_ordered l.way (drop (l.at - 1) l.levels)
