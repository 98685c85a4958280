use Rattle.std.proofs.Common.{◌≡◌, ◌++◌, take, drop, map}
use Rattle.mdp_c.proofs.levels.put_levels.Given as goal

abbrev pub invariant-loop-place : goal.invariant-loop-place
invariant-loop-place g l = l.levels ≡ take l.place (map g.T.TellsLevel.told l.from) ++ drop l.place l.initial.levels
