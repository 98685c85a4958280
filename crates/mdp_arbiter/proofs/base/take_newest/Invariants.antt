use Rattle.std.proofs.Common.{◌≡◌, ◌++◌, take, drop, map}
use Rattle.mdp_arbiter.specs.declared.base.Base.TheVariants.{Newest}
use Rattle.mdp_arbiter.proofs.base.take_newest.Given as goal

-- the first have their newest, and the others are as they were
abbrev pub invariant-loop-slot : goal.invariant-loop-slot
invariant-loop-slot l = l.bases ≡ take l.slot (map (λ _. Newest) l.initial.bases) ++ drop l.slot l.initial.bases
