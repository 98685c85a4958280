use Rattle.std.proofs.Common.{◌≡◌, ◌++◌, drop}
use Rattle.mdp_engine.specs.Spreads.{spreads_from}
use Rattle.mdp_engine.proofs.spreads.spreads_of.Given as goal

-- the spreads so far, with those of the instruments that are left, are all
abbrev pub invariant-loop-slot : goal.invariant-loop-slot
invariant-loop-slot g l = l.spreads.items ++ spreads_from l.slot l.slots (drop l.slot l.instruments) ≡ spreads_from 0 l.slots l.instruments
