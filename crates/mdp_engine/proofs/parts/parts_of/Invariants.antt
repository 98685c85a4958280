use Rattle.mdp_engine.specs.Parts.{AreParts, lists_in}
use Rattle.mdp_engine.proofs.parts.parts_of.Given as goal

-- the spreads so far are noted
abbrev pub invariant-loop-n : goal.invariant-loop-n
invariant-loop-n g l = AreParts l.count l.n l.spreads (lists_in l.parts.items)
