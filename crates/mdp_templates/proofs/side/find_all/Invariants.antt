use Rattle.std.proofs.Common.{take}
use Rattle.mdp_templates.specs.Side.{AreFound}
use Rattle.mdp_templates.proofs.side.find_all.Given as goal

-- what was found so far is what the first entries give
abbrev pub invariant-loop-quote : goal.invariant-loop-quote
invariant-loop-quote g l = AreFound l.fn.kind (take l.quote-index l.quotes) l.found
