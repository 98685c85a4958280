use Rattle.std.proofs.Common.{◌≡◌, ◌≤◌, ◌-◌, ◌++◌, ℕ, false, drop, length, get_or}
use Rattle.std.specs.List.{flat_map}
use Rattle.mdp_print.specs.Pieces.{BeginsWith}
use Rattle.mdp_engine.specs.Spreads.{spread_line}
use Rattle.mdp_engine.proofs.audits.put_audits.Given as goal

-- the text with the lines of the spreads that are left is the whole, and their marks are as they were
abbrev pub invariant-loop-n : goal.invariant-loop-n
invariant-loop-n g l = record {
  inside : l.from ≤ length l.spreads;
  long : length l.due ≡ length l.initial.due;
  marks : (k : ℕ) → l.from ≤ k → get_or l.due k false ≡ get_or l.initial.due k false;
  text : l.out.items ++ flat_map (spread_line l.event l.desks) (drop l.from l.spreads) ≡ l.initial.out.items ++ flat_map (spread_line l.event l.desks) l.spreads;
  front : BeginsWith l.out.items l.initial.out.items;
}

-- each turn goes behind one mark
abbrev pub decreases-loop-n : goal.decreases-loop-n
decreases-loop-n g l = length l.spreads - l.from
