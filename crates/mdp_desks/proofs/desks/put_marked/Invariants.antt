use Rattle.std.proofs.Common.{◌≡◌, ◌≤◌, ◌-◌, ◌++◌, drop, map, length}
use Rattle.std.specs.List.{flat_map}
use Rattle.mdp_desks.specs.Lines.{text_of}
use Rattle.mdp_desks.specs.Desks.{desk_standing}
use Rattle.mdp_print.specs.Pieces.{BeginsWith}
use Rattle.mdp_desks.proofs.desks.put_marked.Given as goal

-- the text with the lines that are left is the whole
abbrev pub invariant-loop-n : goal.invariant-loop-n
invariant-loop-n g l = record {
  inside : l.from ≤ length l.desks;
  text : l.out.items ++ flat_map (text_of l.end) (map (desk_standing l.end.packet) (drop l.from l.desks)) ≡ l.initial.out.items ++ flat_map (text_of l.end) (map (desk_standing l.end.packet) l.desks);
  front : BeginsWith l.out.items l.initial.out.items;
}

-- each turn goes behind one mark
abbrev pub decreases-loop-n : goal.decreases-loop-n
decreases-loop-n g l = length l.desks - l.from
