use Rattle.std.proofs.Common.{◌≡◌, ◌≤◌, ◌+◌, ◌++◌, drop, length, vec_len, vec_capacity}
use Rattle.mdp_quotes.specs.Merged.{merged}
use Rattle.mdp_print.specs.Texts.{totals_text}
use Rattle.mdp_print.specs.Pieces.{BeginsWith}
use Rattle.mdp_print.proofs.merged.put_merged_levels.Given as goal

-- what is there and the text of the totals that are left are the whole
abbrev pub invariant-loop-n : goal.invariant-loop-n
invariant-loop-n g l = record {
  inside : l.passed ≤ length l.direct;
  text :
      l.out.items ++ totals_text (merged l.way (drop l.passed l.direct) (drop l.n l.implied))
      ≡ l.initial.out.items ++ totals_text (merged l.way l.direct l.implied);
  len :
      vec_len l.out + length (totals_text (merged l.way (drop l.passed l.direct) (drop l.n l.implied)))
      ≡ vec_len l.initial.out + length (totals_text (merged l.way l.direct l.implied));
  front : BeginsWith l.out.items l.initial.out.items;
  room : vec_capacity l.initial.out ≤ vec_capacity l.out;
}
