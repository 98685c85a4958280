use Rattle.std.proofs.Common.{◌≡◌, ◌≤◌, ◌+◌, ◌++◌, drop, length, vec_len, vec_capacity}
use Rattle.mdp_print.specs.Texts.{totals_text}
use Rattle.mdp_print.specs.Pieces.{BeginsWith}
use Rattle.mdp_print.proofs.totals.put_totals.Given as goal

-- what is there and the text of the totals that are left are the whole
abbrev pub invariant-loop-total : goal.invariant-loop-total
invariant-loop-total g l = record {
  text : l.out.items ++ totals_text (drop l.total-index l.totals) ≡ l.initial.out.items ++ totals_text l.totals;
  len : vec_len l.out + length (totals_text (drop l.total-index l.totals)) ≡ vec_len l.initial.out + length (totals_text l.totals);
  front : BeginsWith l.out.items l.initial.out.items;
  room : vec_capacity l.initial.out ≤ vec_capacity l.out;
}
