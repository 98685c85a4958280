use Rattle.std.proofs.Common.{◌≡◌, ◌≤◌}
use Rattle.mdp_arbiter.specs.Fates.{held_among}
use Rattle.mdp_arbiter.proofs.arbiter.Arbiter.count_one_by_one.Given as goal

-- the packets among the first numbers are counted
abbrev pub invariant-loop-n : goal.invariant-loop-n
invariant-loop-n g l = record {
  count : l.count ≡ held_among l.self.held l.first l.n;
  few : l.count ≤ l.n;
}
