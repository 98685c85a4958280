use Rattle.std.proofs.Common.{◌≡◌, ◌≤◌, ◌-◌, [], replicate, vec_len}
use Rattle.mdp_engine.specs.Parts.{lists_in}
use Rattle.mdp_engine.proofs.parts.no_parts.Given as goal

-- the lists so far have nothing in them
abbrev pub invariant-loop-alloc : goal.invariant-loop-alloc
invariant-loop-alloc g l = record {
  inside : vec_len l.parts ≤ l.count;
  parts : lists_in l.parts.items ≡ replicate (vec_len l.parts) [];
}

abbrev pub decreases-loop-alloc : goal.decreases-loop-alloc
decreases-loop-alloc g l = l.count - vec_len l.parts
