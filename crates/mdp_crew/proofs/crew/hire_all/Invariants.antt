use Rattle.std.proofs.Common.{◌≡◌, vec_len, vec_capacity}
use Rattle.mdp_crew.specs.Crew.{IsCrew}
use Rattle.mdp_crew.specs.Shares.{share_of}
use Rattle.mdp_crew.proofs.crew.hire_all.Given as goal

abbrev pub invariant-loop-number : goal.invariant-loop-number
invariant-loop-number g l = record {
  crew : IsCrew (share_of l.fn.listed l.workers 0) l.number l.senders.items l.posts.items;
  senders : vec_len l.senders ≡ l.number;
  posts : vec_len l.posts ≡ l.number;
  senders_room : vec_capacity l.senders ≡ l.workers;
  posts_room : vec_capacity l.posts ≡ l.workers;
}
