use Rattle.std.proofs.Common.{◌≡◌, length, vec_len, vec_capacity}
use Rattle.mdp_crew.specs.TakenRounds.{all_took, one_each}
use Rattle.mdp_crew.proofs.rounds.take_round.Given as goal

abbrev pub invariant-loop-post : goal.invariant-loop-post
invariant-loop-post g l =
    (length l.round.items ≡ l.post-index)
    × (l.posts ≡ all_took l.fn.posts (one_each l.round.items))
    × (vec_capacity l.round ≡ vec_capacity l.fn.round)
    × (vec_len l.round ≡ l.post-index)
