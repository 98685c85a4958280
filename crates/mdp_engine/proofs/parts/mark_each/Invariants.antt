use Rattle.std.proofs.Common.{◌≡◌, ◌<◌, ℕ, true, false, length, get_or}
use Rattle.mdp_engine.proofs.parts.mark_each.Given as goal

-- the marks so far are set
abbrev pub invariant-loop-n : goal.invariant-loop-n
invariant-loop-n g l = record {
  long : length l.due ≡ length l.initial.due;
  kept : (k : ℕ) → get_or l.initial.due k false ≡ true → get_or l.due k false ≡ true;
  marked : (k d : ℕ) → k < l.n-index → get_or l.due (get_or l.places k d) false ≡ true;
}
