use Rattle.std.proofs.Common.{length, ◌≡◌, ◌<◌, ◌≤◌, ◌-◌, ℕ, true}
use Rattle.std.specs.Prelude.{slice_index_or}
use Rattle.mdp_templates.specs.declared.entry.Level.{Level}
use Rattle.mdp_quotes.specs.Order.{is_ahead}
use Rattle.mdp_quotes.proofs.merged.ahead_of.Given as goal

-- all direct levels so far have a better price
abbrev pub invariant-loop-ahead : goal.invariant-loop-ahead
invariant-loop-ahead l = record {
  inside : l.ahead ≤ length l.direct;
  before : (k : ℕ) (d : Level) → k < l.ahead → is_ahead l.way (slice_index_or l.direct k d).price l.level.price ≡ true;
}

abbrev pub decreases-loop-ahead : goal.decreases-loop-ahead
decreases-loop-ahead l = length l.direct - l.ahead
