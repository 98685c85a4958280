-- Snapshots as definitions see them.
use Rattle.std.specs.Prelude.{ℕ, ℤ, List, []}
use Rattle.mdp_templates.specs.declared.entry.Level.{Level}

-- a security's four sides, the best level first, after all messages of the last packet that they include
pub record SnapshotContent : Type 0 where
  pub security : ℤ
  pub last : ℕ
  pub bids : List Level
  pub offers : List Level
  pub implied_bids : List Level
  pub implied_offers : List Level

-- a snapshot while nothing of its sides is gathered
abbrev pub empty_snapshot : ℤ → ℕ → SnapshotContent
empty_snapshot security last =
    record { security = security; last = last; bids = []; offers = []; implied_bids = []; implied_offers = [] }
