-- What is known of the newest snapshots without a look at them.
use Rattle.std.specs.Prelude.{◌≡◌, ◌≤◌, ℕ, true, min, List, take, length, Option, Some, None}
use Rattle.mdp_templates.specs.Snapshot.{SnapshotContent}
use Rattle.mdp_arbiter.specs.Machine.{are_fresh}
use Rattle.mdp_arbiter.specs.declared.fresh_front.FreshFront.{FreshFront}

-- the first of these snapshots, as many as are counted, are there, and each includes the least packet
abbrev pub Leads : FreshFront → List (Option SnapshotContent) → Type 0
Leads front newest = (front.count ≤ length newest) × (are_fresh 0 front.least (take front.count newest) ≡ true)

abbrev pub nothing_known : FreshFront
nothing_known = record { count = 0; least = 4294967295 }

-- the lesser of a number and that of a snapshot, where it is there
abbrev pub least_with : ℕ → Option SnapshotContent → ℕ
least_with least None = least
least_with least (Some s) = min least s.last
