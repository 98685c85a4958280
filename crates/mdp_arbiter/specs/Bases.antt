-- The snapshots that the latest jump took, as they are held: none is copied at a jump.
use Rattle.std.specs.Prelude.{List, [], ◌∷◌, Option}
use Rattle.mdp_templates.specs.Snapshot.{SnapshotContent}
use Rattle.mdp_arbiter.specs.declared.base.Base.{Base}
use Rattle.mdp_arbiter.specs.declared.base.Base.TheVariants.{Newest, Older}

-- the snapshot that the latest jump took of a security, beside its newest one
abbrev pub base_of : Option SnapshotContent → Base → Option SnapshotContent
base_of newest Newest = newest
base_of newest (Older base) = base

-- the same of each listed security
abbrev pub bases_of : List (Option SnapshotContent) → List Base → List (Option SnapshotContent)
bases_of [] bases = []
bases_of (newest ∷ others) [] = []
bases_of (newest ∷ others) (base ∷ bases) = base_of newest base ∷ bases_of others bases

-- where a newer snapshot comes, the one before is kept if the latest jump took it
abbrev pub kept_base : Option SnapshotContent → Base → Base
kept_base before Newest = Older before
kept_base before (Older base) = Older base
