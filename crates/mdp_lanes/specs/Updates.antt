-- What is published at once, as a step, and what it does to the rows of a copy.
use Rattle.std.specs.Prelude.{ℕ, List, length, replicate, slice_set, fold}
use Rattle.mdp_lanes.specs.declared.row.Row.{Row}
use Rattle.mdp_lanes.specs.declared.row.Row.TheVariants.{Stale}
use Rattle.mdp_lanes.specs.declared.step.Step.{Step}
use Rattle.mdp_lanes.specs.declared.step.Step.TheVariants.{Jump, Event}
use Rattle.mdp_lanes.specs.declared.update.Change.{Change}
use Rattle.mdp_lanes.specs.declared.update.Change.TheVariants.{Wipe, Give}
use Rattle.mdp_lanes.specs.declared.update.Update.{Update}
use Rattle.mdp_lanes.specs.declared.sheet.Sheet.{Sheet}
use Rattle.mdp_lanes.specs.declared.sheet.Face.{Face}

-- the rows with one more: a slot that there is not gets none
abbrev pub with_row : List Row → ℕ × Row → List Row
with_row rows pair = slice_set rows pair.0 pair.1

module _ {A : Type 0} where
  abbrev pub step_of : Change A → Step
  step_of Wipe = Jump
  step_of (Give pairs) = Event pairs.items

  abbrev pub changed_rows : List Row → Change A → List Row
  changed_rows rows Wipe = replicate (length rows) Stale
  changed_rows rows (Give pairs) = fold with_row rows pairs.items

  -- what both copies have in common
  abbrev pub face : Sheet A → Face
  face s = record { rows = s.rows.items; length = s.length; front = s.front }

  abbrev pub next_face : Face → Update A → Face
  next_face f u = record { rows = changed_rows f.rows u.change; length = u.length; front = u.front }
