-- Instruments that are listed one by one.
use Rattle.std.specs.Prelude.{◌<◌, ◌≤◌, ℕ, List, length, take, slice_index_or}
use Rattle.mdp_templates.specs.declared.instrument.Instrument.{Instrument}
use Rattle.mdp_templates.specs.Instrument.{FitsAfter}

-- at most 512 instruments, each of which fits after those before it
pub record AreFitSoFar (instruments : List Instrument) : Type 0 where
  pub few : length instruments ≤ 512
  pub each : (place : ℕ) (d : Instrument) → place < length instruments
      → FitsAfter (take place instruments) (slice_index_or instruments place d)
