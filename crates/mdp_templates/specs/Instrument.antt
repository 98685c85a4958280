-- Which lists of instruments a channel can be read for, and their ids.
use Rattle.std.specs.Prelude.{◌≡◌, ◌≢◌, ◌<◌, ◌≤◌, ℕ, ℤ, Some, List, length, take, slice_get, map, All, AllPairs, Any}
use Rattle.mdp_templates.specs.declared.instrument.Instrument.{Instrument}
use Rattle.mdp_templates.specs.declared.instrument.InstrumentKind.{InstrumentKind}
use Rattle.mdp_templates.specs.declared.instrument.InstrumentKind.TheVariants.{Outright, Calendar}
use Rattle.mdp_templates.specs.Entry.{direct_depth}

-- the ids of instruments, in listed order
abbrev pub ids_of : List Instrument → List ℤ
ids_of instruments = map (λ instrument. instrument.id) instruments

-- one of the instruments is an outright of this id
abbrev pub HasOutright : List Instrument → ℤ → Type 0
HasOutright instruments id = Any (λ instrument. (instrument.id ≡ id) × (instrument.kind ≡ Outright)) instruments

-- two different outrights among the earlier instruments
abbrev pub AreLegs : List Instrument → ℤ → ℤ → Type 0
AreLegs earlier leg1 leg2 = (leg1 ≢ leg2) × HasOutright earlier leg1 × HasOutright earlier leg2

-- an outright needs no legs
abbrev pub HasLegs : List Instrument → InstrumentKind → Type 0
HasLegs earlier Outright = Unit {0}
HasLegs earlier (Calendar leg1 leg2) = AreLegs earlier leg1 leg2

-- a side of an outright's direct book has 1 to 10 levels at most, and of a calendar's 10
abbrev pub IsDepthOf : InstrumentKind → ℕ → Type 0
IsDepthOf Outright depth = (1 ≤ depth) × (depth ≤ direct_depth)
IsDepthOf (Calendar leg1 leg2) depth = depth ≡ direct_depth

abbrev pub HasDepth : Instrument → Type 0
HasDepth instrument = IsDepthOf instrument.kind instrument.depth

-- no earlier instrument has this one's id, its legs stand among them, and its depth is one of its kind
pub record FitsAfter (earlier : List Instrument) (instrument : Instrument) : Type 0 where
  pub id_is_new : All (λ other. other.id ≢ instrument.id) earlier
  pub legs_stand : HasLegs earlier instrument.kind
  pub has_depth : HasDepth instrument

-- 1 to 512 instruments of different ids and of depths of their kind, and the legs of each calendar stand earlier
pub record AreFit (instruments : List Instrument) : Type 0 where
  pub some : 0 < length instruments
  pub few : length instruments ≤ 512
  pub ids_differ : AllPairs (λ earlier later. earlier.id ≢ later.id) instruments
  pub legs_stand : (place : ℕ) (instrument : Instrument) → slice_get instruments place ≡ Some instrument
      → HasLegs (take place instruments) instrument.kind
  pub depths : All HasDepth instruments
