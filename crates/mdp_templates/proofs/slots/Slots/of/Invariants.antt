use Rattle.std.proofs.Common.{◌≡◌, take}
use Rattle.mdp_templates.specs.Instrument.{ids_of}
use Rattle.mdp_templates.proofs.slots.Slots.of.Given as goal

abbrev pub invariant-loop-instrument : goal.invariant-loop-instrument
invariant-loop-instrument g l = l.ids.keys ≡ take l.instrument-index (ids_of l.instruments)
