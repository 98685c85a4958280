-- The names of the faults of a capture are short.
use Rattle.std.proofs.Common.{◌≤◌, length, lit≤}
use Rattle.mdp_capture.specs.declared.fault.CaptureRefusal.{CaptureRefusal}
use Rattle.mdp_capture.specs.declared.fault.CaptureRefusal.TheVariants as refusals
use Rattle.mdp_capture.specs.declared.skip.Skip.{Skip}
use Rattle.mdp_capture.specs.declared.skip.Skip.TheVariants as skips
use Rattle.mdp_capture.specs.Faults.{refusal_name, skip_name}

pub refusal_name_short : (refusal : CaptureRefusal) → length (refusal_name refusal) ≤ 14
refusal_name_short refusals.DuplicateId = lit≤ tt
refusal_name_short refusals.UnknownLeg = lit≤ tt
refusal_name_short refusals.TooMany = lit≤ tt
refusal_name_short refusals.NoInstrument = lit≤ tt
refusal_name_short refusals.InstrumentLate = lit≤ tt

pub skip_name_short : (skip : Skip) → length (skip_name skip) ≤ 14
skip_name_short skips.LineForm = lit≤ tt
skip_name_short skips.Hex = lit≤ tt
skip_name_short skips.TooLong = lit≤ tt
