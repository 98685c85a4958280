-- The faults of a capture: the number and the name of each, which are printed, and the text of a fault.
use Rattle.std.specs.Prelude.{ℕ, List, [], ◌++◌, ◌==◌, codes, decimal, if◌then◌else◌}
use Rattle.mdp_capture.specs.declared.fault.CaptureFault.{CaptureFault}
use Rattle.mdp_capture.specs.declared.fault.CaptureFault.TheVariants as faults
use Rattle.mdp_capture.specs.declared.fault.CaptureRefusal.{CaptureRefusal}
use Rattle.mdp_capture.specs.declared.fault.CaptureRefusal.TheVariants as refusals
use Rattle.mdp_capture.specs.declared.skip.Skip.{Skip}
use Rattle.mdp_capture.specs.declared.skip.Skip.TheVariants as skips

abbrev pub skip_number : Skip → ℕ
skip_number skips.LineForm = 21
skip_number skips.Hex = 22
skip_number skips.TooLong = 23

abbrev pub skip_name : Skip → List ℕ
skip_name skips.LineForm = codes "LineForm"
skip_name skips.Hex = codes "Hex"
skip_name skips.TooLong = codes "TooLong"

abbrev pub refusal_number : CaptureRefusal → ℕ
refusal_number refusals.DuplicateId = 31
refusal_number refusals.UnknownLeg = 32
refusal_number refusals.TooMany = 33
refusal_number refusals.NoInstrument = 34
refusal_number refusals.InstrumentLate = 35

abbrev pub refusal_name : CaptureRefusal → List ℕ
refusal_name refusals.DuplicateId = codes "DuplicateId"
refusal_name refusals.UnknownLeg = codes "UnknownLeg"
refusal_name refusals.TooMany = codes "TooMany"
refusal_name refusals.NoInstrument = codes "None"
refusal_name refusals.InstrumentLate = codes "InstrumentLate"

-- the line of the capture of which something is told
abbrev pub place_text : ℕ → List ℕ
place_text line = codes "line " ++ decimal line ++ codes ": "

-- why a run is refused, and at which line, unless that is line 0
unfoldable pub refusal_text : ℕ → CaptureRefusal → List ℕ
refusal_text line refusal =
    (if line == 0 then [] else place_text line) ++ decimal (refusal_number refusal) ++ codes " " ++ refusal_name refusal

-- what a fault is printed as
abbrev pub fault_text : CaptureFault → List ℕ
fault_text (faults.Refused line refusal) = refusal_text line refusal
fault_text faults.Memory = codes "41 Memory"
fault_text faults.Input = codes "43 Input"
