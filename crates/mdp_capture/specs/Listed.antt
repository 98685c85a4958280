-- What becomes of a list of instruments, by one more instrument or by a line of text.
use Rattle.std.specs.Prelude.{if◌then◌else◌, List, [], ◌∷◌, ◌++◌, Option, None, Some}
use Rattle.std.specs.Option.{is_none}
use Rattle.mdp_templates.specs.declared.instrument.Instrument.{Instrument}
use Rattle.mdp_capture.specs.Capture.{refusal_after}
use Rattle.mdp_capture.specs.Line.{LineContent, Blank, Listing, Packet, Closing, Skipped}
use Rattle.mdp_capture.specs.declared.fault.CaptureRefusal.{CaptureRefusal}
use Rattle.mdp_capture.specs.declared.instrument_list.ListedLine.{ListedLine}
use Rattle.mdp_capture.specs.declared.instrument_list.ListedLine.TheVariants.{Listed, Refused, NoSuchLine}

-- the list with one more instrument at its end, unless that is refused
abbrev pub listed_after : List Instrument → Instrument → List Instrument
listed_after listed instrument =
    if is_none (refusal_after listed instrument) then listed ++ instrument ∷ [] else listed

-- the instrument of a line, none where the line is no instrument's
abbrev pub instrument_said : LineContent → Option Instrument
instrument_said (Listing instrument) = Some instrument
instrument_said Blank = None
instrument_said (Packet feed bytes) = None
instrument_said Closing = None
instrument_said (Skipped skip) = None

-- what is answered to an instrument that is refused for this reason, or for none
abbrev pub judgement : Option CaptureRefusal → ListedLine
judgement None = Listed
judgement (Some refusal) = Refused refusal

-- what is answered to a line of this instrument, or of none
abbrev pub answer_after : List Instrument → Option Instrument → ListedLine
answer_after listed None = NoSuchLine
answer_after listed (Some instrument) = judgement (refusal_after listed instrument)

-- the list after a line of this instrument, or of none
abbrev pub listed_after_line : List Instrument → Option Instrument → List Instrument
listed_after_line listed None = listed
listed_after_line listed (Some instrument) = listed_after listed instrument
