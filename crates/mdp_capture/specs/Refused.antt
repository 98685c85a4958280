-- Which captures are refused: on the first line that refuses the run, or at the end of a text that lists no instrument.
use Rattle.std.specs.Prelude.{◌≡◌, ◌<◌, ◌≤◌, ◌⊎◌, ℕ, List, [], length, take, slice_get, Some, Any, Result, Ok, Err}
use Rattle.std.specs.List.{flat_map}
use Rattle.mdp_templates.specs.Instrument.{HasLegs}
use Rattle.mdp_templates.specs.declared.feed.Feed.{Feed}
use Rattle.mdp_templates.specs.declared.instrument.Instrument.{Instrument}
use Rattle.mdp_capture.specs.Capture.{CaptureContent, RefusedLine}
use Rattle.mdp_capture.specs.Line.{Listing}
use Rattle.mdp_capture.specs.Lines.{NumberedLine, numbered_lines, instruments_of, records_on, IsCaptureOf}
use Rattle.mdp_capture.specs.declared.fault.CaptureRefusal.{CaptureRefusal}
use Rattle.mdp_capture.specs.declared.fault.CaptureRefusal.TheVariants as refusals

-- one of these lines brings a record, on whichever feed
abbrev pub HasRecord : List NumberedLine → Type 0
HasRecord lines = (feed : Feed) × (0 < length (flat_map (records_on feed) lines))

-- one of the instruments has this one's id or its name
abbrev pub IsTaken : List Instrument → Instrument → Type 0
IsTaken listed instrument =
    Any (λ other. (other.id ≡ instrument.id) ⊎ (other.name ≡ instrument.name)) listed

-- a refusal holds of an instrument that these lines stand before
abbrev pub Holds : CaptureRefusal → List NumberedLine → Instrument → Type 0
Holds refusals.InstrumentLate before instrument = HasRecord before
Holds refusals.TooMany before instrument = 512 ≤ length (flat_map instruments_of before)
Holds refusals.DuplicateId before instrument = IsTaken (flat_map instruments_of before) instrument
Holds refusals.UnknownLeg before instrument = HasLegs (flat_map instruments_of before) instrument.kind → ⊥
Holds refusals.NoInstrument before instrument = ⊥

-- in which order the refusals are looked for on one line: 35, 33, 31, 32
abbrev pub order_of : CaptureRefusal → ℕ
order_of refusals.InstrumentLate = 0
order_of refusals.TooMany = 1
order_of refusals.DuplicateId = 2
order_of refusals.UnknownLeg = 3
order_of refusals.NoInstrument = 4

-- an instrument behind these lines is refused for the first refusal that holds
pub record IsRefusedFor (refusal : CaptureRefusal) (before : List NumberedLine) (instrument : Instrument) : Type 0 where
  pub holds : Holds refusal before instrument
  pub first : (other : CaptureRefusal) → order_of other < order_of refusal → Holds other before instrument → ⊥

-- the line at a place is an instrument's that is refused for what stands before it
pub record RefusesAt (lines : List NumberedLine) (place number : ℕ) (refusal : CaptureRefusal) : Type 0 where
  pub instrument : Instrument
  pub line : slice_get lines place ≡ Some (record { number = number; content = Listing instrument })
  pub refused : IsRefusedFor refusal (take place lines) instrument

-- no line before this place refuses the run
abbrev pub NoneRefuses : List NumberedLine → ℕ → Type 0
NoneRefuses lines place =
    (earlier number : ℕ) (refusal : CaptureRefusal) → earlier < place → RefusesAt lines earlier number refusal → ⊥

-- the first line that refuses the run has this number and refuses for this
pub record IsFirstRefused (lines : List NumberedLine) (number : ℕ) (refusal : CaptureRefusal) : Type 0 where
  pub place : ℕ
  pub refuses : RefusesAt lines place number refusal
  pub first : NoneRefuses lines place

-- a text is refused at its first line that refuses the run, or on line 0 where no line lists an instrument
pub data IsRefusedCapture (text : List ℕ) (line : ℕ) (refusal : CaptureRefusal) : Type 0 where
  at_line : IsFirstRefused (numbered_lines text) line refusal → IsRefusedCapture text line refusal
  at_end : flat_map instruments_of (numbered_lines text) ≡ [] → line ≡ 0 → refusal ≡ refusals.NoInstrument
      → IsRefusedCapture text line refusal

-- what a text comes to: a capture, or a line at which it is refused
abbrev pub IsAnswer : List ℕ → Result CaptureContent RefusedLine → Type 0
IsAnswer text (Ok capture) = IsCaptureOf text capture
IsAnswer text (Err refused) = IsRefusedCapture text refused.line refused.refusal

-- each text comes to one answer and no other
abbrev pub HasOneAnswer : List ℕ → Type 0
HasOneAnswer text =
    (answer : Result CaptureContent RefusedLine) × IsAnswer text answer
    × ((other : Result CaptureContent RefusedLine) → IsAnswer text other → other ≡ answer)
