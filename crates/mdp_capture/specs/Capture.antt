-- The capture of a text, or its first refusal, computed line by line; `Lines` says by the lines alone what it holds.
use Rattle.std.specs.Prelude.{ℕ, ℤ, ◌+◌, ◌==◌, ◌&&◌, ◌||◌, not, nat_le, nat_lt, min, Bool, true, false, if◌then◌else◌, List, [], ◌∷◌, ◌++◌, length, Option, Some, None, Result, Ok, Err, ◌≡◌}
use Rattle.std.specs.List.{list_any}
use Rattle.std.specs.Ordering.{int_eq}
use Rattle.std.specs.Str.{bytes_eq}
use Rattle.std.specs.Str.Lines.{lines}
use Rattle.mdp_templates.specs.declared.instrument.Instrument.{Instrument}
use Rattle.mdp_templates.specs.declared.instrument.InstrumentKind.{InstrumentKind}
use Rattle.mdp_templates.specs.declared.instrument.InstrumentKind.TheVariants.{Outright, Calendar}
use Rattle.mdp_capture.specs.Line.{LineContent, Blank, Listing, Packet, Closing, Skipped, line_of}
use Rattle.mdp_capture.specs.Record.{RecordContent, Datagram, Close}
use Rattle.mdp_templates.specs.declared.feed.Feed.{Feed}
use Rattle.mdp_templates.specs.declared.feed.Feed.TheVariants as feeds
use Rattle.mdp_capture.specs.declared.skip.SkippedLine.{SkippedLine}
use Rattle.mdp_capture.specs.declared.fault.CaptureFault.{CaptureFault}
use Rattle.mdp_capture.specs.declared.fault.CaptureFault.TheVariants as faults
use Rattle.mdp_capture.specs.declared.fault.CaptureRefusal.{CaptureRefusal}
use Rattle.mdp_capture.specs.declared.fault.CaptureRefusal.TheVariants.{DuplicateId, UnknownLeg, TooMany, NoInstrument, InstrumentLate}

-- the instruments in the order of their lines, the records of the three feeds, and the lines that were skipped
pub record CaptureContent : Type 0 where
  pub instruments : List Instrument
  pub a : List RecordContent
  pub b : List RecordContent
  pub s : List RecordContent
  pub skipped : List SkippedLine

-- the line at which a run is refused, 0 where it is no line, and why
pub record RefusedLine : Type 0 where
  pub line : ℕ
  pub refusal : CaptureRefusal

-- a capture with no line
abbrev pub no_capture : CaptureContent
no_capture = record { instruments = []; a = []; b = []; s = []; skipped = [] }

-- whether one of the instruments has this one's id or name
abbrev pub is_listed : List Instrument → Instrument → Bool
is_listed instruments instrument =
    list_any (λ other. int_eq other.id instrument.id) instruments
    || list_any (λ other. bytes_eq other.name instrument.name) instruments

abbrev pub is_outright : InstrumentKind → Bool
is_outright Outright = true
is_outright (Calendar leg1 leg2) = false

-- whether one of the instruments is an outright of this id
abbrev pub has_outright : List Instrument → ℤ → Bool
has_outright instruments id = list_any (λ other. int_eq other.id id && is_outright other.kind) instruments

-- whether these are the ids of two different outrights among the instruments
abbrev pub are_legs : List Instrument → ℤ → ℤ → Bool
are_legs instruments leg1 leg2 =
    not (int_eq leg1 leg2) && has_outright instruments leg1 && has_outright instruments leg2

-- whether the legs stand among the instruments; an outright needs none
abbrev pub has_legs : List Instrument → InstrumentKind → Bool
has_legs instruments Outright = true
has_legs instruments (Calendar leg1 leg2) = are_legs instruments leg1 leg2

-- whether a record stands on one of the feeds
abbrev pub has_record : CaptureContent → Bool
has_record capture = nat_lt 0 (length capture.a) || nat_lt 0 (length capture.b) || nat_lt 0 (length capture.s)

-- why an instrument is refused after those that are listed: the first of the reasons that holds
abbrev pub refusal_after : List Instrument → Instrument → Option CaptureRefusal
refusal_after listed instrument =
    if nat_le 512 (length listed) then Some TooMany
    else if is_listed listed instrument then Some DuplicateId
    else if has_legs listed instrument.kind then None
    else Some UnknownLeg

-- why the run is refused at the line of an instrument: it is late, or refused after those that are listed
abbrev pub refusal_of : CaptureContent → Instrument → Option CaptureRefusal
refusal_of capture instrument =
    if has_record capture then Some InstrumentLate else refusal_after capture.instruments instrument

-- the capture with one more instrument, unless the run is refused at its line
abbrev pub unless_refused : ℕ → Option CaptureRefusal → CaptureContent → Result CaptureContent RefusedLine
unless_refused line (Some refusal) capture = Err (record { line = line; refusal = refusal })
unless_refused line None capture = Ok capture

abbrev pub add_instrument : ℕ → Instrument → CaptureContent → Result CaptureContent RefusedLine
add_instrument line instrument capture =
    unless_refused line (refusal_of capture instrument)
    (record capture { instruments = capture.instruments ++ instrument ∷ [] })

-- the capture with one more record on a feed
abbrev pub add_record : Feed → RecordContent → CaptureContent → CaptureContent
add_record feeds.A entry capture = record capture { a = capture.a ++ entry ∷ [] }
add_record feeds.B entry capture = record capture { b = capture.b ++ entry ∷ [] }
add_record feeds.S entry capture = record capture { s = capture.s ++ entry ∷ [] }

-- the capture with what one line says
abbrev pub add_line : ℕ → LineContent → CaptureContent → Result CaptureContent RefusedLine
add_line line Blank capture = Ok capture
add_line line (Listing instrument) capture = add_instrument line instrument capture
add_line line (Packet feed bytes) capture =
    Ok (add_record feed (record { line = line; received = Datagram bytes }) capture)
add_line line Closing capture = Ok (add_record feeds.S (record { line = line; received = Close }) capture)
add_line line (Skipped skip) capture =
    Ok (record capture { skipped = capture.skipped ++ (record { line = line; skip = skip }) ∷ [] })

-- the number of the line after this one; from 4294967295 on all lines bear that number
abbrev pub next_line : ℕ → ℕ
next_line line = min (line + 1) 4294967295

-- a step after another, unless the run is refused before it
abbrev pub and_then : Result CaptureContent RefusedLine → (CaptureContent → Result CaptureContent RefusedLine)
    → Result CaptureContent RefusedLine
and_then (Ok capture) next = next capture
and_then (Err refused) next = Err refused

-- the capture with what these lines say, the first of which has this number
abbrev pub add_lines : ℕ → List (List ℕ) → CaptureContent → Result CaptureContent RefusedLine
add_lines line [] capture = Ok capture
add_lines line (text ∷ rest) capture = and_then (add_line line (line_of text) capture) (add_lines (next_line line) rest)

-- a run needs an instrument
abbrev pub needs_instrument : Result CaptureContent RefusedLine → Result CaptureContent RefusedLine
needs_instrument (Ok capture) =
    if length capture.instruments == 0 then Err (record { line = 0; refusal = NoInstrument }) else Ok capture
needs_instrument (Err refused) = Err refused

-- the capture of a text, or the first refusal of the run; a line ends with a line feed or, before it, one carriage
-- return, and the last line may lack both
abbrev pub capture_of : List ℕ → Result CaptureContent RefusedLine
capture_of text = needs_instrument (add_lines 1 (lines text) no_capture)

-- a refusal of the run is the one that the text has; want of memory and of input say nothing of the text
abbrev pub IsFaultOf : Result CaptureContent RefusedLine → CaptureFault → Type 0
IsFaultOf answer (faults.Refused line refusal) = answer ≡ Err (record { line = line; refusal = refusal })
IsFaultOf answer faults.Memory = Unit {0}
IsFaultOf answer faults.Input = Unit {0}

-- what a fault in taking in lines says: this of a refusal, nothing of want of memory; a read can't fail there
abbrev pub IfRefused : CaptureFault → (RefusedLine → Type 0) → Type 0
IfRefused (faults.Refused line refusal) says = says (record { line = line; refusal = refusal })
IfRefused faults.Memory says = Unit {0}
IfRefused faults.Input says = ⊥

-- a refusal is the one that this answer is
abbrev pub IsTextFaultOf : Result CaptureContent RefusedLine → CaptureFault → Type 0
IsTextFaultOf answer fault = IfRefused fault (λ refused. answer ≡ Err refused)
