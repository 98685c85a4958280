-- What the lines of a capture's text bring: each list of a capture is what its lines bring to it, in their order.
use Rattle.std.specs.Prelude.{◌≡◌, ◌≢◌, ℕ, min, List, [], ◌∷◌, ◌++◌, map, AllPairs}
use Rattle.std.specs.List.{enumerate_from, flat_map}
use Rattle.std.specs.Str.Lines.{lines}
use Rattle.mdp_templates.specs.Instrument.{AreFit}
use Rattle.mdp_templates.specs.declared.instrument.Instrument.{Instrument}
use Rattle.mdp_capture.specs.Capture.{CaptureContent}
use Rattle.mdp_capture.specs.Line.{LineContent, Blank, Listing, Packet, Closing, Skipped, line_of}
use Rattle.mdp_capture.specs.Record.{RecordContent, Received, Datagram, Close}
use Rattle.mdp_templates.specs.declared.feed.Feed.{Feed}
use Rattle.mdp_templates.specs.declared.feed.Feed.TheVariants as feeds
use Rattle.mdp_capture.specs.declared.skip.Skip.{Skip}
use Rattle.mdp_capture.specs.declared.skip.SkippedLine.{SkippedLine}

-- the number of a line, and what it says
pub record NumberedLine : Type 0 where
  pub number : ℕ
  pub content : LineContent

-- the line at a place; each line past 4294967295 bears that number
abbrev pub line_with_number : ℕ × List ℕ → NumberedLine
line_with_number line = record { number = min line.0 4294967295; content = line_of line.1 }

-- the lines of a text, counted from 1
abbrev pub numbered_lines : List ℕ → List NumberedLine
numbered_lines text = map line_with_number (enumerate_from 1 (lines text))

-- the instrument of an `I` line
abbrev pub instruments_in : LineContent → List Instrument
instruments_in (Listing instrument) = instrument ∷ []
instruments_in (Packet feed bytes) = []
instruments_in Closing = []
instruments_in Blank = []
instruments_in (Skipped skip) = []

-- the datagram of an `A`, a `B` or an `S` line, on the feed of that letter
abbrev pub datagrams_on : Feed → Feed → List ℕ → List Received
datagrams_on feeds.A feeds.A bytes = Datagram bytes ∷ []
datagrams_on feeds.A feeds.B bytes = []
datagrams_on feeds.A feeds.S bytes = []
datagrams_on feeds.B feeds.A bytes = []
datagrams_on feeds.B feeds.B bytes = Datagram bytes ∷ []
datagrams_on feeds.B feeds.S bytes = []
datagrams_on feeds.S feeds.A bytes = []
datagrams_on feeds.S feeds.B bytes = []
datagrams_on feeds.S feeds.S bytes = Datagram bytes ∷ []

-- the close of an `X` line, on feed S
abbrev pub closes_on : Feed → List Received
closes_on feeds.A = []
closes_on feeds.B = []
closes_on feeds.S = Close ∷ []

-- what a line brings on a feed
abbrev pub received_in : Feed → LineContent → List Received
received_in feed (Listing instrument) = []
received_in feed (Packet on bytes) = datagrams_on feed on bytes
received_in feed Closing = closes_on feed
received_in feed Blank = []
received_in feed (Skipped skip) = []

-- why a line is skipped that has none of the forms
abbrev pub skips_in : LineContent → List Skip
skips_in (Listing instrument) = []
skips_in (Packet feed bytes) = []
skips_in Closing = []
skips_in Blank = []
skips_in (Skipped skip) = skip ∷ []

abbrev pub instruments_of : NumberedLine → List Instrument
instruments_of line = instruments_in line.content

abbrev pub records_on : Feed → NumberedLine → List RecordContent
records_on feed line =
    map (λ (received : Received). record { line = line.number; received = received }) (received_in feed line.content)

abbrev pub skipped_of : NumberedLine → List SkippedLine
skipped_of line = map (λ (skip : Skip). record { line = line.number; skip = skip }) (skips_in line.content)

-- a capture of what these lines bring
pub record Brings (lines : List NumberedLine) (capture : CaptureContent) : Type 0 where
  pub instruments : capture.instruments ≡ flat_map instruments_of lines
  pub a : capture.a ≡ flat_map (records_on feeds.A) lines
  pub b : capture.b ≡ flat_map (records_on feeds.B) lines
  pub s : capture.s ≡ flat_map (records_on feeds.S) lines
  pub skipped : capture.skipped ≡ flat_map skipped_of lines

-- every instrument stands before the first record: in front no line brings a record, and behind none an instrument
pub record InstrumentsFirst (lines : List NumberedLine) : Type 0 where
  pub front : List NumberedLine
  pub back : List NumberedLine
  pub whole : lines ≡ front ++ back
  pub no_record : (feed : Feed) → flat_map (records_on feed) front ≡ []
  pub no_instrument : flat_map instruments_of back ≡ []

-- a text has this capture: 1 to 512 instruments of different ids and names, the legs of each calendar earlier among
-- them
pub record IsCaptureOf (text : List ℕ) (capture : CaptureContent) : Type 0 where
  pub brings : Brings (numbered_lines text) capture
  pub first : InstrumentsFirst (numbered_lines text)
  pub fit : AreFit capture.instruments
  pub names_differ : AllPairs (λ earlier later. earlier.name ≢ later.name) capture.instruments
