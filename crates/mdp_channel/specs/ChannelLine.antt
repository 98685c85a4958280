-- What one line of a channel file says, and the lines of a text.
use Rattle.std.specs.Prelude.{ℕ, ◌==◌, ◌||◌, Bool, if◌then◌else◌, List, length, map, slice_index, Option, Some, None}
use Rattle.std.specs.Str.Lines.{lines}
use Rattle.mdp_capture.specs.Line.{line_of}
use Rattle.mdp_capture.specs.Listed.{instrument_said}
use Rattle.mdp_pcap.specs.declared.addresses.FeedAddress.{FeedAddress}
use Rattle.mdp_templates.specs.declared.instrument.Instrument.{Instrument}
use Rattle.mdp_channel.specs.Address.{address_of}

-- nothing, where the line is passed over; an instrument; an address of a feed; or nothing that a line may say
pub data ChannelLine : Type 0 where
  Passed : ChannelLine
  Listing : Instrument → ChannelLine
  Address : FeedAddress → ChannelLine
  NoForm : ChannelLine

-- whether a line is empty, or a comment that begins with `#`
abbrev pub is_passed_over : List ℕ → Bool
is_passed_over line = length line == 0 || slice_index line 0 == 35

-- a line that isn't passed over, by the address that it says, if it says one, and by the instrument
abbrev pub said_line : Option FeedAddress → Option Instrument → ChannelLine
said_line (Some address) instrument = Address address
said_line None (Some instrument) = Listing instrument
said_line None None = NoForm

-- what a line says, without its line feed and the carriage return before it; its instrument is that of a capture's line
abbrev pub channel_line : List ℕ → ChannelLine
channel_line line =
    if is_passed_over line then Passed else said_line (address_of line) (instrument_said (line_of line))

-- what the lines of a text say; a line ends as in a capture
abbrev pub channel_lines : List ℕ → List ChannelLine
channel_lines text = map channel_line (lines text)
