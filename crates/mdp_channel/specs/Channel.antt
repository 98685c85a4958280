-- The channel that a text says, or the first line of the text that is refused.
use Rattle.std.specs.Prelude.{◌≡◌, ◌+◌, ◌<◌, ◌==◌, ℕ, if◌then◌else◌, List, [], ◌∷◌, ◌++◌, length, take, slice_get, option_and_then, Option, Some, None, Result, Ok, Err}
use Rattle.std.specs.List.{flat_map, list_any}
use Rattle.std.specs.Option.{option_map}
use Rattle.mdp_capture.specs.Capture.{refusal_after}
use Rattle.mdp_capture.specs.declared.instrument_list.ListedLine.{ListedLine}
use Rattle.mdp_capture.specs.declared.instrument_list.ListedLine.TheVariants as answers
use Rattle.mdp_pcap.specs.Address.{is_at}
use Rattle.mdp_pcap.specs.declared.addresses.FeedAddress.{FeedAddress}
use Rattle.mdp_templates.specs.declared.instrument.Instrument.{Instrument}
use Rattle.mdp_channel.specs.ChannelLine.{ChannelLine, Passed, Listing, Address, NoForm, channel_lines}
use Rattle.mdp_channel.specs.declared.fault.ChannelFault.{ChannelFault}
use Rattle.mdp_channel.specs.declared.fault.ChannelFault.TheVariants as faults
use Rattle.mdp_channel.specs.declared.fault.LineRefusal.{LineRefusal}
use Rattle.mdp_channel.specs.declared.fault.LineRefusal.TheVariants as refusals

-- the instruments of a channel and the addresses of its feeds, both in the order of their lines
pub record ChannelContent : Type 0 where
  pub instruments : List Instrument
  pub addresses : List FeedAddress

abbrev pub no_channel : ChannelContent
no_channel = record { instruments = []; addresses = [] }

-- the instrument of a line, if it has one
abbrev pub instruments_of : ChannelLine → List Instrument
instruments_of Passed = []
instruments_of (Listing instrument) = instrument ∷ []
instruments_of (Address address) = []
instruments_of NoForm = []

-- the address of a line, if it has one
abbrev pub addresses_of : ChannelLine → List FeedAddress
addresses_of Passed = []
addresses_of (Listing instrument) = []
addresses_of (Address address) = address ∷ []
addresses_of NoForm = []

-- what lines say, all of them
abbrev pub channel_of : List ChannelLine → ChannelContent
channel_of lines = record { instruments = flat_map instruments_of lines; addresses = flat_map addresses_of lines }

-- a channel with what one line more says
abbrev pub with_line : ChannelContent → ChannelLine → ChannelContent
with_line channel line = record {
  instruments = channel.instruments ++ instruments_of line;
  addresses = channel.addresses ++ addresses_of line;
}

-- why a line is refused behind the lines that say this channel, if it is
abbrev pub line_refusal : ChannelContent → ChannelLine → Option LineRefusal
line_refusal channel Passed = None
line_refusal channel (Listing instrument) = option_map refusals.Listing (refusal_after channel.instruments instrument)
line_refusal channel (Address address) =
    if list_any (is_at address.group address.port) channel.addresses then Some refusals.AddressTwice else None
line_refusal channel NoForm = Some refusals.Form

-- the same of a line that says no address, by what is answered to its instrument
abbrev pub refusal_in : ListedLine → Option LineRefusal
refusal_in answers.Listed = None
refusal_in (answers.Refused refusal) = Some (refusals.Listing refusal)
refusal_in answers.NoSuchLine = Some refusals.Form

-- why the line at a place is refused, if there is one and it is
abbrev pub refusal_at : List ChannelLine → ℕ → Option LineRefusal
refusal_at lines place = option_and_then (line_refusal (channel_of (take place lines))) (slice_get lines place)

-- the line at this place is the first that is refused
pub record IsFirstRefused (lines : List ChannelLine) (place : ℕ) (refusal : LineRefusal) : Type 0 where
  pub refusal_is : refusal_at lines place ≡ Some refusal
  pub before : (earlier : ℕ) → earlier < place → refusal_at lines earlier ≡ None

-- no line is refused
abbrev pub NoneRefused : List ChannelLine → Type 0
NoneRefused lines = (place : ℕ) → refusal_at lines place ≡ None

-- the channel that all lines say, unless it lacks an instrument, or else an address
abbrev pub whole : ChannelContent → Result ChannelContent ChannelFault
whole channel =
    if length channel.instruments == 0 then Err faults.NoInstrument
    else if length channel.addresses == 0 then Err faults.NoAddress
    else Ok channel

-- what a text comes to: the fault of its first line that is refused, or what all its lines say
pub data IsAnswer (text : List ℕ) (answer : Result ChannelContent ChannelFault) : Type 0 where
  at_line : (place : ℕ) (refusal : LineRefusal) → IsFirstRefused (channel_lines text) place refusal
      → answer ≡ Err (faults.Line (place + 1) refusal) → IsAnswer text answer
  at_end : NoneRefused (channel_lines text) → answer ≡ whole (channel_of (channel_lines text)) → IsAnswer text answer

-- a fault is what the text comes to; want of memory says nothing of the text
abbrev pub IsFaultOf : List ℕ → ChannelFault → Type 0
IsFaultOf text (faults.Line line refusal) = IsAnswer text (Err (faults.Line line refusal))
IsFaultOf text faults.NoInstrument = IsAnswer text (Err faults.NoInstrument)
IsFaultOf text faults.NoAddress = IsAnswer text (Err faults.NoAddress)
IsFaultOf text faults.Memory = Unit {0}

-- each text comes to one answer and no other
abbrev pub HasOneAnswer : List ℕ → Type 0
HasOneAnswer text =
    (answer : Result ChannelContent ChannelFault) × IsAnswer text answer
    × ((other : Result ChannelContent ChannelFault) → IsAnswer text other → other ≡ answer)
