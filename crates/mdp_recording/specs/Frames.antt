-- The frames of a recording as lines of a capture: what each brings, and what is told of it.
use Rattle.std.specs.Prelude.{◌≡◌, ℕ, ◌||◌, Bool, true, false, if◌then◌else◌, List, [], ◌∷◌, ◌++◌, map, Option, Some, None}
use Rattle.std.specs.List.{AllByRecursion}
use Rattle.mdp_arbiter.specs.Accepted.{Event}
use Rattle.mdp_arbiter.specs.Channel.{Channel, ListedChannel, channel_of}
use Rattle.mdp_arbiter.specs.declared.arbiter.Standing.{Standing}
use Rattle.mdp_capture.specs.Line.{LineContent, Blank, Packet, Skipped}
use Rattle.mdp_capture.specs.Lines.{NumberedLine}
use Rattle.mdp_capture.specs.declared.skip.Skip.TheVariants.{TooLong as SkippedTooLong}
use Rattle.mdp_templates.specs.declared.feed.Feed.{Feed}
use Rattle.mdp_pcap.specs.Frame.{frame_of}
use Rattle.mdp_pcap.specs.Outcome.{OutcomeContent, NoFeed, Datagram, TooLong, Cut, Fragment, Broken, outcome_of}
use Rattle.mdp_pcap.specs.Reader.{NumberedFrame}
use Rattle.mdp_pcap.specs.declared.addresses.FeedAddress.{FeedAddress}
use Rattle.mdp_pipeline.specs.declared.note.Note.{Note}
use Rattle.mdp_pipeline.specs.declared.note.Note.TheVariants as notes
use Rattle.mdp_pipeline.specs.Notes.{ReadLine, IsReadLine}
use Rattle.mdp_pipeline.specs.Notes.{notes_of as notes_of_line, notes_from as notes_of_lines}
use Rattle.mdp_pipeline.specs.Reading.{events_of}
use Rattle.mdp_pipeline.specs.Streamed.{LinesShow, PrintsLines}

-- what a frame brings on the feeds of these addresses
abbrev pub outcome_in : List FeedAddress → NumberedFrame → OutcomeContent
outcome_in addresses frame = outcome_of addresses (frame_of frame.frame)

-- a datagram on a feed, one that is skipped since it is too long, or nothing
abbrev pub content_of : OutcomeContent → LineContent
content_of NoFeed = Blank
content_of (Datagram feed bytes) = Packet feed bytes
content_of (TooLong feed) = Skipped SkippedTooLong
content_of (Cut feed) = Blank
content_of (Fragment feed) = Blank
content_of (Broken feed) = Blank

-- a frame as a line of a capture that has its number
abbrev pub line_of : List FeedAddress → NumberedFrame → NumberedLine
line_of addresses frame = record { number = frame.number; content = content_of (outcome_in addresses frame) }

abbrev pub lines_in : List FeedAddress → List NumberedFrame → List NumberedLine
lines_in addresses frames = map (line_of addresses) frames

-- ---- what is told

-- the group or the port was not captured
abbrev pub is_cut_away : OutcomeContent → Bool
is_cut_away NoFeed = false
is_cut_away (Datagram feed bytes) = false
is_cut_away (TooLong feed) = false
is_cut_away (Cut None) = true
is_cut_away (Cut (Some feed)) = false
is_cut_away (Fragment feed) = false
is_cut_away (Broken feed) = false

-- That a frame's group or port was not captured is told once in a run.
abbrev pub cut_notes : Bool → ℕ → Option Feed → List Note
cut_notes told frame (Some feed) = notes.Cut frame (Some feed) ∷ []
cut_notes told frame None = if told then [] else notes.Cut frame None ∷ []

-- what is told of a frame whose datagram is lost in the recording
abbrev pub own_notes : Bool → ℕ → OutcomeContent → List Note
own_notes told frame NoFeed = []
own_notes told frame (Datagram feed bytes) = []
own_notes told frame (TooLong feed) = []
own_notes told frame (Cut feed) = cut_notes told frame feed
own_notes told frame (Fragment feed) = notes.Fragment frame feed ∷ []
own_notes told frame (Broken feed) = notes.Broken frame feed ∷ []

-- a frame, and its line with the reading of the record that it brings, if it brings one
pub record ReadFrame : Type 0 where
  pub frame : NumberedFrame
  pub read : ReadLine

pub record IsReadFrame (addresses : List FeedAddress) (read : ReadFrame) : Type 0 where
  pub line_is : read.read.line ≡ line_of addresses read.frame
  pub is_read : IsReadLine read.read

abbrev pub frames_of : List ReadFrame → List NumberedFrame
frames_of reads = map (λ (read : ReadFrame). read.frame) reads

abbrev pub lines_read : List ReadFrame → List ReadLine
lines_read reads = map (λ (read : ReadFrame). read.read) reads

abbrev pub is_told_after : List FeedAddress → Bool → ReadFrame → Bool
is_told_after addresses told read = told || is_cut_away (outcome_in addresses read.frame)

-- a frame's own note, and then what is told of its line
abbrev pub notes_of : Channel → List FeedAddress → Bool → List Event → ReadFrame → List Note
notes_of channel addresses told es read =
    own_notes told read.frame.number (outcome_in addresses read.frame) ++ notes_of_line channel es read.read

-- what is told of frames, the first of which comes after these events
abbrev pub notes_from : Channel → List FeedAddress → Bool → List Event → List ReadFrame → List Note
notes_from channel addresses told es [] = []
notes_from channel addresses told es (read ∷ rest) =
    notes_of channel addresses told es read
    ++ notes_from channel addresses (is_told_after addresses told read) (es ++ events_of read.read.readings) rest

-- a channel, its feeds' addresses, and what was sent and told of frames
pub record Beside : Type 0 where
  pub channel : ListedChannel
  pub addresses : List FeedAddress
  pub sent : List ℕ
  pub told : List Note

abbrev pub beside : ListedChannel → List FeedAddress → List ℕ → List Note → Beside
beside channel addresses sent told = record { channel = channel; addresses = addresses; sent = sent; told = told }

-- This is told of frames, and of it those notes of their lines.
pub record TellsFrames (channel : ListedChannel) (addresses : List FeedAddress) (frames : List NumberedFrame)
    (of_lines told : List Note) : Type 0 where
  pub reads : List ReadFrame
  pub of : frames_of reads ≡ frames
  pub each : AllByRecursion (IsReadFrame addresses) reads
  pub of_lines_are : of_lines ≡ notes_of_lines (channel_of channel) [] (lines_read reads)
  pub told_are : told ≡ notes_from (channel_of channel) addresses false [] reads

-- ---- what is shown

-- Frames show what their lines show, and this is told of them.
pub record FramesShow (channel : ListedChannel) (addresses : List FeedAddress) (frames : List NumberedFrame)
    (text : List ℕ) (told : List Note) : Type 0 where
  pub of_lines : List Note
  pub show : LinesShow channel (lines_in addresses frames) text of_lines
  pub tells : TellsFrames channel addresses frames of_lines told

-- the text that a run over a recording sends is that of a run over the capture of its frames' lines
pub record PrintsFrames (by : Beside) (frames : List NumberedFrame) (standing : Standing) : Type 0 where
  pub of_lines : List Note
  pub prints : PrintsLines by.channel (lines_in by.addresses frames) of_lines by.sent standing
  pub tells : TellsFrames by.channel by.addresses frames of_lines by.told
