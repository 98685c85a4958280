-- What a run over a recording has come to.
use Rattle.std.specs.Prelude.{◌≡◌, ◌<◌, ℕ, Bool, false, List, [], ◌∷◌, ◌++◌, length}
use Rattle.std.specs.List.{AllByRecursion}
use Rattle.mdp_arbiter.specs.Channel.{channel_of}
use Rattle.mdp_pcap.specs.File.{PcapContent, IsPcap}
use Rattle.mdp_pcap.specs.Outcome.{OutcomeContent}
use Rattle.mdp_pcap.specs.Reader.{NumberedFrame, IsReadWhole, at_first, content_of, ending_of, number_after, numbered}
use Rattle.mdp_pcap.specs.declared.addresses.FeedAddress.{FeedAddress}
use Rattle.mdp_pipeline.specs.declared.ended.EndedRun.{EndedRun}
use Rattle.mdp_pipeline.specs.declared.note.Note.{Note}
use Rattle.mdp_pipeline.specs.Notes.{readings_in}
use Rattle.mdp_pipeline.specs.Running.{HasRun}
use Rattle.mdp_recording.specs.Frames.{Beside, beside, ReadFrame, IsReadFrame, frames_of, is_told_after, lines_read, notes_from, outcome_in}
use Rattle.mdp_recording.specs.declared.datagrams.FramedDatagrams.{FramedDatagrams}
use Rattle.mdp_recording.specs.declared.run.RecordedRun.{RecordedRun}

-- whether it is told, after these frames, that one's group or port was not captured
abbrev pub told_after : List FeedAddress → Bool → List ReadFrame → Bool
told_after addresses told [] = told
told_after addresses told (read ∷ rest) = told_after addresses (is_told_after addresses told read) rest

-- These frames were taken in. What was sent of the text, and told, stands beside; the rest is held.
pub record HoldsFrames {A : Type 0} (by : Beside) (now : FramedDatagrams A) (frames : List NumberedFrame)
    : Type 0 where
  pub addresses_are : now.addresses ≡ by.addresses
  pub reads : List ReadFrame
  pub of : frames_of reads ≡ frames
  pub each : AllByRecursion (IsReadFrame by.addresses) reads
  pub has_run : HasRun by.channel (readings_in (lines_read reads)) by.sent now.run
  pub told_is : now.has_cut ≡ told_after by.addresses false reads
  pub notes_are : by.told ++ now.notes.items ≡ notes_from (channel_of by.channel) by.addresses false [] reads

-- a frame of this number that brings this was taken in, whatever was before
abbrev pub TakesOutcome : {A : Type 0} → OutcomeContent → ℕ → FramedDatagrams A → FramedDatagrams A → Type 0
TakesOutcome outcome number old new =
    (by : Beside) (frames : List NumberedFrame) (frame : NumberedFrame) → frame.number ≡ number
    → outcome_in by.addresses frame ≡ outcome → HoldsFrames by old frames → HoldsFrames by new (frames ++ frame ∷ [])

-- this is told too, and all else is as it was
pub record HasTold {A : Type 0} (notes : List Note) (old new : FramedDatagrams A) : Type 0 where
  pub notes_are : new.notes.items ≡ old.notes.items ++ notes
  pub run_is : new.run ≡ old.run
  pub addresses_are : new.addresses ≡ old.addresses
  pub told_is : new.has_cut ≡ old.has_cut

-- ---- a file that comes piece by piece

-- this text of a file came; what was sent and told of its frames stands beside, and the rest is held
pub record Follows {A : Type 0} (by : Beside) (text : List ℕ) (now : RecordedRun A) : Type 0 where
  pub instruments_are : now.instruments ≡ by.channel.listed
  pub listed : 0 < length by.channel.listed
  pub read : IsReadWhole (HoldsFrames by now.datagrams) at_first (content_of now.reader) text

-- it holds no text, and nothing that is to be told
abbrev pub HoldsNothing : {A : Type 0} → RecordedRun A → Type 0
HoldsNothing now = (now.datagrams.run.handler.held ≡ []) × (now.datagrams.notes.items ≡ [])

-- a piece was taken in, whatever came before it
abbrev pub TakesPiece : {A : Type 0} → List ℕ → RecordedRun A → RecordedRun A → Type 0
TakesPiece piece old new = (by : Beside) (text : List ℕ) → Follows by text old → Follows by (text ++ piece) new

-- what it holds is told too
abbrev pub and_told : {A : Type 0} → RecordedRun A → Beside → Beside
and_told old by = beside by.channel by.addresses by.sent (by.told ++ old.datagrams.notes.items)

-- what it holds is sent and told too
abbrev pub and_handed_on : {A : Type 0} → RecordedRun A → Beside → Beside
and_handed_on old by = beside by.channel by.addresses (by.sent ++ old.datagrams.run.handler.held)
    (by.told ++ old.datagrams.notes.items)

-- what it held was sent and told, and it holds no more
pub record HasHandedOn {A : Type 0} (old new : RecordedRun A) : Type 0 where
  pub none : HoldsNothing new
  pub same : content_of new.reader ≡ content_of old.reader
  pub stands : (by : Beside) (text : List ℕ) → Follows by text old → Follows (and_handed_on old by) text new

-- these frames are the first of a file
pub record BeginsFile (text : List ℕ) (frames : List NumberedFrame) : Type 0 where
  pub pcap : PcapContent
  pub is : IsPcap text pcap
  pub rest : List NumberedFrame
  pub of : numbered 1 pcap.frames ≡ frames ++ rest

-- ---- the end of a file

-- all these frames were taken in; what was sent of their text, and all that is told of them, stands beside
pub record EndsFrames {A : Type 0} (by : Beside) (frames : List NumberedFrame) (ended : EndedRun A) : Type 0 where
  pub instruments_are : ended.instruments ≡ by.channel.listed
  pub listed : 0 < length by.channel.listed
  pub reads : List ReadFrame
  pub of : frames_of reads ≡ frames
  pub each : AllByRecursion (IsReadFrame by.addresses) reads
  pub has_run : HasRun by.channel (readings_in (lines_read reads)) by.sent ended.run
  pub notes_are : by.told ≡ notes_from (channel_of by.channel) by.addresses false [] reads

-- A file has ended, with its frames and their numbers up to its end or its first fault, which is the reader's.
pub record EndsRecording {A : Type 0} (by : Beside) (text : List ℕ) (old : RecordedRun A) (ended : EndedRun A)
    : Type 0 where
  pub pcap : PcapContent
  pub is : IsPcap text pcap
  pub fault_is : pcap.fault ≡ ending_of (content_of old.reader)
  pub number_is : number_after 1 pcap.frames ≡ (content_of old.reader).number
  pub ends : EndsFrames by (numbered 1 pcap.frames) ended

abbrev pub EndsAsRecording : {A : Type 0} → RecordedRun A → EndedRun A → Type 0
EndsAsRecording old ended =
    (by : Beside) (text : List ℕ) → Follows by text old → EndsRecording (and_told old by) text old ended
