-- What came of a recording that is handled as it comes.
use Rattle.std.specs.Prelude.{◌≡◌, ℕ, ◌+◌, Bool, true, false, List, [], ◌++◌, Option, None, Some, Result, Ok, Err, reverse, ◌==◌, ◌&&◌, if◌then◌else◌}
use Rattle.mdp_arbiter.specs.Channel.{ListedChannel}
use Rattle.mdp_arbiter.specs.declared.arbiter.Standing.{Standing}
use Rattle.mdp_channel.specs.Channel.{ChannelContent}
use Rattle.mdp_crew.specs.Faults.{failed_writes, written_before}
use Rattle.mdp_pcap.specs.File.{IsPcap}
use Rattle.mdp_pcap.specs.Frame.{CapturedContent}
use Rattle.mdp_pcap.specs.Reader.{NumberedFrame, number_after, numbered}
use Rattle.mdp_pcap.specs.declared.addresses.FeedAddress.{FeedAddress}
use Rattle.mdp_pcap.specs.declared.layout.PcapFault.{PcapFault}
use Rattle.mdp_pcap.specs.declared.layout.PcapFault.TheVariants.{NotPcap, LinkType, RecordSize, CutShort}
use Rattle.mdp_pipeline.specs.Output.{BeginsInTextOrder}
use Rattle.mdp_pipeline.specs.Streamed.{EndsWith, channel_with, setup_of}
use Rattle.mdp_pipeline.specs.declared.ended.EndNote.{EndNote}
use Rattle.mdp_pipeline.specs.declared.note.Note.{Note}
use Rattle.mdp_recording.specs.Frames.{FramesShow, PrintsFrames, beside, lines_in}
use Rattle.mdp_recording.specs.Recorded.{BeginsFile, Follows, HoldsNothing}
use Rattle.mdp_recording.specs.declared.run.RecordedRun.{RecordedRun}
use Rattle.mdp_handler.specs.Faults.{end_line, note_lines, pcap_line}
use Rattle.mdp_handler.specs.Live.{Went}
use Rattle.mdp_handler.specs.declared.faults.Place.TheVariants.{Frame}
use Rattle.mdp_handler.specs.declared.recording.EarlyEnd.{EarlyEnd}
use Rattle.mdp_handler.specs.declared.recording.EarlyEnd.TheVariants.{Run, Input}
use Rattle.mdp_handler.specs.declared.recording.RecordingEnd.{RecordingEnd}
use Rattle.mdp_handler.specs.declared.recording.RecordingEnd.TheVariants.{Whole, Faulty, Refused}
use Rattle.mdp_handler.specs.declared.settings.Settings.{Settings}

-- the channel of a file, as the settings set a run up
abbrev pub listed_channel : ChannelContent → Settings → ListedChannel
listed_channel channel settings = channel_with channel.instruments (setup_of settings.window settings.start)

-- the addresses of its feeds, among which a frame's is looked for from the last line's on; no two are one
abbrev pub feeds_of : ChannelContent → List FeedAddress
feeds_of channel = reverse channel.addresses

-- The text of a file so far came. All that its whole frames show went out, and all that is told of them was told.
pub record FramesSoFar {A : Type 0} (channel : ListedChannel) (addresses : List FeedAddress) (text : List ℕ)
    (did : Went) (run : RecordedRun A) : Type 0 where
  pub sent : List ℕ
  pub notes : List Note
  pub follows : Follows (beside channel addresses sent notes) text run
  pub none : HoldsNothing run
  pub went_is : did.after ≡ did.before ++ sent
  pub told : did.Told (note_lines Frame notes)

-- Of a file's first frames a beginning of the whole text that they make went out, and all that is told of them was
-- told.
pub record HasBegunFrames (channel : ListedChannel) (addresses : List FeedAddress) (whole : List ℕ) (did : Went)
    : Type 0 where
  pub frames : List NumberedFrame
  pub first : BeginsFile whole frames
  pub begins : BeginsInTextOrder channel (lines_in addresses frames) did.before did.after
  pub shown : List ℕ
  pub notes : List Note
  pub shows : FramesShow channel addresses frames shown notes
  pub told : did.Told (note_lines Frame notes)

-- the fault of a recording, where it has one
abbrev pub fault_line : ℕ → Option PcapFault → List ℕ
fault_line number None = []
fault_line number (Some fault) = pcap_line number fault

-- A file holds frames, and has this fault behind them, or none. The text of these frames went out with its end. All
-- that is told of them was told, then what keeps the run from going on, if anything does, and the fault.
pub record HasEndedFrames (channel : ListedChannel) (addresses : List FeedAddress) (whole : List ℕ)
    (fault : Option PcapFault) (did : Went) : Type 0 where
  pub frames : List CapturedContent
  pub is : IsPcap whole (record { frames = frames; fault = fault })
  pub text : List ℕ
  pub went_is : did.after ≡ did.before ++ text
  pub notes : List Note
  pub standing : Standing
  pub prints : PrintsFrames (beside channel addresses text notes) (numbered 1 frames) standing
  pub note : Option EndNote
  pub note_is : EndsWith channel (lines_in addresses (numbered 1 frames)) note
  pub told : did.Told ((note_lines Frame notes ++ end_line note) ++ fault_line (number_after 1 frames) fault)

-- a file with this fault is refused, if no frame stands before the fault
abbrev pub refuses : PcapFault → Bool
refuses NotPcap = true
refuses LinkType = true
refuses RecordSize = false
refuses CutShort = false

-- the fault for which a file is refused, whose next frame would have this number
abbrev pub refusal_at : ℕ → Option PcapFault → Option PcapFault
refusal_at number None = None
refusal_at number (Some fault) = if number == 1 && refuses fault then Some fault else None

-- A file has a fault that doesn't refuse it: its frames went out, up to there.
pub record HasFaultyFrames (channel : ListedChannel) (addresses : List FeedAddress) (whole : List ℕ) (did : Went)
    : Type 0 where
  pub fault : PcapFault
  pub ended : HasEndedFrames channel addresses whole (Some fault) did
  pub behind : refuses fault ≡ true → ¬ (ended.frames ≡ [])

-- A file has no frame and a fault that refuses it. Nothing went out, and the fault alone was told.
pub record IsRefusedFile (whole : List ℕ) (did : Went) : Type 0 where
  pub fault : PcapFault
  pub is : IsPcap whole (record { frames = []; fault = Some fault })
  pub refused : refuses fault ≡ true
  pub went_is : did.after ≡ did.before
  pub told : did.Told (pcap_line 1 fault)

-- what came of a file of this text that was read to its end or its fault
abbrev pub EndsAs : ListedChannel → List FeedAddress → List ℕ → Went → RecordingEnd → Type 0
EndsAs channel addresses whole did Whole = HasEndedFrames channel addresses whole None did
EndsAs channel addresses whole did Faulty = HasFaultyFrames channel addresses whole did
EndsAs channel addresses whole did Refused = IsRefusedFile whole did

-- ---- reads and writes that failed

-- a run that ended for want of memory or a failed write tells how many bytes went out
abbrev pub CountsEarly : ℕ → EarlyEnd → Type 0
CountsEarly count (Run fault) = written_before fault ≡ count
CountsEarly count Input = Unit {0}

-- one write failed where the fault is the writer's, and none otherwise
abbrev pub writes_failed_early : EarlyEnd → ℕ
writes_failed_early (Run fault) = failed_writes fault
writes_failed_early Input = 0

abbrev pub FailsEarly : {T : Type 0} → Result T EarlyEnd → ℕ → ℕ → Type 0
FailsEarly (Ok x) before after = after ≡ before
FailsEarly (Err end) before after = after ≡ before + writes_failed_early end

-- one read failed where the fault is the reader's, and none otherwise
abbrev pub reads_failed_early : EarlyEnd → ℕ
reads_failed_early (Run fault) = 0
reads_failed_early Input = 1

abbrev pub ReadsEarly : {T : Type 0} → Result T EarlyEnd → ℕ → ℕ → Type 0
ReadsEarly (Ok x) before after = after ≡ before
ReadsEarly (Err end) before after = after ≡ before + reads_failed_early end
