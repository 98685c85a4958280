-- What each exit status says: of the words, of the input, of what the output took, and of what was
-- told.
use Rattle.std.specs.Prelude.{◌≡◌, ℕ, ◌+◌, Bool, true, false, List, [], ◌++◌, ◌⊎◌, Option, None, Some, Ok, Err, IfSome}
use denote.Ref.{Bor}
use Rattle.clap.specs.Words.{Text}
use Rattle.mdp_channel.specs.Channel.{ChannelContent, IsAnswer}
use Rattle.mdp_channel.specs.declared.fault.ChannelFault.{ChannelFault}
use Rattle.mdp_arbiter.specs.Channel.{ListedChannel}
use Rattle.mdp_pcap.specs.declared.addresses.FeedAddress.{FeedAddress}
use Rattle.mdp_capture.specs.Capture.{CaptureContent, capture_of}
use Rattle.mdp_capture.specs.declared.fault.CaptureRefusal.{CaptureRefusal}
use Rattle.mdp_print.specs.Written.{HasCounted}
use Rattle.mdp_pipeline.specs.Streamed.{Setup, setup_of}
use Rattle.mdp_handler.specs.CommandLine.{AreSettings, AsksToRun, AsksToShow, HasFault}
use Rattle.mdp_handler.specs.declared.settings.Settings.{Settings}
use Rattle.mdp_handler.specs.Faults.{channel_line, input_line, memory_line, output_line, refused_line, skipped_lines, unread_line}
use Rattle.mdp_handler.specs.Live.{HasBegunLines, HasEnded, IsInput, IsRefusedBehind, Went, and_then, went}
use Rattle.mdp_handler.specs.Recording.{HasBegunFrames, HasEndedFrames, HasFaultyFrames, IsRefusedFile, feeds_of, listed_channel}
use Rattle.mdp_handler.specs.Printed.{HasBegun, HasPrinted}

-- so many failures more were counted
abbrev pub Fails : {S : Type 0} → (S → ℕ) → S → S → ℕ → Type 0
Fails failed old new count = failed new ≡ failed old + count

-- what is known of files: that one of this name has this text, and that one can't be read
pub record Files : Type 1 where
  pub IsText : Text → List ℕ → Type 0
  pub IsUnread : Text → Type 0

abbrev pub files_known : (Text → List ℕ → Type 0) → (Text → Type 0) → Files
files_known IsText IsUnread = record { IsText = IsText; IsUnread = IsUnread }

-- what is read: an input, and files
pub record Sources : Type 1 where
  pub input : Option (List ℕ)
  pub files : Files

abbrev pub sources_of : Option (List ℕ) → Files → Sources
sources_of input files = record { input = input; files = files }

-- the file of this name says this channel
abbrev pub IsChannel : Files → Text → ChannelContent → Type 0
IsChannel files name channel = (text : List ℕ) × files.IsText name text × IsAnswer text (Ok channel)

-- how a run is asked for: over a whole capture, over one as it comes, or over a recording of the channel whose file has
-- this name
pub data Way : Type 0 where
  Whole : Way
  Live : Way
  Channel : (name : Text) → Way

abbrev pub way_of : Bool → Option (Bor Text) → Way
way_of live (Some name) = Channel name.now
way_of true None = Live
way_of false None = Whole

abbrev pub way_asked : Settings → Way
way_asked settings = way_of settings.live settings.channel

-- the input is the text of this capture, where the reader tells its text
abbrev pub HasCapture : Option (List ℕ) → CaptureContent → Type 0
HasCapture input capture = IfSome input (λ text. capture_of text ≡ Ok capture)

-- A run over a whole capture to its end has printed its text, and told each skipped line.
abbrev pub HasRunWhole : Option (List ℕ) → Settings → List ℕ → List ℕ → (List ℕ → Type 0) → Type 0
HasRunWhole input settings before after Told =
    (capture : CaptureContent) × HasCapture input capture × HasPrinted capture settings before after
    × Told (skipped_lines capture.skipped)

-- With `--live` a run is over the capture as it comes.
abbrev pub setup_asked : Settings → Setup
setup_asked settings = setup_of settings.window settings.start

abbrev pub HasRunLive : Option (List ℕ) → Settings → List ℕ → List ℕ → (List ℕ → Type 0) → Type 0
HasRunLive input settings before after Told =
    (whole : List ℕ) × IsInput input whole × HasEnded (setup_asked settings) whole (went before after Told)

-- With `--channel` it is over a recording of the channel whose file has that name.
abbrev pub HasEndedRecording : ListedChannel → List FeedAddress → Option (List ℕ) → Went → Type 0
HasEndedRecording channel addresses input did =
    (whole : List ℕ) × IsInput input whole × HasEndedFrames channel addresses whole None did

abbrev pub HasRunChannel : Text → Sources → Settings → Went → Type 0
HasRunChannel name sources settings did =
    (channel : ChannelContent) × IsChannel sources.files name channel
    × HasEndedRecording (listed_channel channel settings) (feeds_of channel) sources.input did

abbrev pub HasRun : Way → Sources → Settings → Went → Type 0
HasRun Whole sources settings did = HasRunWhole sources.input settings did.before did.after did.Told
HasRun Live sources settings did = HasRunLive sources.input settings did.before did.after did.Told
HasRun (Channel name) sources settings did = HasRunChannel name sources settings did

-- Status 0: a run to its end; or the help or the version was shown, and nothing told.
abbrev pub HasDone : List Text → Sources → Went → Type 0
HasDone words sources did =
    (AsksToRun words
    × ((settings : Settings) × AreSettings words settings × HasRun (way_asked settings) sources settings did))
    ⊎ (AsksToShow words × ((text : List ℕ) × (did.after ≡ did.before ++ text)) × did.Told [])

-- ---- an early end

-- What the program did to its outputs: how many writes failed, what the output had taken before and
-- has taken after, and what was told.
pub record Effects : Type 1 where
  pub FailedWrites : ℕ → Type 0
  pub before : List ℕ
  pub after : List ℕ
  pub Told : List ℕ → Type 0

abbrev pub effects : (ℕ → Type 0) → List ℕ → List ℕ → (List ℕ → Type 0) → Effects
effects FailedWrites before after Told =
    record { FailedWrites = FailedWrites; before = before; after = after; Told = Told }

-- Memory ran out before anything was printed, and that alone is told.
abbrev pub HasNoMemory : Effects → Type 0
HasNoMemory did = did.FailedWrites 0 × (did.after ≡ did.before) × did.Told memory_line

-- A write failed, and after these lines it is told after how many bytes.
abbrev pub HasFailedWrite : List ℕ → Effects → Type 0
HasFailedWrite lines did =
    did.FailedWrites 1 × ((written : ℕ) × HasCounted did.before did.after written
    × did.Told (lines ++ output_line written))

-- A run over a capture ended early, for want of memory or by a failed write: a front of its text
-- was printed, and after each skipped line it is told why it ended.
abbrev pub HasStopped : CaptureContent → Settings → Effects → Type 0
HasStopped capture settings did =
    let lines = skipped_lines capture.skipped in
    HasBegun capture settings did.before did.after
    × ((did.FailedWrites 0 × did.Told (lines ++ memory_line)) ⊎ HasFailedWrite lines did)

-- A read failed before anything was printed, and that alone is told; or a run over the capture
-- ended early.
abbrev pub HasFailedWhole : Option (List ℕ) → Settings → (ℕ → Type 0) → Effects → Type 0
HasFailedWhole input settings FailedReads did =
    (FailedReads 1 × did.FailedWrites 0 × (did.after ≡ did.before) × did.Told input_line)
    ⊎ (FailedReads 0 × ((capture : CaptureContent) × HasCapture input capture
    × HasStopped capture settings did))

-- Of a capture that is handled as it comes a beginning was printed, for want of memory or since a read or a write
-- failed. After what is told of its first lines it is told why.
abbrev pub HasBegunLive : Option (List ℕ) → Settings → Effects → List ℕ → Type 0
HasBegunLive input settings did why =
    (whole : List ℕ) × IsInput input whole
    × HasBegunLines (setup_asked settings) whole (and_then (went did.before did.after did.Told) why)

abbrev pub HasFailedLive : Option (List ℕ) → Settings → (ℕ → Type 0) → Effects → Type 0
HasFailedLive input settings FailedReads did =
    (FailedReads 1 × did.FailedWrites 0 × HasBegunLive input settings did input_line)
    ⊎ (FailedReads 0 × ((did.FailedWrites 0 × HasBegunLive input settings did memory_line)
    ⊎ (did.FailedWrites 1 × ((written : ℕ) × HasCounted did.before did.after written
    × HasBegunLive input settings did (output_line written)))))

-- Of a recording a beginning was printed, for want of memory or since a read or a write failed.
abbrev pub HasBegunRecording : ListedChannel → List FeedAddress → Option (List ℕ) → Effects → List ℕ → Type 0
HasBegunRecording channel addresses input did why =
    (whole : List ℕ) × IsInput input whole
    × HasBegunFrames channel addresses whole (and_then (went did.before did.after did.Told) why)

-- Or its frames were printed up to its first fault, as if it ended there.
abbrev pub HasFaultyRecording : ListedChannel → List FeedAddress → Option (List ℕ) → Effects → Type 0
HasFaultyRecording channel addresses input did =
    (whole : List ℕ) × IsInput input whole
    × HasFaultyFrames channel addresses whole (went did.before did.after did.Told)

abbrev pub HasFailedRecording : ListedChannel → List FeedAddress → Option (List ℕ) → (ℕ → Type 0) → Effects → Type 0
HasFailedRecording channel addresses input FailedReads did =
    (FailedReads 1 × did.FailedWrites 0 × HasBegunRecording channel addresses input did input_line)
    ⊎ (FailedReads 0 × ((did.FailedWrites 0 × HasBegunRecording channel addresses input did memory_line)
    ⊎ ((did.FailedWrites 0 × HasFaultyRecording channel addresses input did)
    ⊎ (did.FailedWrites 1 × ((written : ℕ) × HasCounted did.before did.after written
    × HasBegunRecording channel addresses input did (output_line written))))))

abbrev pub HasFailedChannel : Text → Sources → Settings → (ℕ → Type 0) → Effects → Type 0
HasFailedChannel name sources settings FailedReads did =
    (channel : ChannelContent) × IsChannel sources.files name channel
    × HasFailedRecording (listed_channel channel settings) (feeds_of channel) sources.input FailedReads did

abbrev pub HasFailedRun : Way → Sources → Settings → (ℕ → Type 0) → Effects → Type 0
HasFailedRun Whole sources settings FailedReads did = HasFailedWhole sources.input settings FailedReads did
HasFailedRun Live sources settings FailedReads did = HasFailedLive sources.input settings FailedReads did
HasFailedRun (Channel name) sources settings FailedReads did = HasFailedChannel name sources settings FailedReads did

-- Status 1: memory ran out while the words, the channel's file or the capture were read; a run failed; or not all of
-- the help or the version went out.
abbrev pub HasFailed : List Text → Sources → (ℕ → Type 0) → Effects → Type 0
HasFailed words sources FailedReads did =
    (FailedReads 0 × HasNoMemory did)
    ⊎ ((AsksToRun words × ((settings : Settings) × AreSettings words settings
    × HasFailedRun (way_asked settings) sources settings FailedReads did))
    ⊎ (AsksToShow words × HasFailedWrite [] did))

-- ---- what is refused

-- The capture is refused, at its first refusal where the reader tells its text, and that is told.
abbrev pub HasRefusedCapture : Option (List ℕ) → (List ℕ → Type 0) → Type 0
HasRefusedCapture input Told =
    (line : ℕ) × (refusal : CaptureRefusal) × IfSome input
    (λ text. capture_of text ≡ Err (record { line = line; refusal = refusal }))
    × Told (refused_line line refusal)

-- The same of a capture that is handled as it comes: what its lines before the first refusal show was printed, and
-- why it is refused is told after all that is told of them.
abbrev pub HasRefusedLive : Option (List ℕ) → Settings → List ℕ → List ℕ → (List ℕ → Type 0) → Type 0
HasRefusedLive input settings before after Told =
    (whole : List ℕ) × IsInput input whole × ((line : ℕ) × ((refusal : CaptureRefusal)
    × IsRefusedBehind (setup_asked settings) whole (and_then (went before after Told) (refused_line line refusal))
    (record { line = line; refusal = refusal })))

-- The file of this name can't be read, or says no channel, and that is told.
abbrev pub IsNoChannel : Files → Text → (List ℕ → Type 0) → Type 0
IsNoChannel files name Told =
    (files.IsUnread name × Told unread_line)
    ⊎ ((text : List ℕ) × files.IsText name text
    × ((fault : ChannelFault) × IsAnswer text (Err fault) × Told (channel_line fault)))

-- The channel is refused, with nothing read of the input, or the recording.
abbrev pub HasRefusedRecording : Option (List ℕ) → Went → Type 0
HasRefusedRecording input did = (whole : List ℕ) × IsInput input whole × IsRefusedFile whole did

abbrev pub HasRefusedChannel : Text → Sources → Type 0 → Went → Type 0
HasRefusedChannel name sources Unread did =
    (Unread × (did.after ≡ did.before) × IsNoChannel sources.files name did.Told)
    ⊎ HasRefusedRecording sources.input did

abbrev pub HasRefusedRun : Way → Sources → Settings → Type 0 → Went → Type 0
HasRefusedRun Whole sources settings Unread did = HasRefusedCapture sources.input did.Told × (did.after ≡ did.before)
HasRefusedRun Live sources settings Unread did = HasRefusedLive sources.input settings did.before did.after did.Told
HasRefusedRun (Channel name) sources settings Unread did = HasRefusedChannel name sources Unread did

-- Status 2: the words have a fault, of which a text was told; or they ask for a run, and the
-- capture, the channel or the recording is refused.
abbrev pub HasRefused : List Text → Sources → Type 0 → Went → Type 0
HasRefused words sources Unread did =
    (HasFault words × ((text : List ℕ) × did.Told text))
    ⊎ (AsksToRun words × ((settings : Settings) × AreSettings words settings
    × HasRefusedRun (way_asked settings) sources settings Unread did))
