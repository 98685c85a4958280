-- What a run has come to that takes in the lines of a text as they come.
use Rattle.std.specs.Prelude.{◌≡◌, ◌<◌, ◌≤◌, ℕ, ◌+◌, Bool, true, false, List, [], ◌∷◌, ◌++◌, length, map, min, Option, Some, None, Ok, Err}
use Rattle.std.specs.List.{AllByRecursion, enumerate_from, flat_map}
use Rattle.std.specs.Str.Lines.{lines}
use Rattle.mdp_arbiter.specs.Accepted.{Event}
use Rattle.mdp_arbiter.specs.Channel.{ListedChannel, channel_of}
use Rattle.mdp_arbiter.specs.Machine.{moves_of}
use Rattle.mdp_arbiter.specs.declared.arbiter.Standing.{Standing}
use Rattle.mdp_arbiter.specs.declared.start.Start.{Start}
use Rattle.mdp_capture.specs.Capture.{CaptureContent, RefusedLine, add_line, add_lines, has_record, no_capture}
use Rattle.mdp_capture.specs.Cutting.{Cuts}
use Rattle.mdp_capture.specs.declared.fault.CaptureRefusal.TheVariants.{NoInstrument}
use Rattle.mdp_capture.specs.Line.{LineContent}
use Rattle.mdp_capture.specs.Lines.{NumberedLine, line_with_number}
use Rattle.mdp_desks.specs.Moments.{shown_lines}
use Rattle.mdp_templates.specs.declared.instrument.Instrument.{Instrument}
use Rattle.mdp_engine.specs.Engine.{View}
use Rattle.mdp_pipeline.specs.declared.ended.EndNote.{EndNote}
use Rattle.mdp_pipeline.specs.declared.ended.EndedRun.{EndedRun}
use Rattle.mdp_pipeline.specs.declared.note.Note.{Note}
use Rattle.mdp_pipeline.specs.declared.progress.Run.{Run}
use Rattle.mdp_pipeline.specs.declared.streamed.StreamedRun.{StreamedRun}
use Rattle.mdp_pipeline.specs.declared.streamed_lines.StreamedLines.{StreamedLines}
use Rattle.mdp_pipeline.specs.Notes.{ReadLine, IsReadLine, end_note, lines_of, notes_from, readings_in, skip_notes}
use Rattle.mdp_pipeline.specs.Output.{PrintsInTextOrder}
use Rattle.mdp_pipeline.specs.Reading.{events_of}
use Rattle.mdp_pipeline.specs.Running.{HasRun, StandsSent}
use Rattle.mdp_pipeline.specs.TextOrder.{arrivals_of_line}

-- texts as lines with their numbers, counted from 1
abbrev pub numbered : List (List ℕ) → List NumberedLine
numbered texts = map line_with_number (enumerate_from 1 texts)

-- how a run is set up: how many packet numbers its window covers, and where it starts
pub record Setup : Type 0 where
  pub room : ℕ
  pub start : Start

-- the channel of these instruments, as a run is set up
abbrev pub channel_with : List Instrument → Setup → ListedChannel
channel_with listed setup = record { listed = listed; room = setup.room; start = setup.start }

-- what was sent of the text of lines, and what was told of them
pub record GoneOut : Type 0 where
  pub sent : List ℕ
  pub told : List Note

abbrev pub gone_out : List ℕ → List Note → GoneOut
gone_out sent told = record { sent = sent; told = told }

-- ---- what lines show and tell

-- Lines of a channel show this text, and this is told of them: what the moves of all that they bring show, and the
-- notes of each line. Where no instrument is listed nothing is shown, and the lines that are skipped are told.
pub data LinesShow (channel : ListedChannel) (came : List NumberedLine) (text : List ℕ) (notes : List Note)
    : Type 0 where
  unlisted : channel.listed ≡ [] → text ≡ [] → notes ≡ flat_map skip_notes came → LinesShow channel came text notes
  listed : 0 < length channel.listed → (reads : List ReadLine) → lines_of reads ≡ came → AllByRecursion IsReadLine reads
      → text ≡ shown_lines channel.listed (moves_of channel (events_of (readings_in reads)))
      → notes ≡ notes_from (channel_of channel) [] reads → LinesShow channel came text notes

-- A whole text of lines: what they show, and then an end. It is the text of a run in their order, and this is told of
-- them.
pub record PrintsLines (channel : ListedChannel) (came : List NumberedLine) (notes : List Note) (text : List ℕ)
    (standing : Standing) : Type 0 where
  pub prints : PrintsInTextOrder channel came text standing
  pub shown : List ℕ
  pub end : List ℕ
  pub whole : text ≡ shown ++ end
  pub shows : LinesShow channel came shown notes

-- ---- behind some lines

-- No run has begun behind these lines: before the first record, and behind it where no instrument is listed. Nothing
-- is shown, and what is told are the lines that are skipped.
pub record IsIdle (listed : List Instrument) (has : Bool) (came : List NumberedLine)
    (sent : List ℕ) (notes : List Note) : Type 0 where
  pub quiet : has ≡ false → AllByRecursion (λ (line : NumberedLine). arrivals_of_line line ≡ []) came
  pub unlisted : has ≡ true → listed ≡ []
  pub unsent : sent ≡ []
  pub notes_are : notes ≡ flat_map skip_notes came

-- A run has taken in what these lines bring, of whose text this was sent. This is told of them.
pub record HasTakenLines {A : Type 0} (channel : ListedChannel) (came : List NumberedLine) (sent : List ℕ)
    (notes : List Note) (run : Run A) : Type 0 where
  pub reads : List ReadLine
  pub of : lines_of reads ≡ came
  pub each : AllByRecursion IsReadLine reads
  pub has_run : HasRun channel (readings_in reads) sent run
  pub notes_are : notes ≡ notes_from (channel_of channel) [] reads

-- a run has begun, behind the first record, of instruments that are listed
pub record IsUnderWay {A : Type 0} (channel : ListedChannel) (has : Bool) (came : List NumberedLine)
    (gone : GoneOut) (run : Run A) : Type 0 where
  pub begun : has ≡ true
  pub listed : 0 < length channel.listed
  pub taken : HasTakenLines channel came gone.sent gone.told run

abbrev pub Goes : {A : Type 0} → ListedChannel → Bool → List NumberedLine → GoneOut → Option (Run A) → Type 0
Goes channel has came gone None = IsIdle channel.listed has came gone.sent gone.told
Goes channel has came gone (Some run) = IsUnderWay channel has came gone run

-- The lines came, of a channel of these instruments, and among them a record or none. Of what they show and tell this
-- has gone out; the rest is held.
pub record Behind {A : Type 0} (channel : ListedChannel) (has : Bool) (came : List NumberedLine) (gone : GoneOut)
    (now : StreamedLines A) : Type 0 where
  pub least : 1 ≤ channel.room
  pub most : channel.room ≤ 65536
  pub window_is : now.window ≡ channel.room
  pub start_is : now.start ≡ channel.start
  pub instruments_are : now.instruments ≡ channel.listed
  pub record_is : now.has_record ≡ has
  pub goes : Goes channel has came (gone_out gone.sent (gone.told ++ now.notes.items)) now.run

-- the same of a capture so far
abbrev pub BehindCapture : {A : Type 0} → Setup → CaptureContent → List NumberedLine → GoneOut → StreamedLines A
    → Type 0
BehindCapture setup capture came gone now =
    Behind (channel_with capture.instruments setup) (has_record capture) came gone now

-- these texts came, none of which refuses the run, and they make this capture so far
pub record StandsBehind {A : Type 0} (setup : Setup) (texts : List (List ℕ)) (sent : List ℕ) (told : List Note)
    (now : StreamedLines A) : Type 0 where
  pub capture : CaptureContent
  pub comes_to : add_lines 1 texts no_capture ≡ Ok capture
  pub line_is : now.line ≡ min (1 + length texts) 4294967295
  pub behind : BehindCapture setup capture (numbered texts) (gone_out sent told) now

-- ---- one line more, or some

-- whatever it stood behind, it stands behind a line too that says this
abbrev pub TakesContent : {A : Type 0} → LineContent → StreamedLines A → StreamedLines A → Type 0
TakesContent content old new =
    (setup : Setup) (capture : CaptureContent) (before : List NumberedLine) (gone : GoneOut)
    → BehindCapture setup capture before gone old
    → (next : CaptureContent) × (add_line old.line content capture ≡ Ok next)
    × BehindCapture setup next (before ++ (record { number = old.line; content = content }) ∷ []) gone new

-- a line that says this refuses the run, whatever it stands behind
abbrev pub RefusesContent : {A : Type 0} → LineContent → StreamedLines A → RefusedLine → Type 0
RefusesContent content now refused =
    (setup : Setup) (capture : CaptureContent) (before : List NumberedLine) (gone : GoneOut)
    → BehindCapture setup capture before gone now → add_line now.line content capture ≡ Err refused

-- where this is the first record, a run begins if an instrument is listed; and now one has come
abbrev pub BeginsRun : {A : Type 0} → StreamedLines A → StreamedLines A → Type 0
BeginsRun old new =
    (channel : ListedChannel) (has : Bool) (came : List NumberedLine) (gone : GoneOut)
    → Behind channel has came gone old → Behind channel true came gone new

-- the run that has begun, or a first one of this channel
abbrev pub IsRunOrFirst : {A : Type 0} → ListedChannel → Option (Run A) → Run A → Type 0
IsRunOrFirst channel None run = HasRun channel [] [] run
IsRunOrFirst channel (Some begun) run = run ≡ begun

-- nothing came yet
abbrev pub IsBefore : {A : Type 0} → Setup → StreamedLines A → Type 0
IsBefore setup now = StandsBehind setup [] [] [] now

abbrev pub setup_of : ℕ → Start → Setup
setup_of room start = record { room = room; start = start }

-- texts were taken in, whatever it stood behind
abbrev pub TakesTexts : {A : Type 0} → StreamedLines A → List (List ℕ) → StreamedLines A → Type 0
TakesTexts old front new =
    (setup : Setup) (before : List (List ℕ)) (sent : List ℕ) (told : List Note)
    → StandsBehind setup before sent told old → StandsBehind setup (before ++ front) sent told new

-- a text refuses the run, were it the next
abbrev pub RefusesText : {A : Type 0} → StreamedLines A → List ℕ → RefusedLine → Type 0
RefusesText now text refused =
    (setup : Setup) (before : List (List ℕ)) (sent : List ℕ) (told : List Note)
    → StandsBehind setup before sent told now → add_lines 1 (before ++ text ∷ []) no_capture ≡ Err refused

-- ---- a text that comes piece by piece

-- a text came, of whose lines that have ended this was sent and told; the rest is held, and the last line is pending
pub record Streams {A : Type 0} (setup : Setup) (text sent : List ℕ) (told : List Note) (now : StreamedRun A)
    : Type 0 where
  pub front : List (List ℕ)
  pub cuts : Cuts text front now.cutter
  pub stands : StandsBehind setup front sent told now.lines

-- A text has a line that refuses the run. Of those before it this has gone out, and the rest is held.
pub record StopsAt {A : Type 0} (setup : Setup) (text : List ℕ) (gone : GoneOut) (refused : RefusedLine)
    (now : StreamedRun A) : Type 0 where
  pub before : List (List ℕ)
  pub line : List ℕ
  pub rest : List (List ℕ)
  pub of : lines text ≡ before ++ line ∷ rest
  pub stands : StandsBehind setup before gone.sent gone.told now.lines
  pub is_refused : add_lines 1 (before ++ line ∷ []) no_capture ≡ Err refused

-- a piece was taken in, whatever came before it
abbrev pub TakesPiece : {A : Type 0} → List ℕ → StreamedRun A → StreamedRun A → Type 0
TakesPiece piece old new = (setup : Setup) (text sent : List ℕ) (told : List Note)
    → Streams setup text sent told old → Streams setup (text ++ piece) sent told new

-- in a piece the run was refused, whatever came before it and whatever follows
abbrev pub StopsInPiece : {A : Type 0} → List ℕ → RefusedLine → StreamedRun A → StreamedRun A → Type 0
StopsInPiece piece refused old new = (setup : Setup) (text more sent : List ℕ) (told : List Note)
    → Streams setup text sent told old → StopsAt setup ((text ++ piece) ++ more) (gone_out sent told) refused new

-- the text ended, and its last line was taken in
abbrev pub TakesEnd : {A : Type 0} → StreamedRun A → StreamedRun A → Type 0
TakesEnd old new = (setup : Setup) (text sent : List ℕ) (told : List Note)
    → Streams setup text sent told old → StandsBehind setup (lines text) sent told new.lines

abbrev pub StopsAtEnd : {A : Type 0} → RefusedLine → StreamedRun A → StreamedRun A → Type 0
StopsAtEnd refused old new = (setup : Setup) (text sent : List ℕ) (told : List Note)
    → Streams setup text sent told old → StopsAt setup text (gone_out sent told) refused new

-- the text that a run holds, if one has begun
abbrev pub text_held : {A : Type 0} → Option (Run A) → List ℕ
text_held None = []
text_held (Some run) = run.handler.held

-- the text that a run held was sent, wherever it stood and whatever was sent before, and it holds none
pub record ClearsText {A : Type 0} (old new : Run A) : Type 0 where
  pub stands : (listed : List Instrument) (events : List Event) (before : List ℕ)
      → StandsSent listed events before old.handler → StandsSent listed events (before ++ old.handler.held) new.handler
  pub channel : new.handler.arbiter.channel ≡ old.handler.arbiter.channel
  pub refusals : new.refusals ≡ old.refusals
  pub none : new.handler.held ≡ []

abbrev pub LetsTextGo : {A : Type 0} → Option (Run A) → Option (Run A) → Type 0
LetsTextGo {A} None new = new ≡ None
LetsTextGo {A} (Some run) new = (left : Run A) × (new ≡ Some left) × ClearsText run left

-- what it held was sent and told, and it holds no more
pub record HasHandedOn {A : Type 0} (old new : StreamedLines A) : Type 0 where
  pub no_text : text_held new.run ≡ []
  pub no_notes : new.notes.items ≡ []
  pub stands : (setup : Setup) (texts : List (List ℕ)) (sent : List ℕ) (told : List Note)
      → StandsBehind setup texts sent told old
      → StandsBehind setup texts (sent ++ text_held old.run) (told ++ old.notes.items) new

-- ---- all lines of a text

-- the lines of a channel of these instruments were all taken in, of whose text this was sent, and this is told of them
pub record EndsAfter {A : Type 0} (channel : ListedChannel) (came : List NumberedLine) (sent : List ℕ)
    (notes : List Note) (ended : EndedRun A) : Type 0 where
  pub instruments_are : ended.instruments ≡ channel.listed
  pub listed : 0 < length channel.listed
  pub taken : HasTakenLines channel came sent notes ended.run

-- this keeps a run from going on behind these lines, if anything does
pub record EndsWith (channel : ListedChannel) (came : List NumberedLine) (note : Option EndNote) : Type 0 where
  pub reads : List ReadLine
  pub of : lines_of reads ≡ came
  pub each : AllByRecursion IsReadLine reads
  pub sent : List ℕ
  pub engine : View
  pub stands : StandsSent channel.listed (events_of (readings_in reads)) sent engine
  pub channel_is : engine.arbiter.channel ≡ channel_of channel
  pub note_is : note ≡ end_note channel.listed engine

-- the lines of a text that makes this capture were all taken in
pub record EndsBehind {A : Type 0} (setup : Setup) (texts : List (List ℕ)) (capture : CaptureContent) (gone : GoneOut)
    (ended : EndedRun A) : Type 0 where
  pub comes_to : add_lines 1 texts no_capture ≡ Ok capture
  pub ends : EndsAfter (channel_with capture.instruments setup) (numbered texts) gone.sent gone.told ended

-- a run that stood behind all lines of a text has come to the end of its capture
abbrev pub EndsAsCapture : {A : Type 0} → StreamedLines A → EndedRun A → Type 0
EndsAsCapture old ended = (setup : Setup) (texts : List (List ℕ)) (sent : List ℕ) (told : List Note)
    → StandsBehind setup texts sent told old
    → (capture : CaptureContent) × EndsBehind setup texts capture (gone_out sent (told ++ old.notes.items)) ended

-- none of the lines that it stood behind lists an instrument, so that the text is refused on line 0
abbrev pub LacksInstrument : {A : Type 0} → StreamedLines A → RefusedLine → Type 0
LacksInstrument old refused = (refused ≡ record { line = 0; refusal = NoInstrument })
    × ((setup : Setup) (texts : List (List ℕ)) (sent : List ℕ) (told : List Note)
    → StandsBehind setup texts sent told old
    → (capture : CaptureContent) × (add_lines 1 texts no_capture ≡ Ok capture) × (capture.instruments ≡ []))
