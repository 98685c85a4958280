-- What came of a capture that is handled as it comes.
use Rattle.std.specs.Prelude.{◌≡◌, ℕ, ◌+◌, List, [], ◌++◌, Option, IfSome, Result, Ok, Err}
use Rattle.std.specs.List.{flat_map}
use Rattle.std.specs.Str.Lines.{lines}
use Rattle.mdp_crew.specs.Faults.{failed_writes, written_before}
use Rattle.mdp_arbiter.specs.declared.arbiter.Standing.{Standing}
use Rattle.mdp_capture.specs.Capture.{CaptureContent, RefusedLine, capture_of}
use Rattle.mdp_capture.specs.Fronts.{front_of}
use Rattle.mdp_capture.specs.Lines.{Brings, NumberedLine, instruments_of, numbered_lines}
use Rattle.mdp_templates.specs.declared.instrument.Instrument.{Instrument}
use Rattle.mdp_pipeline.specs.Output.{BeginsInTextOrder}
use Rattle.mdp_pipeline.specs.Streamed.{EndsWith, LinesShow, PrintsLines, Setup, StandsBehind, Streams, channel_with, text_held}
use Rattle.mdp_pipeline.specs.declared.ended.EndNote.{EndNote}
use Rattle.mdp_pipeline.specs.declared.note.Note.{Note}
use Rattle.mdp_pipeline.specs.declared.streamed.StreamedRun.{StreamedRun}
use Rattle.mdp_handler.specs.Faults.{end_line, note_lines}
use Rattle.mdp_handler.specs.declared.faults.Place.TheVariants.{Line}
use Rattle.mdp_handler.specs.declared.live.LiveFault.{LiveFault}
use Rattle.mdp_handler.specs.declared.live.LiveFault.TheVariants.{Refused, Run, Input}

-- what the output had taken before and has taken after, and what was told
pub record Went : Type 1 where
  pub before : List ℕ
  pub after : List ℕ
  pub Told : List ℕ → Type 0

abbrev pub went : List ℕ → List ℕ → (List ℕ → Type 0) → Went
went before after Told = record { before = before; after = after; Told = Told }

-- the same, of what was told in front of this
abbrev pub and_then : Went → List ℕ → Went
and_then did why = went did.before did.after (λ told. did.Told (told ++ why))

-- The text so far came. All that its lines that have ended show went out, and all that is told of them was told.
pub record SoFar {A : Type 0} (setup : Setup) (text : List ℕ) (did : Went) (run : StreamedRun A) : Type 0 where
  pub sent : List ℕ
  pub notes : List Note
  pub streams : Streams setup text sent notes run
  pub no_text : text_held run.lines.run ≡ []
  pub no_notes : run.lines.notes.items ≡ []
  pub went_is : did.after ≡ did.before ++ sent
  pub told : did.Told (note_lines Line notes)

-- The same where the text has ended, and its last line was taken in.
pub record StandsAtEnd {A : Type 0} (setup : Setup) (text : List ℕ) (did : Went) (run : StreamedRun A) : Type 0 where
  pub sent : List ℕ
  pub notes : List Note
  pub stands : StandsBehind setup (lines text) sent notes run.lines
  pub no_text : text_held run.lines.run ≡ []
  pub no_notes : run.lines.notes.items ≡ []
  pub went_is : did.after ≡ did.before ++ sent
  pub told : did.Told (note_lines Line notes)

-- These lines show this text, and what is told of them was told.
pub record HasShown (setup : Setup) (listed : List Instrument) (came : List NumberedLine) (shown : List ℕ) (did : Went)
    : Type 0 where
  pub notes : List Note
  pub shows : LinesShow (channel_with listed setup) came shown notes
  pub told : did.Told (note_lines Line notes)

-- The text of a whole capture went out, in the order of its lines; and all that is told of these was told, and then
-- what keeps the run from going on, if anything does.
pub record HasEnded (setup : Setup) (whole : List ℕ) (did : Went) : Type 0 where
  pub capture : CaptureContent
  pub is : capture_of whole ≡ Ok capture
  pub text : List ℕ
  pub went_is : did.after ≡ did.before ++ text
  pub notes : List Note
  pub standing : Standing
  pub prints : PrintsLines (channel_with capture.instruments setup) (numbered_lines whole) notes text standing
  pub note : Option EndNote
  pub note_is : EndsWith (channel_with capture.instruments setup) (numbered_lines whole) note
  pub told : did.Told (note_lines Line notes ++ end_line note)

-- The text is refused. All that the lines before the first that refuses it show went out, with no end; and all that is
-- told of them was told.
pub record IsRefusedBehind (setup : Setup) (whole : List ℕ) (did : Went) (refused : RefusedLine) : Type 0 where
  pub is : capture_of whole ≡ Err refused
  pub came : List NumberedLine
  pub rest : List NumberedLine
  pub of : numbered_lines whole ≡ came ++ rest
  pub brings : Brings came (front_of whole)
  pub shown : List ℕ
  pub went_is : did.after ≡ did.before ++ shown
  pub has : HasShown setup (front_of whole).instruments came shown did

-- Of the text's first lines a beginning of the whole text that they make went out, and all that is told of them was
-- told.
pub record HasBegunLines (setup : Setup) (whole : List ℕ) (did : Went) : Type 0 where
  pub came : List NumberedLine
  pub rest : List NumberedLine
  pub of : numbered_lines whole ≡ came ++ rest
  pub begins : BeginsInTextOrder (channel_with (flat_map instruments_of came) setup) came did.before did.after
  pub shown : List ℕ
  pub has : HasShown setup (flat_map instruments_of came) came shown did

-- what came of a text whose run ended early
abbrev pub EndsFor : Setup → List ℕ → Went → LiveFault → Type 0
EndsFor setup whole did (Refused line refusal) =
    IsRefusedBehind setup whole did (record { line = line; refusal = refusal })
EndsFor setup whole did (Run fault) = HasBegunLines setup whole did
EndsFor setup whole did Input = HasBegunLines setup whole did

-- this is the input's text, where the reader tells it
abbrev pub IsInput : Option (List ℕ) → List ℕ → Type 0
IsInput input whole = IfSome input (λ text. text ≡ whole)

-- ---- reads and writes that failed

-- a run that ended for want of memory or a failed write tells how many bytes went out
abbrev pub CountsTo : ℕ → LiveFault → Type 0
CountsTo count (Refused line refusal) = Unit {0}
CountsTo count (Run fault) = written_before fault ≡ count
CountsTo count Input = Unit {0}

-- one write failed where the fault is the writer's, and none otherwise
abbrev pub writes_failed : LiveFault → ℕ
writes_failed (Refused line refusal) = 0
writes_failed (Run fault) = failed_writes fault
writes_failed Input = 0

abbrev pub FailsOnce : {T : Type 0} → Result T LiveFault → ℕ → ℕ → Type 0
FailsOnce (Ok x) before after = after ≡ before
FailsOnce (Err fault) before after = after ≡ before + writes_failed fault

-- one read failed where the fault is the reader's, and none otherwise
abbrev pub reads_failed : LiveFault → ℕ
reads_failed (Refused line refusal) = 0
reads_failed (Run fault) = 0
reads_failed Input = 1

abbrev pub ReadsOnce : {T : Type 0} → Result T LiveFault → ℕ → ℕ → Type 0
ReadsOnce (Ok x) before after = after ≡ before
ReadsOnce (Err fault) before after = after ≡ before + reads_failed fault
