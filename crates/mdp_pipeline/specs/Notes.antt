-- What a run tells of the lines of a text while it goes on: each line that is skipped, where the receiver is lost, and
-- where recovery jumps.
use Rattle.std.specs.Prelude.{ℕ, ◌==◌, if◌then◌else◌, List, [], ◌∷◌, ◌++◌, map, slice_get, Option, Some, None, option_and_then}
use Rattle.std.specs.Option.{option_map}
use Rattle.std.specs.List.{flat_map}
use Rattle.mdp_arbiter.specs.Accepted.{Event}
use Rattle.mdp_arbiter.specs.Channel.{Channel}
use Rattle.mdp_arbiter.specs.Machine.{go_on, state_at}
use Rattle.mdp_capture.specs.Lines.{NumberedLine, skipped_of}
use Rattle.mdp_capture.specs.declared.skip.SkippedLine.{SkippedLine}
use Rattle.mdp_engine.specs.Engine.{View}
use Rattle.mdp_receiver.specs.Handling.{state_of}
use Rattle.mdp_receiver.specs.Moved.{jumps_in, loss_of, one_jump}
use Rattle.mdp_receiver.specs.declared.moved.Jump.{Jump}
use Rattle.mdp_receiver.specs.declared.moved.Loss.{Loss}
use Rattle.mdp_receiver.specs.declared.moved.Moved.{Moved}
use Rattle.mdp_templates.specs.declared.instrument.Instrument.{Instrument}
use Rattle.mdp_pipeline.specs.declared.ended.EndNote.{EndNote}
use Rattle.mdp_pipeline.specs.declared.ended.EndNote.TheVariants.{Waits, NoSnapshot}
use Rattle.mdp_pipeline.specs.declared.note.Note.{Note}
use Rattle.mdp_pipeline.specs.declared.note.Note.TheVariants.{Skipped, Lost, Found}
use Rattle.mdp_pipeline.specs.Reading.{Reading, AreReadings, events_of}
use Rattle.mdp_pipeline.specs.TextOrder.{arrivals_of_line}

-- of a line that is skipped
abbrev pub skip_notes : NumberedLine → List Note
skip_notes line = map (λ (skipped : SkippedLine). Skipped skipped) (skipped_of line)

-- that the receiver is lost with a line's record, if it is
abbrev pub loss_notes : ℕ → Option Loss → List Note
loss_notes line None = []
loss_notes line (Some loss) = Lost line loss ∷ []

-- each jump that recovery makes with a line's record
abbrev pub jump_notes : ℕ → List Jump → List Note
jump_notes line jumps = map (λ (jump : Jump). Found line jump) jumps

-- what these further events moved, which a line brought
abbrev pub move_notes : Channel → List Event → ℕ → List Event → List Note
move_notes channel es line further =
    loss_notes line (loss_of channel es further)
    ++ jump_notes line (jumps_in (go_on channel es (state_at channel es) further))

-- what a datagram moved, which came on this line
abbrev pub moved_notes : ℕ → Moved → List Note
moved_notes line moved = loss_notes line moved.loss ++ jump_notes line (one_jump moved.jump)

-- ---- lines one after another

-- a line, and the reading of the record that it brings, if it brings one
pub record ReadLine : Type 0 where
  pub line : NumberedLine
  pub readings : List Reading

abbrev pub IsReadLine : ReadLine → Type 0
IsReadLine read = AreReadings (arrivals_of_line read.line) read.readings

-- the lines, without what they bring
abbrev pub lines_of : List ReadLine → List NumberedLine
lines_of reads = map (λ (read : ReadLine). read.line) reads

-- the readings of the records that lines bring, in their order
abbrev pub readings_in : List ReadLine → List Reading
readings_in reads = flat_map (λ (read : ReadLine). read.readings) reads

-- what is told of a line that comes after these events
abbrev pub notes_of : Channel → List Event → ReadLine → List Note
notes_of channel es read = skip_notes read.line ++ move_notes channel es read.line.number (events_of read.readings)

-- what is told of lines, the first of which comes after these events
abbrev pub notes_from : Channel → List Event → List ReadLine → List Note
notes_from channel es [] = []
notes_from channel es (read ∷ rest) =
    notes_of channel es read ++ notes_from channel (es ++ events_of read.readings) rest

-- ---- where a text ends

-- the security at a slot has no snapshot that includes each packet that is given up
abbrev pub stale_note : List Instrument → Option ℕ → Option EndNote
stale_note listed stale = option_map NoSnapshot (option_and_then (slice_get listed) stale)

-- what keeps a run from going on: a security without such a snapshot, while the receiver is lost; else packets that
-- wait for one before them
abbrev pub end_note : List Instrument → View → Option EndNote
end_note listed v =
    let state = state_of v in
    if state.lost then stale_note listed state.stale
    else if state.waiting == 0 then None
    else Some (Waits state.next state.waiting)
