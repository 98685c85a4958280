-- One frame more of a recording.
use Rattle.std.proofs.Common.{◌≡◌, ℕ, Bool, true, false, List, [], ◌∷◌, ◌++◌, map, Option, Some, None, Result, Ok, Err, refl, sym, ap, subst, ◌∙◌, append_assoc, append-nil}
use Rattle.std.specs.Prelude.{◌||◌, OnOk}
use Rattle.std.specs.List.{AllByRecursion}
use Rattle.std.proofs.lemmas.List.{map-append}
use Rattle.mdp_arbiter.specs.Accepted.{Event}
use Rattle.mdp_arbiter.specs.Channel.{Channel, channel_of}
use Rattle.mdp_templates.specs.declared.feed.Feed.{Feed}
use Rattle.mdp_capture.specs.Lines.{NumberedLine}
use Rattle.mdp_capture.specs.Record.{Datagram as Brought}
use Rattle.mdp_capture.specs.declared.skip.Skip.TheVariants.{TooLong as SkippedTooLong}
use Rattle.mdp_pcap.specs.Outcome.{OutcomeContent, NoFeed, Datagram, TooLong, Cut, Fragment, Broken}
use Rattle.mdp_pcap.specs.Reader.{NumberedFrame}
use Rattle.mdp_pcap.specs.declared.addresses.FeedAddress.{FeedAddress}
use Rattle.mdp_receiver.specs.Said.{brought_by}
use Rattle.mdp_receiver.specs.declared.moved.Moved.{Moved}
use Rattle.mdp_pipeline.specs.declared.note.Note.{Note}
use Rattle.mdp_pipeline.specs.declared.note.Note.TheVariants as notes
use Rattle.mdp_pipeline.specs.declared.progress.Run.{Run}
use Rattle.mdp_pipeline.specs.Merge.{arrival_on}
use Rattle.mdp_pipeline.specs.Notes.{ReadLine, move_notes, moved_notes, readings_in, skip_notes}
use Rattle.mdp_pipeline.specs.Reading.{Reading, events_of}
use Rattle.mdp_pipeline.specs.Running.{HasRun, TakesMoving}
use Rattle.mdp_pipeline.specs.TextOrder.{arrivals_of_line}
use Rattle.mdp_pipeline.proofs.Streaming.{BringsOne, each-push, events-append, none_moves, packet_brings, readings_in-push, told_is_moved}
use Rattle.mdp_pipeline.proofs.Written.{read_more, reading_of}
use Rattle.mdp_recording.specs.Frames.{Beside, IsReadFrame, ReadFrame, content_of, frames_of, is_cut_away, is_told_after, line_of, lines_read, notes_from, notes_of, outcome_in, own_notes}
use Rattle.mdp_recording.specs.Recorded.{HasTold, HoldsFrames, TakesOutcome, told_after}
use Rattle.mdp_recording.specs.declared.datagrams.FramedDatagrams.{FramedDatagrams}

-- ---- frames that were read, and one more

frames-push : (reads : List ReadFrame) (read : ReadFrame) → frames_of (reads ++ read ∷ []) ≡ frames_of reads ++ read.frame ∷ []
frames-push reads read = map-append (λ (r : ReadFrame). r.frame) reads (read ∷ [])

pub readings-push : (reads : List ReadFrame) (read : ReadFrame) → readings_in (lines_read (reads ++ read ∷ [])) ≡ readings_in (lines_read reads) ++ read.read.readings
readings-push reads read = ap readings_in (map-append (λ (r : ReadFrame). r.read) reads (read ∷ [])) ∙ readings_in-push (lines_read reads) read.read

told-push : (addresses : List FeedAddress) (told : Bool) (reads : List ReadFrame) (read : ReadFrame)
    → told_after addresses told (reads ++ read ∷ []) ≡ is_told_after addresses (told_after addresses told reads) read
told-push addresses told [] read = refl
told-push addresses told (first ∷ reads) read = told-push addresses (is_told_after addresses told first) reads read

notes-push : (channel : Channel) (addresses : List FeedAddress) (told : Bool) (es : List Event) (reads : List ReadFrame) (read : ReadFrame)
    → notes_from channel addresses told es (reads ++ read ∷ [])
    ≡ notes_from channel addresses told es reads ++ notes_of channel addresses (told_after addresses told reads) (es ++ events_of (readings_in (lines_read reads))) read
notes-push channel addresses told es [] read =
    append-nil (notes_of channel addresses told es read) ∙ ap (λ (xs : List Event). notes_of channel addresses told xs read) (sym (append-nil es))
notes-push channel addresses told es (first ∷ reads) read =
    let here = notes_of channel addresses told es first in
    let now = es ++ events_of first.read.readings in
    let next = is_told_after addresses told first in
    let then = told_after addresses next reads in
    ap (λ (ns : List Note). here ++ ns) (notes-push channel addresses next now reads read)
    ∙ sym (append_assoc here (notes_from channel addresses next now reads) (notes_of channel addresses then (now ++ events_of (readings_in (lines_read reads))) read))
    ∙ ap (λ (xs : List Event). (here ++ notes_from channel addresses next now reads) ++ notes_of channel addresses then xs read)
    (append_assoc es (events_of first.read.readings) (events_of (readings_in (lines_read reads))) ∙ ap (λ (xs : List Event). es ++ xs) (sym (events-append first.read.readings (readings_in (lines_read reads)))))

-- ---- a frame as a line

abbrev pub as_line : ℕ → OutcomeContent → NumberedLine
as_line number outcome = record { number = number; content = content_of outcome }

-- what is told of a frame that brings no record
abbrev pub all_notes : Bool → ℕ → OutcomeContent → List Note
all_notes told number outcome = own_notes told number outcome ++ skip_notes (as_line number outcome)

pub or_false : (b : Bool) → (b || false) ≡ b
or_false true = refl
or_false false = refl

module _ {A : Type 0} where
  frame_more : (by : Beside) (frames : List NumberedFrame) (read : ReadFrame) (own : List Note) (old new : FramedDatagrams A)
      → IsReadFrame by.addresses read → (so_far : HoldsFrames by old frames) → new.addresses ≡ old.addresses
      → new.has_cut ≡ is_told_after by.addresses old.has_cut read
      → HasRun by.channel (readings_in (lines_read so_far.reads) ++ read.read.readings) by.sent new.run
      → new.notes.items ≡ old.notes.items ++ own
      → own ≡ notes_of (channel_of by.channel) by.addresses old.has_cut (events_of (readings_in (lines_read so_far.reads))) read
      → HoldsFrames by new (frames ++ read.frame ∷ [])
  frame_more by frames read own old new is so_far same cut has notes_new own_is =
      let channel = channel_of by.channel in
      let es = events_of (readings_in (lines_read so_far.reads)) in
      let before = notes_from channel by.addresses false [] so_far.reads in
      record {
        addresses_are = same ∙ so_far.addresses_are;
        reads = so_far.reads ++ read ∷ [];
        of = frames-push so_far.reads read ∙ ap (λ (fs : List NumberedFrame). fs ++ read.frame ∷ []) so_far.of;
        each = each-push (IsReadFrame by.addresses) so_far.reads read so_far.each is;
        has_run = subst (λ (rs : List Reading). HasRun by.channel rs by.sent new.run) (sym (readings-push so_far.reads read)) has;
        told_is = cut ∙ ap (λ (told : Bool). is_told_after by.addresses told read) so_far.told_is ∙ sym (told-push by.addresses false so_far.reads read);
        notes_are = ap (λ (ns : List Note). by.told ++ ns) notes_new
            ∙ sym (append_assoc by.told old.notes.items own)
            ∙ ap (λ (ns : List Note). ns ++ own) so_far.notes_are
            ∙ ap (λ (ns : List Note). before ++ ns) (own_is ∙ ap (λ (told : Bool). notes_of channel by.addresses told es read) so_far.told_is)
            ∙ sym (notes-push channel by.addresses false [] so_far.reads read);
      }

  -- a frame that brings no record
  silent_frame : (outcome : OutcomeContent) (number : ℕ) (own : List Note) (old new : FramedDatagrams A)
      → ((n : ℕ) → arrivals_of_line (as_line n outcome) ≡ []) → new.addresses ≡ old.addresses → new.run ≡ old.run
      → new.has_cut ≡ (old.has_cut || is_cut_away outcome) → new.notes.items ≡ old.notes.items ++ own → own ≡ all_notes old.has_cut number outcome
      → TakesOutcome outcome number old new
  silent_frame outcome number own old new silent addresses run cut notes_new own_is by frames frame number_is outcome_is so_far =
      let line = line_of by.addresses frame in
      let read : ReadFrame = record { frame = frame; read = record { line = line; readings = [] } } in
      let readings = readings_in (lines_read so_far.reads) in
      let channel = channel_of by.channel in
      let found = outcome_in by.addresses frame in
      let quiet : arrivals_of_line (as_line frame.number found) ≡ [] = subst (λ (o : OutcomeContent). arrivals_of_line (as_line frame.number o) ≡ []) (sym outcome_is) (silent frame.number) in
      frame_more by frames read own old new (record { line_is = refl; is_read = record { of = sym quiet; each = tt } }) so_far addresses
      (cut ∙ ap (λ (o : OutcomeContent). old.has_cut || is_cut_away o) (sym outcome_is))
      (subst (λ (rs : List Reading). HasRun by.channel rs by.sent new.run) (sym (append-nil readings)) (subst (λ (r : Run A). HasRun by.channel readings by.sent r) (sym run) so_far.has_run))
      notes_new
      (own_is
      ∙ ap (λ (n : ℕ). all_notes old.has_cut n outcome) (sym number_is)
      ∙ ap (λ (o : OutcomeContent). all_notes old.has_cut frame.number o) (sym outcome_is)
      ∙ ap (λ (ns : List Note). own_notes old.has_cut frame.number found ++ ns)
      (sym (append-nil (skip_notes line)) ∙ ap (λ (ns : List Note). skip_notes line ++ ns) (sym (none_moves channel (events_of readings) frame.number))))

  -- nothing is done
  pub nothing_told : (outcome : OutcomeContent) (number : ℕ) (now : FramedDatagrams A) → ((n : ℕ) → arrivals_of_line (as_line n outcome) ≡ [])
      → now.has_cut ≡ (now.has_cut || is_cut_away outcome) → [] ≡ all_notes now.has_cut number outcome → TakesOutcome outcome number now now
  nothing_told outcome number now silent cut own_is =
      silent_frame outcome number [] now now silent refl refl cut (sym (append-nil now.notes.items)) own_is

  -- it is told of
  pub one_told : (outcome : OutcomeContent) (number : ℕ) (note : Note) (old new : FramedDatagrams A) → ((n : ℕ) → arrivals_of_line (as_line n outcome) ≡ [])
      → is_cut_away outcome ≡ false → note ∷ [] ≡ all_notes old.has_cut number outcome → HasTold (note ∷ []) old new → TakesOutcome outcome number old new
  one_told outcome number note old new silent known own_is told =
      silent_frame outcome number (note ∷ []) old new silent told.addresses_are told.run_is
      (told.told_is ∙ sym (or_false old.has_cut) ∙ ap (λ (b : Bool). old.has_cut || b) (sym known)) told.notes_are own_is

  -- the first whose group or port was not captured
  pub cut_told : (number : ℕ) (old new : FramedDatagrams A) → old.has_cut ≡ false → HasTold (notes.Cut number None ∷ []) old new
      → TakesOutcome (Cut None) number old (record new { has_cut = true })
  cut_told number old new first told =
      silent_frame (Cut None) number (notes.Cut number None ∷ []) old (record new { has_cut = true }) (λ n. refl) told.addresses_are told.run_is
      (rw first refl) told.notes_are (rw first refl)

  -- a datagram
  pub datagram_framed : (feed : Feed) (number : ℕ) (payload : List ℕ) (moved : Moved) (old new : FramedDatagrams A)
      → new.addresses ≡ old.addresses → new.has_cut ≡ old.has_cut → TakesMoving feed (record { line = number; received = Brought payload }) moved old.run new.run
      → new.notes.items ≡ old.notes.items ++ moved_notes number moved → TakesOutcome (Datagram feed payload) number old new
  datagram_framed feed number payload moved old new addresses cut moves notes_new by frames frame number_is outcome_is so_far =
      let readings = readings_in (lines_read so_far.reads) in
      let es = events_of readings in
      let channel = channel_of by.channel in
      let n = frame.number in
      let found = outcome_in by.addresses frame in
      let line = line_of by.addresses frame in
      let takes : TakesMoving feed (record { line = n; received = Brought payload }) moved old.run new.run = subst (λ (m : ℕ). TakesMoving feed (record { line = m; received = Brought payload }) moved old.run new.run) (sym number_is) moves in
      let said = takes.takes.said in
      let brings : BringsOne (as_line n found) feed (Brought payload) =
      subst (λ (o : OutcomeContent). BringsOne (as_line n o) feed (Brought payload)) (sym outcome_is) (packet_brings n feed payload) in
      let reading = reading_of (arrival_on feed (record { line = n; received = Brought payload })) said in
      let read : ReadFrame = record { frame = frame; read = record { line = line; readings = reading ∷ [] } } in
      let run = so_far.has_run in
      let moved_is : moved_notes n moved ≡ move_notes channel es n (brought_by said) =
      told_is_moved old.run.handler.arbiter.channel es n (brought_by said) moved (takes.moves by.channel.listed es run.stands.gone run.stands.stands)
      ∙ ap (λ (c : Channel). move_notes c es n (brought_by said)) run.channel_is in
      frame_more by frames read (moved_notes n moved) old new (record { line_is = refl; is_read = record { of = sym brings.0; each = (takes.takes.says, tt) } }) so_far addresses
      (cut ∙ sym (or_false old.has_cut) ∙ ap (λ (o : OutcomeContent). old.has_cut || is_cut_away o) (sym outcome_is))
      (read_more by.channel readings feed (record { line = n; received = Brought payload }) by.sent old.run new.run takes.takes run)
      (notes_new ∙ ap (λ (m : ℕ). old.notes.items ++ moved_notes m moved) (sym number_is))
      (moved_is
      ∙ ap (λ (events : List Event). move_notes channel es n events) (sym (append-nil (brought_by said)))
      ∙ ap (λ (ns : List Note). ns ++ move_notes channel es n (events_of (reading ∷ []))) (sym brings.1)
      ∙ ap (λ (o : OutcomeContent). own_notes old.has_cut n o ++ (skip_notes line ++ move_notes channel es n (events_of (reading ∷ [])))) (sym outcome_is))

pub on_ok : {T E : Type 0} {P Q : Type 0} (r : Result T E) → (P → Q) → OnOk r P → OnOk r Q
on_ok (Ok x) says is = says is
on_ok (Err e) says is = tt
