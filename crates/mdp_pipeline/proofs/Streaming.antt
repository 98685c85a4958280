-- What a run has come to that takes in lines as they come: one line more.
use Rattle.std.proofs.Common.{◌≡◌, ℕ, ◌+◌, ◌<◌, Bool, true, false, cond, List, [], ◌∷◌, ◌++◌, length, map, Option, Some, None, refl, sym, ap, subst, ◌∙◌, append_assoc, arith}
use Rattle.std.specs.Prelude.{◌&&◌, ◌||◌, not, leb}
use Rattle.std.specs.List.{AllByRecursion, enumerate_from, flat_map}
use Rattle.std.proofs.lemmas.List.{append-nil, map-append}
use Rattle.std.proofs.lemmas.List.Concat.{flat_map-append}
use Rattle.mdp_arbiter.specs.Accepted.{Event, closed, highest, highest_of}
use Rattle.mdp_arbiter.specs.Channel.{Channel, ListedChannel, channel_of}
use Rattle.mdp_arbiter.specs.Machine.{Move, go_on, is_lost, next_move, settle, state_at}
use Rattle.mdp_arbiter.proofs.Appended.{closed-closed, packets-closed}
use Rattle.mdp_arbiter.proofs.Runs.{law_of_moves}
use Rattle.mdp_desks.specs.Moments.{Moment}
use Rattle.mdp_engine.specs.Engine.{Stands}
use Rattle.mdp_templates.specs.declared.instrument.Instrument.{Instrument}
use Rattle.mdp_templates.specs.declared.feed.Feed.{Feed}
use Rattle.mdp_templates.specs.declared.feed.Feed.TheVariants as feeds
use Rattle.mdp_capture.specs.Line.{Packet, Closing}
use Rattle.mdp_capture.specs.Lines.{NumberedLine}
use Rattle.mdp_capture.specs.Record.{Received, Datagram, Close}
use Rattle.mdp_receiver.specs.Handling.{MovesDatagram}
use Rattle.mdp_receiver.specs.Taken.{refusal_told}
use Rattle.mdp_receiver.specs.declared.taken.Taken.{Taken}
use Rattle.mdp_sbe.specs.declared.refusal.Refusal.{Refusal}
use Rattle.mdp_pipeline.specs.RefusalTexts.{with_told}
use Rattle.mdp_receiver.specs.Said.{Said, brought_by}
use Rattle.mdp_receiver.specs.Moved.{MovesAs, jumps_in, loss_of, one_jump}
use Rattle.mdp_receiver.specs.declared.moved.Loss.{Loss}
use Rattle.mdp_receiver.specs.declared.moved.Jump.{Jump}
use Rattle.mdp_receiver.specs.declared.moved.Moved.{Moved}
use Rattle.mdp_pipeline.specs.declared.note.Note.{Note}
use Rattle.mdp_pipeline.specs.declared.progress.Run.{Run}
use Rattle.mdp_pipeline.specs.Merge.{arrival_on}
use Rattle.mdp_pipeline.specs.Notes.{ReadLine, IsReadLine, jump_notes, lines_of, loss_notes, move_notes, moved_notes, notes_from, notes_of, readings_in, skip_notes}
use Rattle.mdp_pipeline.specs.Reading.{Reading, events_of}
use Rattle.mdp_pipeline.specs.Running.{HasRun, TakesMoving, TakesOn}
use Rattle.mdp_pipeline.specs.Streamed.{Goes, gone_out, HasTakenLines, IsIdle, IsUnderWay}
use Rattle.mdp_pipeline.specs.TextOrder.{arrivals_of_line}
use Rattle.mdp_pipeline.proofs.Written.{read_more, reading_of}

-- ---- lists

pub each-push : {X : Type 0} (P : X → Type 0) (xs : List X) (x : X) → AllByRecursion P xs → P x → AllByRecursion P (xs ++ x ∷ [])
each-push P [] x each is = (is, tt)
each-push P (y ∷ xs) x each is = (each.0, each-push P xs x each.1 is)

pub enumerate-append : {X : Type 0} (n : ℕ) (xs ys : List X) → enumerate_from n (xs ++ ys) ≡ enumerate_from n xs ++ enumerate_from (n + length xs) ys
enumerate-append n [] ys = ap (λ (m : ℕ). enumerate_from m ys) (omega arith)
enumerate-append n (x ∷ xs) ys =
    ap (λ t. (n, x) ∷ t) (enumerate-append (n + 1) xs ys ∙ ap (λ (m : ℕ). enumerate_from (n + 1) xs ++ enumerate_from m ys) (omega arith))

-- ---- what moves nothing

no_loss : (lost now : Bool) (line : ℕ) (loss : Option Loss) → now ≡ lost → loss_notes line (cond (not lost && now) loss None) ≡ []
no_loss true now line loss same = refl
no_loss false true line loss same = absurd (cc)
no_loss false false line loss same = refl

moves_nothing : (channel : Channel) (es : List Event) (line : ℕ) (further : List Event)
    → is_lost channel (es ++ further) (state_at channel es) ≡ is_lost channel es (state_at channel es)
    → go_on channel es (state_at channel es) further ≡ [] → move_notes channel es line further ≡ []
moves_nothing channel es line further same none =
    let s = state_at channel es in
    let loss : Option Loss = Some (record { next = s.next; highest = highest (es ++ further) }) in
    ap (λ (notes : List Note). notes ++ jump_notes line (jumps_in (go_on channel es s further))) (no_loss (is_lost channel es s) (is_lost channel (es ++ further) s) line loss same)
    ∙ ap (λ (moves : List Move). jump_notes line (jumps_in moves)) none

-- a line that brings no event
pub none_moves : (channel : Channel) (es : List Event) (line : ℕ) → move_notes channel es line [] ≡ []
none_moves channel es line =
    moves_nothing channel es line [] (ap (λ (xs : List Event). is_lost channel xs (state_at channel es)) (append-nil es)) refl

-- a close
close_moves : (channel : Channel) (es : List Event) (line : ℕ) → move_notes channel es line (closed ∷ []) ≡ []
close_moves channel es line =
    let s = state_at channel es in
    let now = es ++ closed ∷ [] in
    let stops : next_move channel now s ≡ None = rw (closed-closed es) refl in
    let none : settle channel now s ≡ [] = sym ((law_of_moves channel now s).1 [] stops) in
    moves_nothing channel es line (closed ∷ [])
    (ap (λ (top : ℕ). not s.joined || leb (s.next + channel.room) top) (ap highest_of (packets-closed es)))
    (append-nil (settle channel now s) ∙ none)

-- what a datagram moved is what is told
pub told_is_moved : (channel : Channel) (es : List Event) (line : ℕ) (further : List Event) (moved : Moved) → MovesAs channel es further moved
    → moved_notes line moved ≡ move_notes channel es line further
told_is_moved channel es line further moved told =
    ap (λ (loss : Option Loss). loss_notes line loss ++ jump_notes line (one_jump moved.jump)) told.loss_is
    ∙ ap (λ (jumps : List Jump). loss_notes line (loss_of channel es further) ++ jump_notes line jumps) told.jump_is

-- ---- one line more among those that were read

lines-push : (reads : List ReadLine) (read : ReadLine) → lines_of (reads ++ read ∷ []) ≡ lines_of reads ++ read.line ∷ []
lines-push reads read = map-append (λ (r : ReadLine). r.line) reads (read ∷ [])

pub readings_in-push : (reads : List ReadLine) (read : ReadLine) → readings_in (reads ++ read ∷ []) ≡ readings_in reads ++ read.readings
readings_in-push reads read =
    flat_map-append (λ (r : ReadLine). r.readings) reads (read ∷ [])
    ∙ ap (λ (rs : List Reading). readings_in reads ++ rs) (append-nil read.readings)

pub events-append : (xs ys : List Reading) → events_of (xs ++ ys) ≡ events_of xs ++ events_of ys
events-append xs ys = flat_map-append (λ (r : Reading). brought_by r.said) xs ys

notes-push : (channel : Channel) (es : List Event) (reads : List ReadLine) (read : ReadLine)
    → notes_from channel es (reads ++ read ∷ []) ≡ notes_from channel es reads ++ notes_of channel (es ++ events_of (readings_in reads)) read
notes-push channel es [] read =
    append-nil (notes_of channel es read) ∙ ap (λ (xs : List Event). notes_of channel xs read) (sym (append-nil es))
notes-push channel es (first ∷ reads) read =
    let here = notes_of channel es first in
    let now = es ++ events_of first.readings in
    ap (λ (notes : List Note). here ++ notes) (notes-push channel now reads read)
    ∙ sym (append_assoc here (notes_from channel now reads) (notes_of channel (now ++ events_of (readings_in reads)) read))
    ∙ ap (λ (xs : List Event). (here ++ notes_from channel now reads) ++ notes_of channel xs read)
    (append_assoc es (events_of first.readings) (events_of (readings_in reads)) ∙ ap (λ (xs : List Event). es ++ xs) (sym (events-append first.readings (readings_in reads))))

-- the notes that were told and are held, with this line's behind them
notes_more : (channel : Channel) (reads : List ReadLine) (read : ReadLine) (told held own : List Note) → told ++ held ≡ notes_from channel [] reads
    → own ≡ notes_of channel (events_of (readings_in reads)) read → told ++ (held ++ own) ≡ notes_from channel [] (reads ++ read ∷ [])
notes_more channel reads read told held own are is =
    sym (append_assoc told held own)
    ∙ ap (λ (notes : List Note). notes ++ own) are
    ∙ ap (λ (notes : List Note). notes_from channel [] reads ++ notes) is
    ∙ sym (notes-push channel [] reads read)

-- ---- a line that brings no record

abbrev pub IsSilent : NumberedLine → Type 0
IsSilent line = arrivals_of_line line ≡ []

skips-push : (came : List NumberedLine) (line : NumberedLine) → flat_map skip_notes (came ++ line ∷ []) ≡ flat_map skip_notes came ++ skip_notes line
skips-push came line =
    flat_map-append skip_notes came (line ∷ []) ∙ ap (λ (notes : List Note). flat_map skip_notes came ++ notes) (append-nil (skip_notes line))

idle_notes : (came : List NumberedLine) (line : NumberedLine) (told held : List Note) → told ++ held ≡ flat_map skip_notes came
    → told ++ (held ++ skip_notes line) ≡ flat_map skip_notes (came ++ line ∷ [])
idle_notes came line told held are =
    sym (append_assoc told held (skip_notes line)) ∙ ap (λ (notes : List Note). notes ++ skip_notes line) are ∙ sym (skips-push came line)

silent_idle : (listed now : List Instrument) (has : Bool) (came : List NumberedLine) (sent : List ℕ) (told held : List Note) (line : NumberedLine)
    → IsSilent line → (has ≡ true → now ≡ []) → IsIdle listed has came sent (told ++ held) → IsIdle now has (came ++ line ∷ []) sent (told ++ (held ++ skip_notes line))
silent_idle listed now has came sent told held line silent none idle = record {
  quiet = λ is. each-push IsSilent came line (idle.quiet is) silent;
  unlisted = none;
  unsent = idle.unsent;
  notes_are = idle_notes came line told held idle.notes_are;
}

-- ---- a line that brings a record

-- of a line that brings this record, on this feed
abbrev pub BringsOne : NumberedLine → Feed → Received → Type 0
BringsOne line feed received = (arrivals_of_line line ≡ arrival_on feed (record { line = line.number; received = received }) ∷ []) × (skip_notes line ≡ [])

-- where no run has begun
pub record_idle : (listed : List Instrument) (came : List NumberedLine) (sent : List ℕ) (told held : List Note) (line : NumberedLine) (feed : Feed) (received : Received)
    → BringsOne line feed received → IsIdle listed true came sent (told ++ held) → IsIdle listed true (came ++ line ∷ []) sent (told ++ held)
record_idle listed came sent told held line feed received line_brings idle = record {
  quiet = λ is. absurd (cc);
  unlisted = idle.unlisted;
  unsent = idle.unsent;
  notes_are = idle.notes_are ∙ sym (append-nil (flat_map skip_notes came)) ∙ ap (λ (notes : List Note). flat_map skip_notes came ++ notes) (sym line_brings.1) ∙ sym (skips-push came line);
}

module _ {A : Type 0} where
  -- a line that brings a reading or none, which a run took in
  taken_more : (channel : ListedChannel) (came : List NumberedLine) (sent : List ℕ) (told held own : List Note) (read : ReadLine) (old new : Run A)
      → IsReadLine read → (so_far : HasTakenLines channel came sent (told ++ held) old) → HasRun channel (readings_in so_far.reads ++ read.readings) sent new
      → own ≡ notes_of (channel_of channel) (events_of (readings_in so_far.reads)) read → HasTakenLines channel (came ++ read.line ∷ []) sent (told ++ (held ++ own)) new
  taken_more channel came sent told held own read old new is so_far has own_is = record {
    reads = so_far.reads ++ read ∷ [];
    of = lines-push so_far.reads read ∙ ap (λ (ls : List NumberedLine). ls ++ read.line ∷ []) so_far.of;
    each = each-push IsReadLine so_far.reads read so_far.each is;
    has_run = subst (λ (rs : List Reading). HasRun channel rs sent new) (sym (readings_in-push so_far.reads read)) has;
    notes_are = notes_more (channel_of channel) so_far.reads read told held own so_far.notes_are own_is;
  }

  silent_taken : (channel : ListedChannel) (came : List NumberedLine) (sent : List ℕ) (told held : List Note) (line : NumberedLine) (run : Run A)
      → IsSilent line → HasTakenLines channel came sent (told ++ held) run → HasTakenLines channel (came ++ line ∷ []) sent (told ++ (held ++ skip_notes line)) run
  silent_taken channel came sent told held line run silent so_far =
      let read : ReadLine = record { line = line; readings = [] } in
      let es = events_of (readings_in so_far.reads) in
      taken_more channel came sent told held (skip_notes line) read run run (record { of = sym silent; each = tt }) so_far
      (subst (λ (rs : List Reading). HasRun channel rs sent run) (sym (append-nil (readings_in so_far.reads))) so_far.has_run)
      (sym (append-nil (skip_notes line)) ∙ ap (λ (notes : List Note). skip_notes line ++ notes) (sym (none_moves (channel_of channel) es line.number)))

  pub silent_goes : (channel : ListedChannel) (has : Bool) (came : List NumberedLine) (sent : List ℕ) (told held : List Note) (line : NumberedLine) (run : Option (Run A))
      → IsSilent line → Goes channel has came (gone_out sent (told ++ held)) run → Goes channel has (came ++ line ∷ []) (gone_out sent (told ++ (held ++ skip_notes line))) run
  silent_goes channel has came sent told held line None silent goes = silent_idle channel.listed channel.listed has came sent told held line silent goes.unlisted goes
  silent_goes channel has came sent told held line (Some run) silent goes = record {
    begun = goes.begun;
    listed = goes.listed;
    taken = silent_taken channel came sent told held line run silent goes.taken;
  }

  -- an instrument more, before the first record
  pub listed_goes : (channel now : ListedChannel) (came : List NumberedLine) (sent : List ℕ) (told held : List Note) (line : NumberedLine) (run : Option (Run A))
      → IsSilent line → Goes channel false came (gone_out sent (told ++ held)) run → Goes now false (came ++ line ∷ []) (gone_out sent (told ++ (held ++ skip_notes line))) run
  listed_goes channel now came sent told held line None silent goes = silent_idle channel.listed now.listed false came sent told held line silent (λ is. absurd (cc)) goes
  listed_goes channel now came sent told held line (Some run) silent goes = absurd (let e : false ≡ true = goes.begun in cc)

  pub record_taken : (channel : ListedChannel) (came : List NumberedLine) (sent : List ℕ) (told held own : List Note) (line : NumberedLine) (feed : Feed) (received : Received) (old new : Run A)
      → BringsOne line feed received → (takes : TakesOn feed line.number received old new)
      → ((es : List Event) → ((listed : List Instrument) (gone : List Moment) → Stands listed es gone old.handler → own ≡ move_notes old.handler.arbiter.channel es line.number (brought_by takes.said)))
      → HasTakenLines channel came sent (told ++ held) old → HasTakenLines channel (came ++ line ∷ []) sent (told ++ (held ++ own)) new
  record_taken channel came sent told held own line feed received old new line_brings takes moves so_far =
      let arrival = arrival_on feed (record { line = line.number; received = received }) in
      let reading = reading_of arrival takes.said in
      let read : ReadLine = record { line = line; readings = reading ∷ [] } in
      let es = events_of (readings_in so_far.reads) in
      let run = so_far.has_run in
      let own_is : own ≡ move_notes (channel_of channel) es line.number (brought_by takes.said) =
      moves es channel.listed run.stands.gone run.stands.stands ∙ ap (λ (c : Channel). move_notes c es line.number (brought_by takes.said)) run.channel_is in
      taken_more channel came sent told held own read old new (record { of = sym line_brings.0; each = (takes.says, tt) }) so_far
      (read_more channel (readings_in so_far.reads) feed (record { line = line.number; received = received }) sent old new takes run)
      (own_is
      ∙ ap (λ (events : List Event). move_notes (channel_of channel) es line.number events) (sym (append-nil (brought_by takes.said)))
      ∙ ap (λ (notes : List Note). notes ++ move_notes (channel_of channel) es line.number (events_of (reading ∷ []))) (sym line_brings.1))

  -- a datagram, with what it moved
  pub datagram_taken : (channel : ListedChannel) (came : List NumberedLine) (sent : List ℕ) (told held : List Note) (line : NumberedLine) (feed : Feed) (received : Received) (moved : Moved) (old new : Run A)
      → BringsOne line feed received → TakesMoving feed (record { line = line.number; received = received }) moved old new
      → HasTakenLines channel came sent (told ++ held) old → HasTakenLines channel (came ++ line ∷ []) sent (told ++ (held ++ moved_notes line.number moved)) new
  datagram_taken channel came sent told held line feed received moved old new line_brings takes so_far =
      record_taken channel came sent told held (moved_notes line.number moved) line feed received old new line_brings takes.takes
      (λ es listed gone stands. told_is_moved old.handler.arbiter.channel es line.number (brought_by takes.takes.said) moved (takes.moves listed es gone stands)) so_far

  -- the close of the channel
  pub close_taken : (channel : ListedChannel) (came : List NumberedLine) (sent : List ℕ) (told held : List Note) (line : NumberedLine) (old new : Run A)
      → BringsOne line feeds.S Close → TakesOn feeds.S line.number Close old new
      → HasTakenLines channel came sent (told ++ held) old → HasTakenLines channel (came ++ line ∷ []) sent (told ++ (held ++ [])) new
  close_taken channel came sent told held line old new line_brings takes so_far =
      record_taken channel came sent told held [] line feeds.S Close old new line_brings takes
      (λ es listed gone stands. sym (ap (λ (said : Said). move_notes old.handler.arbiter.channel es line.number (brought_by said)) takes.says ∙ close_moves old.handler.arbiter.channel es line.number)) so_far

-- a datagram's line brings it on its feed, and an `X` line the close on feed S
pub packet_brings : (n : ℕ) (feed : Feed) (bytes : List ℕ) → BringsOne (record { number = n; content = Packet feed bytes }) feed (Datagram bytes)
packet_brings n feeds.A bytes = (refl, refl)
packet_brings n feeds.B bytes = (refl, refl)
packet_brings n feeds.S bytes = (refl, refl)

pub closing_brings : (n : ℕ) → BringsOne (record { number = n; content = Closing }) feeds.S Close
closing_brings n = (refl, refl)

-- ---- where a run begins

-- lines that bring no record, as lines that were read
abbrev pub silent_reads : List NumberedLine → List ReadLine
silent_reads came = map (λ (line : NumberedLine). record { line = line; readings = [] }) came

pub silent_lines : (came : List NumberedLine) → lines_of (silent_reads came) ≡ came
silent_lines [] = refl
silent_lines (line ∷ came) = ap (λ (ls : List NumberedLine). line ∷ ls) (silent_lines came)

pub silent_each : (came : List NumberedLine) → AllByRecursion IsSilent came → AllByRecursion IsReadLine (silent_reads came)
silent_each [] silent = tt
silent_each (line ∷ came) silent = (record { of = sym silent.0; each = tt }, silent_each came silent.1)

pub silent_readings : (came : List NumberedLine) → readings_in (silent_reads came) ≡ []
silent_readings [] = refl
silent_readings (line ∷ came) = silent_readings came

pub silent_notes : (channel : Channel) (es : List Event) (came : List NumberedLine) → notes_from channel es (silent_reads came) ≡ flat_map skip_notes came
silent_notes channel es [] = refl
silent_notes channel es (line ∷ came) =
    ap (λ (notes : List Note). (skip_notes line ++ notes) ++ notes_from channel (es ++ []) (silent_reads came)) (none_moves channel es line.number)
    ∙ ap (λ (notes : List Note). notes ++ notes_from channel (es ++ []) (silent_reads came)) (append-nil (skip_notes line))
    ∙ ap (λ (xs : List Event). skip_notes line ++ notes_from channel xs (silent_reads came)) (append-nil es)
    ∙ ap (λ (notes : List Note). skip_notes line ++ notes) (silent_notes channel es came)

pub run_begins_here : {A : Type 0} (channel : ListedChannel) (came : List NumberedLine) (sent : List ℕ) (notes : List Note) (run : Run A) → 0 < length channel.listed
    → HasRun channel [] [] run → IsIdle channel.listed false came sent notes → IsUnderWay channel true came (gone_out sent notes) run
run_begins_here channel came sent notes run some has idle = record {
  begun = refl;
  listed = some;
  taken = record {
    reads = silent_reads came;
    of = silent_lines came;
    each = silent_each came (idle.quiet refl);
    has_run = subst (λ (rs : List Reading). HasRun channel rs sent run) (sym (silent_readings came)) (subst (λ (text : List ℕ). HasRun channel [] text run) (sym idle.unsent) has);
    notes_are = idle.notes_are ∙ sym (silent_notes (channel_of channel) [] came);
  };
}

-- ---- a datagram, with what it moved

pub moving : {A : Type 0} (feed : Feed) (line : ℕ) (bytes : List ℕ) (told : Taken × Moved) (old new : Run A) → MovesDatagram feed bytes told old.handler new.handler
    → new.refusals ≡ with_told feed line (refusal_told told.0) old.refusals → TakesMoving feed (record { line = line; received = Datagram bytes }) told.1 old new
moving feed line bytes told old new moves refusals =
    let takes = moves.2 in
    record {
      takes = record {
        said = moves.0;
        says = moves.1;
        takes = record { goes = takes.goes; refusals = refusals ∙ ap (λ (r : Option Refusal). with_told feed line r old.refusals) takes.refused_is };
      };
      moves = moves.3;
    }
