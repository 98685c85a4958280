-- A text that comes piece by piece, and the end of it.
use Rattle.std.proofs.Common.{◌≡◌, ℕ, zero, suc, ◌+◌, take, ◌<◌, ◌≤◌, Bool, true, false, List, [], ◌∷◌, ◌++◌, length, Option, Some, None, Result, Ok, Err, refl, sym, ap, subst, ◌∙◌, append_assoc, append-nil, arith}
use Rattle.std.specs.Prelude.{◌==◌, IfOk, IfErr, map}
use Rattle.std.proofs.lemmas.Bool.Decides.{nat_tests}
use Rattle.std.specs.List.{AllByRecursion, enumerate_from, flat_map}
use Rattle.std.proofs.lemmas.List.{map-append}
use Rattle.std.specs.Str.Lines.{lines}
use Rattle.mdp_arbiter.specs.Accepted.{Event}
use Rattle.mdp_arbiter.specs.Channel.{Channel, ListedChannel, channel_of}
use Rattle.mdp_arbiter.specs.Machine.{moves_of, trace}
use Rattle.mdp_desks.specs.Moments.{shown_lines}
use Rattle.mdp_engine.proofs.Owing.{text_so_far}
use Rattle.mdp_templates.specs.declared.instrument.Instrument.{Instrument}
use Rattle.mdp_capture.specs.Capture.{CaptureContent, IfRefused, RefusedLine, add_line, add_lines, and_then, capture_of, has_record, needs_instrument, next_line, no_capture}
use Rattle.mdp_capture.specs.Fronts.{front_from, front_of, unless_stopped}
use Rattle.mdp_capture.specs.Line.{line_of}
use Rattle.mdp_capture.specs.Cutting.{BeginsWithLines, CutsInto, IsStopped}
use Rattle.mdp_capture.specs.Lines.{Brings, NumberedLine, instruments_of, line_with_number}
use Rattle.mdp_capture.proofs.Bringing.{all_lines, next_number, number_at}
use Rattle.mdp_capture.proofs.GoingOn.{add_both}
use Rattle.mdp_capture.specs.declared.fault.CaptureFault.{CaptureFault}
use Rattle.mdp_capture.specs.declared.fault.CaptureRefusal.TheVariants.{NoInstrument}
use Rattle.mdp_capture.proofs.LinesCut.{cuts_on, if_refused}
use Rattle.mdp_crew.specs.declared.fault.RunFault.{RunFault}
use Rattle.mdp_pipeline.specs.declared.ended.EndNote.{EndNote}
use Rattle.mdp_pipeline.specs.declared.ended.EndedRun.{EndedRun}
use Rattle.mdp_pipeline.specs.declared.note.Note.{Note}
use Rattle.mdp_pipeline.specs.declared.progress.Run.{Run}
use Rattle.mdp_pipeline.specs.declared.streamed.StreamedRun.{StreamedRun}
use Rattle.mdp_pipeline.specs.declared.streamed_lines.StreamedLines.{StreamedLines}
use Rattle.mdp_pipeline.specs.declared.summary.Summary.{Summary}
use Rattle.mdp_pipeline.specs.Notes.{ReadLine, IsReadLine, end_note, lines_of, readings_in, skip_notes}
use Rattle.mdp_pipeline.specs.Output.{BeginsInTextOrder, end_lines, shown_output, standing_in}
use Rattle.mdp_pipeline.specs.Reading.{Reading, AreReadings, events_of}
use Rattle.mdp_pipeline.specs.RefusalTexts.{RefusalTexts}
use Rattle.mdp_pipeline.specs.Running.{BeginsAll, EndsAs, EndsEarly, HasRun, HasWritten, PrintsAll, Writes, joined_texts}
use Rattle.mdp_pipeline.specs.Streamed.{EndsAfter, EndsAsCapture, EndsBehind, EndsWith, Goes, gone_out, HasTakenLines, IsRunOrFirst, LacksInstrument, IsIdle, IsUnderWay, LinesShow, PrintsLines, RefusesText, Setup, StandsBehind, StopsAtEnd, StopsInPiece, Streams, TakesEnd, TakesPiece, TakesTexts, channel_with, numbered, setup_of, text_held}
use Rattle.mdp_pipeline.specs.Streamed.LinesShow.{unlisted, listed}
use Rattle.mdp_pipeline.specs.TextOrder.{arrivals_in, arrivals_of_line}
use Rattle.mdp_pipeline.proofs.Beginnings.{begins_none, begins_so_far, readings-append}
use Rattle.mdp_pipeline.proofs.Ending.{begins_all, writes_shown}
use Rattle.mdp_pipeline.proofs.LinesBehind.{one_more}
use Rattle.mdp_pipeline.proofs.Streaming.{IsSilent, enumerate-append, run_begins_here, silent_each, silent_lines, silent_notes, silent_readings, silent_reads}
use Rattle.mdp_pipeline.proofs.TextOrder.{begins_in_text_order, prints_in_text_order}

-- ---- the readings of lines

reads_are : (reads : List ReadLine) → AllByRecursion IsReadLine reads → AreReadings (arrivals_in (lines_of reads)) (readings_in reads)
reads_are [] each = record { of = refl; each = tt }
reads_are (read ∷ reads) each =
    readings-append (arrivals_of_line read.line) (arrivals_in (lines_of reads)) read.readings (readings_in reads) each.0 (reads_are reads each.1)

taken_are : (came : List NumberedLine) (reads : List ReadLine) → lines_of reads ≡ came → AllByRecursion IsReadLine reads → AreReadings (arrivals_in came) (readings_in reads)
taken_are came reads of each = subst (λ (ls : List NumberedLine). AreReadings (arrivals_in ls) (readings_in reads)) of (reads_are reads each)

module _ {A : Type 0} where
  -- ---- a piece

  pub piece_taken : (old new : StreamedRun A) (piece : List ℕ) → CutsInto (λ front. TakesTexts old.lines front new.lines) (old.cutter ++ piece) new.cutter → TakesPiece piece old new
  piece_taken old new piece cut setup text sent told so_far = record {
    front = so_far.front ++ cut.front;
    cuts = λ more.
        cuts_on text old.cutter piece so_far.front so_far.cuts more
        ∙ ap (λ (ls : List (List ℕ)). so_far.front ++ ls) (cut.cuts more)
        ∙ sym (append_assoc so_far.front cut.front (lines (new.cutter ++ more)));
    stands = cut.says setup so_far.front sent told so_far.stands;
  }

  pub piece_stops : (old new : StreamedRun A) (piece : List ℕ) (fault : CaptureFault)
      → IfRefused fault (IsStopped (BeginsWithLines (old.cutter ++ piece)) (λ front. TakesTexts old.lines front new.lines) (RefusesText new.lines))
      → IfRefused fault (λ refused. StopsInPiece piece refused old new)
  piece_stops old new piece fault =
      if_refused (IsStopped (BeginsWithLines (old.cutter ++ piece)) (λ front. TakesTexts old.lines front new.lines) (RefusesText new.lines)) (λ refused. StopsInPiece piece refused old new) fault
      (λ refused stop setup text more sent told so_far.
      let stands = stop.taken setup so_far.front sent told so_far.stands in
      record {
        before = so_far.front ++ stop.front;
        line = stop.line;
        rest = lines (stop.are.0 ++ more);
        of = cuts_on text old.cutter piece so_far.front so_far.cuts more
            ∙ ap (λ (ls : List (List ℕ)). so_far.front ++ ls) (stop.are.1 more ∙ append_assoc stop.front (stop.line ∷ []) (lines (stop.are.0 ++ more)))
            ∙ sym (append_assoc so_far.front stop.front (stop.line ∷ lines (stop.are.0 ++ more)));
        stands = stands;
        is_refused = stop.is_refused setup (so_far.front ++ stop.front) sent told stands;
      })

  -- ---- the end

  ends_there : (setup : Setup) (now : StreamedRun A) (text sent : List ℕ) (told : List Note) (so_far : Streams setup text sent told now) → lines text ≡ so_far.front ++ lines now.cutter
  ends_there setup now text sent told so_far =
      ap lines (sym (append-nil text)) ∙ so_far.cuts [] ∙ ap (λ (t : List ℕ). so_far.front ++ lines t) (append-nil now.cutter)

  pub end_taken : (old new : StreamedRun A) → TakesTexts old.lines (lines old.cutter) new.lines → TakesEnd old new
  end_taken old new takes setup text sent told so_far =
      subst (λ (ls : List (List ℕ)). StandsBehind setup ls sent told new.lines) (sym (ends_there setup old text sent told so_far)) (takes setup so_far.front sent told so_far.stands)

  pub end_stops : (old new : StreamedRun A) (fault : CaptureFault)
      → IfRefused fault (IsStopped (λ all. all ≡ lines old.cutter) (λ front. TakesTexts old.lines front new.lines) (RefusesText new.lines))
      → IfRefused fault (λ refused. StopsAtEnd refused old new)
  end_stops old new fault =
      if_refused (IsStopped (λ all. all ≡ lines old.cutter) (λ front. TakesTexts old.lines front new.lines) (RefusesText new.lines)) (λ refused. StopsAtEnd refused old new) fault
      (λ refused stop setup text sent told so_far.
      let stands = stop.taken setup so_far.front sent told so_far.stands in
      record {
        before = so_far.front ++ stop.front;
        line = stop.line;
        rest = [];
        of = ends_there setup old text sent told so_far ∙ ap (λ (ls : List (List ℕ)). so_far.front ++ ls) (sym stop.are) ∙ sym (append_assoc so_far.front stop.front (stop.line ∷ []));
        stands = stands;
        is_refused = stop.is_refused setup (so_far.front ++ stop.front) sent told stands;
      })

  -- ---- the run of a text that has ended

  pub ended_run : (channel : ListedChannel) (has : Bool) (came : List NumberedLine) (sent : List ℕ) (notes : List Note) (run : Run A) → IsUnderWay channel has came (gone_out sent notes) run → HasTakenLines channel came sent notes run
  ended_run channel has came sent notes run under = under.taken

  -- where no record came, a run begins at the end
  pub ended_fresh : (channel : ListedChannel) (has : Bool) (came : List NumberedLine) (sent : List ℕ) (notes : List Note) (run : Run A) → 0 < length channel.listed → HasRun channel [] [] run
      → Goes {A = A} channel has came (gone_out sent notes) None → HasTakenLines channel came sent notes run
  ended_fresh channel true came sent notes run some has goes = absurd (let none = goes.unlisted refl in omega (arith, some, ap length none))
  ended_fresh channel false came sent notes run some has goes = (run_begins_here channel came sent notes run some has goes).taken

  ended_goes : (channel : ListedChannel) (has : Bool) (came : List NumberedLine) (sent : List ℕ) (notes : List Note) (run : Option (Run A)) (made : Run A) → 0 < length channel.listed
      → IsRunOrFirst channel run made → Goes channel has came (gone_out sent notes) run → HasTakenLines channel came sent notes made
  ended_goes channel has came sent notes None made some is goes = ended_fresh channel has came sent notes made some is goes
  ended_goes channel has came sent notes (Some run) made some is goes = subst (HasTakenLines channel came sent notes) (sym is) goes.taken

  pub ends_as_capture : (old : StreamedLines A) (ended : EndedRun A) → ended.instruments ≡ old.instruments → 0 < length old.instruments
      → (1 ≤ old.window → old.window ≤ 65536 → IsRunOrFirst (channel_with old.instruments (setup_of old.window old.start)) old.run ended.run) → EndsAsCapture old ended
  ends_as_capture old ended same some made setup texts sent told stands =
      let b = stands.behind in
      let listed = stands.capture.instruments in
      let channel = channel_with listed setup in
      let channel_is : channel_with old.instruments (setup_of old.window old.start) ≡ channel = rw (b.instruments_are, b.window_is, b.start_is) refl in
      let is = subst (λ (c : ListedChannel). IsRunOrFirst c old.run ended.run) channel_is (made (omega (arith, b.window_is, b.least)) (omega (arith, b.window_is, b.most))) in
      let listed_some : 0 < length listed = subst (λ (xs : List Instrument). 0 < length xs) b.instruments_are some in (
        stands.capture,
        record {
          comes_to = stands.comes_to;
          ends = record {
            instruments_are = same ∙ b.instruments_are;
            listed = listed_some;
            taken = ended_goes channel (has_record stands.capture) (numbered texts) sent (told ++ old.notes.items) old.run ended.run listed_some is b.goes;
          };
        },
      )

  -- where no instrument is listed
  pub lacks_all : (old : StreamedLines A) → old.instruments ≡ [] → LacksInstrument old (record { line = 0; refusal = NoInstrument })
  lacks_all old none = (refl, λ setup texts sent told stands. (stands.capture, stands.comes_to, sym stands.behind.instruments_are ∙ none))

  -- ---- its text

  writes : (channel : ListedChannel) (came : List NumberedLine) (start sent taken : List ℕ) (notes : List Note) (run : Run A) → taken ≡ start ++ sent → HasTakenLines channel came sent notes run
      → Writes channel (arrivals_in came) start taken run
  writes channel came start sent taken notes run went so_far = record {
    sent = sent;
    taken_is = went;
    over = record {
      readings = readings_in so_far.reads;
      are = taken_are came so_far.reads so_far.of so_far.each;
      run = so_far.has_run;
    };
  }

  pub ended_text : (ended : EndedRun A) (taken after : List ℕ) (result : Result Summary RunFault)
      → IfOk result (λ (summary : Summary). (channel : ListedChannel) (events : List Event) (start : List ℕ) → HasWritten channel events start taken ended.run.handler
      → (text : List ℕ) × (after ≡ start ++ text) × EndsAs channel events (joined_texts ended.run.refusals) text (standing_in summary))
      → IfOk result (λ (summary : Summary). (channel : ListedChannel) (came : List NumberedLine) (start sent : List ℕ) (notes : List Note)
      → EndsAfter channel came sent notes ended → taken ≡ start ++ sent
      → (text : List ℕ) × (after ≡ start ++ text) × PrintsLines channel came notes text (standing_in summary))
  ended_text ended taken after (Ok summary) ends = λ channel came start sent notes is went.
      let readings = readings_in is.taken.reads in
      let events = events_of readings in
      let run = is.taken.has_run in
      let so_far : HasWritten channel events start taken ended.run.handler = record { sent = sent; taken_is = went; stands = run.stands; channel_is = run.channel_is } in
      let told = ends channel events start so_far in
      let all : PrintsAll channel (arrivals_in came) told.0 (standing_in summary) = record {
        readings = readings;
        are = taken_are came is.taken.reads is.taken.of is.taken.each;
        standing_is = told.2.standing_is;
        shown = told.2.shown ∙ ap (λ (t : RefusalTexts). shown_output channel (joined_texts t) events) run.refusals_are;
      } in (
        told.0,
        told.1,
        record {
          prints = prints_in_text_order channel came told.0 (standing_in summary) all;
          shown = shown_lines channel.listed (moves_of channel events);
          end = end_lines channel (joined_texts ended.run.refusals) events;
          whole = told.2.shown;
          shows = listed is.listed is.taken.reads is.taken.of is.taken.each refl is.taken.notes_are;
        },
      )
  ended_text ended taken after (Err fault) ends = tt

  pub ended_early : (ended : EndedRun A) (taken after : List ℕ) (result : Result Summary RunFault)
      → IfErr result (λ (fault : RunFault). (channel : ListedChannel) (events : List Event) (start : List ℕ) → HasWritten channel events start taken ended.run.handler
      → EndsEarly channel events (joined_texts ended.run.refusals) start after)
      → IfErr result (λ (fault : RunFault). (channel : ListedChannel) (came : List NumberedLine) (start sent : List ℕ) (notes : List Note)
      → EndsAfter channel came sent notes ended → taken ≡ start ++ sent → BeginsInTextOrder channel came start after)
  ended_early ended taken after (Ok summary) ends = tt
  ended_early ended taken after (Err fault) ends = λ channel came start sent notes is went.
      let so_far = writes channel came start sent taken notes ended.run went is.taken in
      begins_in_text_order channel came start after
      (begins_all channel (arrivals_in came) start taken after ended.run so_far
      (ends channel (events_of so_far.over.readings) start (writes_shown channel (arrivals_in came) start taken ended.run so_far)))

-- ---- what has gone out

-- before the first record
shows_quiet : (channel : ListedChannel) (came : List NumberedLine) (notes : List Note) → 0 < length channel.listed → AllByRecursion IsSilent came → notes ≡ flat_map skip_notes came → LinesShow channel came [] notes
shows_quiet channel came notes some quiet are =
    listed some (silent_reads came) (silent_lines came) (silent_each came quiet)
    (sym (ap (λ (rs : List Reading). shown_lines channel.listed (moves_of channel (events_of rs))) (silent_readings came)))
    (are ∙ sym (silent_notes (channel_of channel) [] came))

shows_idle : (xs : List Instrument) (channel : ListedChannel) (has : Bool) (came : List NumberedLine) (sent : List ℕ) (notes : List Note) → channel.listed ≡ xs
    → IsIdle channel.listed has came sent notes → LinesShow channel came sent notes
shows_idle [] channel has came sent notes is idle = unlisted is idle.unsent idle.notes_are
shows_idle (x ∷ xs) channel true came sent notes is idle = absurd (let none = sym is ∙ idle.unlisted refl in cc)
shows_idle (x ∷ xs) channel false came sent notes is idle =
    subst (λ (text : List ℕ). LinesShow channel came text notes) (sym idle.unsent)
    (shows_quiet channel came notes (omega (arith, ap length is)) (idle.quiet refl) idle.notes_are)

pub shows_taken : {A : Type 0} (channel : ListedChannel) (came : List NumberedLine) (sent : List ℕ) (notes : List Note) (run : Run A) → 0 < length channel.listed
    → HasTakenLines channel came sent notes run → LinesShow channel came (sent ++ run.handler.held) notes
shows_taken channel came sent notes run some taken =
    let es = events_of (readings_in taken.reads) in
    let has = taken.has_run in
    listed some taken.reads taken.of taken.each
    (ap (λ (t : List ℕ). t ++ run.handler.held) has.stands.sent_is
    ∙ text_so_far channel.listed es has.stands.gone run.handler has.stands.keeps has.stands.stands
    ∙ ap (λ (c : Channel). shown_lines channel.listed (trace c es)) has.channel_is)
    taken.notes_are

-- what was sent, and what is held
pub shows_all : {A : Type 0} (channel : ListedChannel) (has : Bool) (came : List NumberedLine) (sent : List ℕ) (notes : List Note) (run : Option (Run A))
    → Goes channel has came (gone_out sent notes) run → LinesShow channel came (sent ++ text_held run) notes
shows_all channel has came sent notes None goes =
    subst (λ (text : List ℕ). LinesShow channel came text notes) (sym (append-nil sent)) (shows_idle channel.listed channel has came sent notes refl goes)
shows_all channel has came sent notes (Some run) goes = shows_taken channel came sent notes run goes.listed goes.taken

-- where nothing is held
pub shows_sent : {A : Type 0} (channel : ListedChannel) (has : Bool) (came : List NumberedLine) (sent : List ℕ) (notes : List Note) (run : Option (Run A)) → text_held run ≡ []
    → Goes channel has came (gone_out sent notes) run → LinesShow channel came sent notes
shows_sent channel has came sent notes run none goes =
    subst (λ (text : List ℕ). LinesShow channel came text notes) (ap (λ (held : List ℕ). sent ++ held) none ∙ append-nil sent) (shows_all channel has came sent notes run goes)

take-nil : (n : ℕ) → take n (let none : List ℕ = [] in none) ≡ []
take-nil zero = refl
take-nil (suc n) = refl

-- of what is held so many bytes went out
pub begins_goes : {A : Type 0} (channel : ListedChannel) (has : Bool) (came : List NumberedLine) (start sent taken : List ℕ) (notes : List Note) (run : Option (Run A)) (n : ℕ)
    → taken ≡ (start ++ sent) ++ take n (text_held run) → Goes channel has came (gone_out sent notes) run → BeginsInTextOrder channel came start taken
begins_goes channel has came start sent taken notes None n went goes =
    let same : taken ≡ start =
    went ∙ ap (λ (t : List ℕ). (start ++ sent) ++ t) (take-nil n) ∙ append-nil (start ++ sent) ∙ ap (λ (t : List ℕ). start ++ t) goes.unsent ∙ append-nil start in
    begins_in_text_order channel came start taken
    (subst (λ (t : List ℕ). BeginsAll channel (arrivals_in came) start t) (sym same) (begins_none channel (arrivals_in came) start))
begins_goes channel has came start sent taken notes (Some run) n went goes =
    begins_in_text_order channel came start taken
    (begins_so_far channel (arrivals_in came) (arrivals_in came) [] start (start ++ sent) taken run n (sym (append-nil (arrivals_in came))) went
    (writes channel came start sent (start ++ sent) notes run refl goes.taken))

-- the instruments of a capture are those that its lines list
pub instruments_there : (texts : List (List ℕ)) (capture : CaptureContent) → add_lines 1 texts no_capture ≡ Ok capture → capture.instruments ≡ flat_map instruments_of (numbered texts)
instruments_there texts capture is = (all_lines 1 texts no_capture capture is).instruments

-- ---- the first lines of a text

-- the lines of a text that begins with these
pub numbered-append : (texts more : List (List ℕ)) → numbered (texts ++ more) ≡ numbered texts ++ map line_with_number (enumerate_from (1 + length texts) more)
numbered-append texts more =
    ap (map line_with_number) (enumerate-append 1 texts more) ∙ map-append line_with_number (enumerate_from 1 texts) (enumerate_from (1 + length texts) more)

-- ---- a line that refuses the run

front_step : (r : Result CaptureContent RefusedLine) (c capture to : CaptureContent) (next : CaptureContent → Result CaptureContent RefusedLine) (front : CaptureContent → CaptureContent)
    → and_then r next ≡ Ok capture → ((middle : CaptureContent) → next middle ≡ Ok capture → front middle ≡ to) → unless_stopped r c front ≡ to
front_step (Ok middle) c capture to next front is on = on middle is
front_step (Err refused) c capture to next front is on = absurd (cc)

-- the front of lines that begin with some that make this capture
front_both : (place : ℕ) (texts more : List (List ℕ)) (c capture : CaptureContent) → add_lines (number_at place) texts c ≡ Ok capture
    → front_from (number_at place) (texts ++ more) c ≡ front_from (number_at (place + length texts)) more capture
front_both place [] more c capture is =
    let same : c ≡ capture = cc in
    rw same (ap (λ (p : ℕ). front_from (number_at p) more capture) (omega arith))
front_both place (text ∷ rest) more c capture is =
    let n = number_at place in
    front_step (add_line n (line_of text) c) c capture (front_from (number_at (place + length (text ∷ rest))) more capture) (add_lines (next_line n) rest) (front_from (next_line n) (rest ++ more)) is
    (λ middle on.
    ap (λ (m : ℕ). front_from m (rest ++ more) middle) (next_number place)
    ∙ front_both (place + 1) rest more middle capture (subst (λ (m : ℕ). add_lines m rest middle ≡ Ok capture) (next_number place) on)
    ∙ ap (λ (p : ℕ). front_from (number_at p) more capture) (omega arith))

line_refused : (r : Result CaptureContent RefusedLine) (n : ℕ) (refused : RefusedLine) → and_then r (add_lines n []) ≡ Err refused → r ≡ Err refused
line_refused (Ok c) n refused is = absurd (cc)
line_refused (Err other) n refused is = is

-- the front of a text that is refused behind these lines is what they make
pub front_there : (whole : List ℕ) (before : List (List ℕ)) (line : List ℕ) (rest : List (List ℕ)) (capture : CaptureContent) (refused : RefusedLine) → lines whole ≡ before ++ line ∷ rest
    → add_lines 1 before no_capture ≡ Ok capture → add_lines 1 (before ++ line ∷ []) no_capture ≡ Err refused → front_of whole ≡ capture
front_there whole before line rest capture refused of comes is =
    let n = number_at (1 + length before) in
    let refuses : add_line n (line_of line) capture ≡ Err refused = line_refused (add_line n (line_of line) capture) (next_line n) refused (sym (one_more before line capture comes) ∙ is) in
    ap (λ (ls : List (List ℕ)). front_from 1 ls no_capture) of
    ∙ front_both 1 before (line ∷ rest) no_capture capture comes
    ∙ ap (λ (r : Result CaptureContent RefusedLine). unless_stopped r capture (front_from (next_line n) rest)) refuses

-- and that is its refusal
pub refused_there : (whole : List ℕ) (before : List (List ℕ)) (line : List ℕ) (rest : List (List ℕ)) (refused : RefusedLine) → lines whole ≡ before ++ line ∷ rest
    → add_lines 1 (before ++ line ∷ []) no_capture ≡ Err refused → capture_of whole ≡ Err refused
refused_there whole before line rest refused of is =
    ap (λ (ls : List (List ℕ)). needs_instrument (add_lines 1 ls no_capture)) (of ∙ sym (append_assoc before (line ∷ []) rest))
    ∙ ap needs_instrument (add_both 1 (before ++ line ∷ []) rest no_capture
    ∙ ap (λ (r : Result CaptureContent RefusedLine). and_then r (add_lines (number_at (1 + length (before ++ line ∷ []))) rest)) is)

-- what lines that make a capture bring is in its lists
pub brings_there : (texts : List (List ℕ)) (capture : CaptureContent) → add_lines 1 texts no_capture ≡ Ok capture → Brings (numbered texts) capture
brings_there texts capture is =
    let adds = all_lines 1 texts no_capture capture is in
    record { instruments = adds.instruments; a = adds.a; b = adds.b; s = adds.s; skipped = adds.skipped }

-- the front of a text that no line refuses
pub front_whole : (texts : List (List ℕ)) (capture : CaptureContent) → add_lines 1 texts no_capture ≡ Ok capture → front_from 1 texts no_capture ≡ capture
front_whole texts capture is = ap (λ (ls : List (List ℕ)). front_from 1 ls no_capture) (sym (append-nil texts)) ∙ front_both 1 texts [] no_capture capture is

-- ---- a text that has ended

some_listed : (xs : List Instrument) (capture : CaptureContent) → capture.instruments ≡ xs → 0 < length xs → needs_instrument (Ok capture) ≡ Ok capture
some_listed [] capture is some = absurd (omega (arith, some))
some_listed (x ∷ xs) capture is some =
    let other : (length (x ∷ xs) == 0) ≡ false = grind (arith, nat_tests) in
    rw is (rw other refl)

pub makes_capture : (whole : List ℕ) (capture : CaptureContent) → add_lines 1 (lines whole) no_capture ≡ Ok capture → 0 < length capture.instruments → capture_of whole ≡ Ok capture
makes_capture whole capture comes some = ap needs_instrument comes ∙ some_listed capture.instruments capture refl some

pub lacks_one : (whole : List ℕ) (capture : CaptureContent) → add_lines 1 (lines whole) no_capture ≡ Ok capture → capture.instruments ≡ [] → capture_of whole ≡ Err (record { line = 0; refusal = NoInstrument })
lacks_one whole capture comes none = ap needs_instrument comes ∙ rw none refl

-- what the lines of a run show that has come to its end
pub ended_shows : {A : Type 0} (setup : Setup) (texts : List (List ℕ)) (capture : CaptureContent) (sent : List ℕ) (notes : List Note) (ended : EndedRun A) → EndsBehind setup texts capture (gone_out sent notes) ended
    → LinesShow (channel_with capture.instruments setup) (numbered texts) (sent ++ ended.run.handler.held) notes
ended_shows setup texts capture sent notes ended is = shows_taken (channel_with capture.instruments setup) (numbered texts) sent notes ended.run is.ends.listed is.ends.taken

-- what keeps it from going on
pub ends_with : {A : Type 0} (channel : ListedChannel) (came : List NumberedLine) (sent : List ℕ) (notes : List Note) (ended : EndedRun A) (note : Option EndNote) → EndsAfter channel came sent notes ended
    → note ≡ end_note ended.instruments ended.run.handler → EndsWith channel came note
ends_with channel came sent notes ended note ends is = record {
  reads = ends.taken.reads;
  of = ends.taken.of;
  each = ends.taken.each;
  sent = sent;
  engine = ended.run.handler;
  stands = ends.taken.has_run.stands;
  channel_is = ends.taken.has_run.channel_is;
  note_is = is ∙ ap (λ (listed : List Instrument). end_note listed ended.run.handler) ends.instruments_are;
}
