-- What a run has come to behind the lines of a text, and where it goes from there.
use Rattle.std.proofs.Common.{◌≡◌, ℕ, ◌+◌, ◌<◌, ◌≤◌, Bool, true, false, List, [], ◌∷◌, ◌++◌, length, length-append, Option, Some, None, Result, Ok, Err, refl, sym, ap, subst, ◌∙◌, append-nil, arith}
use Rattle.std.specs.Prelude.{MatchOption, map, min}
use Rattle.std.specs.List.{enumerate_from}
use Rattle.std.proofs.lemmas.List.{map-append}
use Rattle.mdp_arbiter.specs.Channel.{ListedChannel}
use Rattle.mdp_arbiter.specs.Accepted.{Event}
use Rattle.mdp_templates.specs.declared.feed.Feed.{Feed}
use Rattle.mdp_templates.specs.declared.feed.Feed.TheVariants as feeds
use Rattle.mdp_templates.specs.declared.instrument.Instrument.{Instrument}
use Rattle.mdp_capture.specs.Capture.{CaptureContent, RefusedLine, add_line, add_lines, add_record, and_then, has_record, next_line, no_capture, refusal_after, refusal_of, unless_refused}
use Rattle.mdp_capture.specs.Line.{LineContent, Blank, Listing, Packet, Closing, Skipped, line_of}
use Rattle.mdp_capture.specs.Lines.{NumberedLine, line_with_number}
use Rattle.mdp_capture.specs.Listed.{listed_after}
use Rattle.mdp_capture.specs.Record.{Received, RecordContent, Datagram, Close}
use Rattle.mdp_capture.specs.declared.fault.CaptureRefusal.{CaptureRefusal}
use Rattle.mdp_capture.specs.declared.fault.CaptureRefusal.TheVariants.{InstrumentLate}
use Rattle.mdp_capture.specs.declared.skip.Skip.{Skip}
use Rattle.mdp_capture.proofs.Bringing.{counted_some, number_at}
use Rattle.mdp_capture.proofs.GoingOn.{add_both}
use Rattle.mdp_receiver.specs.declared.moved.Moved.{Moved}
use Rattle.mdp_pipeline.specs.declared.note.Note.{Note}
use Rattle.mdp_pipeline.specs.declared.note.Note.TheVariants as notes
use Rattle.mdp_pipeline.specs.declared.progress.Run.{Run}
use Rattle.mdp_pipeline.specs.declared.streamed_lines.StreamedLines.{StreamedLines}
use Rattle.mdp_pipeline.specs.Notes.{moved_notes, readings_in, skip_notes}
use Rattle.mdp_pipeline.specs.Reading.{events_of}
use Rattle.mdp_pipeline.specs.Running.{HasRun, StandsSent, TakesMoving, TakesOn}
use Rattle.mdp_pipeline.specs.Streamed.{BeginsRun, Behind, BehindCapture, GoneOut, Goes, gone_out, HasHandedOn, HasTakenLines, IsIdle, IsUnderWay, LetsTextGo, RefusesContent, RefusesText, Setup, StandsBehind, TakesContent, TakesTexts, channel_with, numbered, setup_of, text_held}
use Rattle.mdp_pipeline.proofs.Streaming.{BringsOne, closing_brings, close_taken, datagram_taken, enumerate-append, listed_goes, packet_brings, record_idle, run_begins_here, silent_goes}

-- ---- numbers of lines

numbered-push : (before : List (List ℕ)) (text : List ℕ) → numbered (before ++ text ∷ []) ≡ numbered before ++ line_with_number (1 + length before, text) ∷ []
numbered-push before text =
    ap (map line_with_number) (enumerate-append 1 before (text ∷ []))
    ∙ map-append line_with_number (enumerate_from 1 before) ((1 + length before, text) ∷ [])

-- what a text comes to with one more line
pub one_more : (before : List (List ℕ)) (text : List ℕ) (capture : CaptureContent) → add_lines 1 before no_capture ≡ Ok capture
    → add_lines 1 (before ++ text ∷ []) no_capture ≡ and_then (add_line (min (1 + length before) 4294967295) (line_of text) capture) (add_lines (next_line (min (1 + length before) 4294967295)) [])
one_more before text capture comes =
    add_both 1 before (text ∷ []) no_capture
    ∙ ap (λ (r : Result CaptureContent RefusedLine). and_then r (add_lines (number_at (1 + length before)) (text ∷ []))) comes

-- ---- records of a capture

same_instruments : (feed : Feed) (entry : RecordContent) (capture : CaptureContent) → (add_record feed entry capture).instruments ≡ capture.instruments
same_instruments feeds.A entry capture = refl
same_instruments feeds.B entry capture = refl
same_instruments feeds.S entry capture = refl

some_more : {X : Type 0} (xs : List X) (x : X) → 0 < length (xs ++ x ∷ [])
some_more xs x = omega (arith, length-append xs (x ∷ []))

has_added : (feed : Feed) (entry : RecordContent) (capture : CaptureContent) → has_record (add_record feed entry capture) ≡ true
has_added feeds.A entry capture = let some = some_more capture.a entry in counted_some (length (capture.a ++ entry ∷ [])) (length capture.b) (length capture.s) (omega (arith, some))
has_added feeds.B entry capture = let some = some_more capture.b entry in counted_some (length capture.a) (length (capture.b ++ entry ∷ [])) (length capture.s) (omega (arith, some))
has_added feeds.S entry capture = let some = some_more capture.s entry in counted_some (length capture.a) (length capture.b) (length (capture.s ++ entry ∷ [])) (omega (arith, some))

module _ {A : Type 0} where
  -- ---- the same lines

  -- all but the number of the next line and the decoder is the same
  pub record IsSame (old new : StreamedLines A) : Type 0 where
    pub window : new.window ≡ old.window
    pub start : new.start ≡ old.start
    pub instruments : new.instruments ≡ old.instruments
    pub has : new.has_record ≡ old.has_record
    pub notes : new.notes.items ≡ old.notes.items
    pub run : new.run ≡ old.run

  same_behind : (channel : ListedChannel) (has : Bool) (came : List NumberedLine) (sent : List ℕ) (told : List Note) (old new : StreamedLines A) → IsSame old new
      → Behind channel has came (gone_out sent told) old → Behind channel has came (gone_out sent told) new
  same_behind channel has came sent told old new same behind = record {
    least = behind.least;
    most = behind.most;
    window_is = same.window ∙ behind.window_is;
    start_is = same.start ∙ behind.start_is;
    instruments_are = same.instruments ∙ behind.instruments_are;
    record_is = same.has ∙ behind.record_is;
    goes = subst (Goes channel has came (gone_out sent (told ++ new.notes.items))) (sym same.run)
        (subst (λ (held : List Note). Goes channel has came (gone_out sent (told ++ held)) old.run) (sym same.notes) behind.goes);
  }

  -- a line that was taken in, once it is counted
  pub text_taken : (old seen mid new : StreamedLines A) (text : List ℕ) (content : LineContent) → content ≡ line_of text → IsSame old seen → seen.line ≡ old.line
      → TakesContent content seen mid → mid.line ≡ seen.line → IsSame mid new → new.line ≡ next_line mid.line → TakesTexts old (text ∷ []) new
  text_taken old seen mid new text content says same at takes stays after counts setup before sent told stands =
      let b = same_behind _ _ (numbered before) sent told old seen same stands.behind in
      let t = takes setup stands.capture (numbered before) (gone_out sent told) b in
      let here : seen.line ≡ min (1 + length before) 4294967295 = at ∙ stands.line_is in
      let is : add_line (min (1 + length before) 4294967295) (line_of text) stands.capture ≡ Ok t.0 =
      ap (λ (n : ℕ). add_line n (line_of text) stands.capture) (sym here) ∙ ap (λ (c : LineContent). add_line seen.line c stands.capture) (sym says) ∙ t.1 in
      let line : NumberedLine = record { number = seen.line; content = content } in
      let line_is : line ≡ line_with_number (1 + length before, text) = rw (here, says) refl in
      let came : numbered before ++ line ∷ [] ≡ numbered (before ++ text ∷ []) = ap (λ (l : NumberedLine). numbered before ++ l ∷ []) line_is ∙ sym (numbered-push before text) in
      record {
        capture = t.0;
        comes_to = one_more before text stands.capture stands.comes_to ∙ ap (λ (r : Result CaptureContent RefusedLine). and_then r (add_lines (next_line (min (1 + length before) 4294967295)) [])) is;
        line_is = counts ∙ ap next_line (stays ∙ here) ∙ omega (arith, length-append before (text ∷ []));
        behind = subst (λ (ls : List NumberedLine). BehindCapture setup t.0 ls (gone_out sent told) new) came (same_behind _ _ (numbered before ++ line ∷ []) sent told mid new after t.2);
      }

  -- a line that refuses the run
  pub text_refused : (seen now : StreamedLines A) (text : List ℕ) (content : LineContent) (refused : RefusedLine) → content ≡ line_of text → IsSame now seen → seen.line ≡ now.line
      → RefusesContent content seen refused → RefusesText now text refused
  text_refused seen now text content refused says same at refuses setup before sent told stands =
      let b = same_behind _ _ (numbered before) sent told now seen same stands.behind in
      let here : seen.line ≡ min (1 + length before) 4294967295 = at ∙ stands.line_is in
      let is : add_line (min (1 + length before) 4294967295) (line_of text) stands.capture ≡ Err refused =
      ap (λ (n : ℕ). add_line n (line_of text) stands.capture) (sym here) ∙ ap (λ (c : LineContent). add_line seen.line c stands.capture) (sym says)
      ∙ refuses setup stands.capture (numbered before) (gone_out sent told) b in
      one_more before text stands.capture stands.comes_to ∙ ap (λ (r : Result CaptureContent RefusedLine). and_then r (add_lines (next_line (min (1 + length before) 4294967295)) [])) is

  pub nothing_taken : (old new : StreamedLines A) → IsSame old new → new.line ≡ old.line → TakesTexts old [] new
  nothing_taken old new same at setup before sent told stands = record {
    capture = stands.capture;
    comes_to = ap (λ (texts : List (List ℕ)). add_lines 1 texts no_capture) (append-nil before) ∙ stands.comes_to;
    line_is = at ∙ stands.line_is ∙ ap (λ (texts : List (List ℕ)). min (1 + length texts) 4294967295) (sym (append-nil before));
    behind = subst (λ (texts : List (List ℕ)). BehindCapture setup stands.capture (numbered texts) (gone_out sent told) new) (sym (append-nil before))
        (same_behind _ _ (numbered before) sent told old new same stands.behind);
  }

  -- ---- lines that bring no record

  pub blank_taken : (now : StreamedLines A) → TakesContent Blank now now
  blank_taken now setup capture before gone behind = (
    capture,
    refl,
    record {
      least = behind.least;
      most = behind.most;
      window_is = behind.window_is;
      start_is = behind.start_is;
      instruments_are = behind.instruments_are;
      record_is = behind.record_is;
      goes =
          let line : NumberedLine = record { number = now.line; content = Blank } in
          subst (λ (held : List Note). Goes (channel_with capture.instruments setup) (has_record capture) (before ++ line ∷ []) (gone_out gone.sent (gone.told ++ held)) now.run) (append-nil now.notes.items)
          (silent_goes (channel_with capture.instruments setup) (has_record capture) before gone.sent gone.told now.notes.items line now.run refl behind.goes);
    },
  )

  pub skipped_taken : (old new : StreamedLines A) (skip : Skip) → new ≡ record old { notes = new.notes } → new.notes.items ≡ old.notes.items ++ notes.Skipped (record { line = old.line; skip = skip }) ∷ []
      → TakesContent (Skipped skip) old new
  skipped_taken old new skip same noted setup capture before gone behind = (
    record capture { skipped = capture.skipped ++ (record { line = old.line; skip = skip }) ∷ [] },
    refl,
    record {
      least = behind.least;
      most = behind.most;
      window_is = ap (λ (s : StreamedLines A). s.window) same ∙ behind.window_is;
      start_is = ap (λ (s : StreamedLines A). s.start) same ∙ behind.start_is;
      instruments_are = ap (λ (s : StreamedLines A). s.instruments) same ∙ behind.instruments_are;
      record_is = ap (λ (s : StreamedLines A). s.has_record) same ∙ behind.record_is;
      goes =
          let line : NumberedLine = record { number = old.line; content = Skipped skip } in
          let goes = silent_goes (channel_with capture.instruments setup) (has_record capture) before gone.sent gone.told old.notes.items line old.run refl behind.goes in
          subst (Goes (channel_with capture.instruments setup) (has_record capture) (before ++ line ∷ []) (gone_out gone.sent (gone.told ++ new.notes.items))) (sym (ap (λ (s : StreamedLines A). s.run) same))
          (subst (λ (held : List Note). Goes (channel_with capture.instruments setup) (has_record capture) (before ++ line ∷ []) (gone_out gone.sent (gone.told ++ held)) old.run) (sym noted) goes);
    },
  )

  -- ---- instruments

  early : (setup : Setup) (capture : CaptureContent) (before : List NumberedLine) (gone : GoneOut) (now : StreamedLines A) (has : Bool) → now.has_record ≡ has
      → BehindCapture setup capture before gone now → has_record capture ≡ has
  early setup capture before gone now has is behind = sym behind.record_is ∙ is

  judged : (setup : Setup) (capture : CaptureContent) (before : List NumberedLine) (gone : GoneOut) (now : StreamedLines A) (instrument : Instrument) (answer : Option CaptureRefusal)
      → now.has_record ≡ false → refusal_after now.instruments instrument ≡ answer → BehindCapture setup capture before gone now → refusal_of capture instrument ≡ answer
  judged setup capture before gone now instrument answer is after behind =
      rw (early setup capture before gone now false is behind) (ap (λ (listed : List Instrument). refusal_after listed instrument) (sym behind.instruments_are) ∙ after)

  pub listing_late : (now : StreamedLines A) (instrument : Instrument) → now.has_record ≡ true → RefusesContent (Listing instrument) now (record { line = now.line; refusal = InstrumentLate })
  listing_late now instrument is setup capture before gone behind = rw (early setup capture before gone now true is behind) refl

  pub listing_refused : (now : StreamedLines A) (instrument : Instrument) (refusal : CaptureRefusal) → now.has_record ≡ false → refusal_after now.instruments instrument ≡ Some refusal
      → RefusesContent (Listing instrument) now (record { line = now.line; refusal = refusal })
  listing_refused now instrument refusal is after setup capture before gone behind =
      ap (λ (answer : Option CaptureRefusal). unless_refused now.line answer (record capture { instruments = capture.instruments ++ instrument ∷ [] }))
      (judged setup capture before gone now instrument (Some refusal) is after behind)

  pub listing_taken : (old new : StreamedLines A) (instrument : Instrument) → old.has_record ≡ false → refusal_after old.instruments instrument ≡ None
      → new ≡ record old { instruments = new.instruments } → new.instruments ≡ listed_after old.instruments instrument → TakesContent (Listing instrument) old new
  listing_taken old new instrument is after same listed setup capture before gone behind =
      let none : refusal_of capture instrument ≡ None = judged setup capture before gone old instrument None is after behind in
      let next : CaptureContent = record capture { instruments = capture.instruments ++ instrument ∷ [] } in
      let has : has_record capture ≡ false = early setup capture before gone old false is behind in
      let line : NumberedLine = record { number = old.line; content = Listing instrument } in
      let goes : Goes (channel_with next.instruments setup) (has_record capture) (before ++ line ∷ []) (gone_out gone.sent (gone.told ++ (old.notes.items ++ skip_notes line))) old.run =
      subst (λ (h : Bool). Goes (channel_with next.instruments setup) h (before ++ line ∷ []) (gone_out gone.sent (gone.told ++ (old.notes.items ++ skip_notes line))) old.run) (sym has)
      (listed_goes (channel_with capture.instruments setup) (channel_with next.instruments setup) before gone.sent gone.told old.notes.items line old.run refl
      (subst (λ (h : Bool). Goes (channel_with capture.instruments setup) h before (gone_out gone.sent (gone.told ++ old.notes.items)) old.run) has behind.goes)) in
      let now_listed : new.instruments ≡ old.instruments ++ instrument ∷ [] = listed ∙ rw after refl in (
        next,
        ap (λ (answer : Option CaptureRefusal). unless_refused old.line answer next) none,
        record {
          least = behind.least;
          most = behind.most;
          window_is = ap (λ (s : StreamedLines A). s.window) same ∙ behind.window_is;
          start_is = ap (λ (s : StreamedLines A). s.start) same ∙ behind.start_is;
          instruments_are = now_listed ∙ ap (λ (xs : List Instrument). xs ++ instrument ∷ []) behind.instruments_are;
          record_is = ap (λ (s : StreamedLines A). s.has_record) same ∙ behind.record_is;
          goes =
              subst (Goes (channel_with next.instruments setup) (has_record next) (before ++ line ∷ []) (gone_out gone.sent (gone.told ++ new.notes.items))) (sym (ap (λ (s : StreamedLines A). s.run) same))
              (subst (λ (held : List Note). Goes (channel_with next.instruments setup) (has_record next) (before ++ line ∷ []) (gone_out gone.sent (gone.told ++ held)) old.run)
              (append-nil old.notes.items ∙ sym (ap (λ (s : StreamedLines A). s.notes.items) same)) goes);
        },
      )

  -- ---- the first record

  pub begun_before : (now : StreamedLines A) → now.has_record ≡ true → BeginsRun now now
  begun_before now is channel has came gone behind =
      subst (λ (h : Bool). Behind channel h came gone now) (sym behind.record_is ∙ is) behind

  -- where none had come, no run had begun
  idle_before : (channel : ListedChannel) (came : List NumberedLine) (sent : List ℕ) (notes : List Note) (run : Option (Run A)) → Goes channel false came (gone_out sent notes) run → IsIdle channel.listed false came sent notes
  idle_before channel came sent notes None goes = goes
  idle_before channel came sent notes (Some run) goes = absurd (let e : false ≡ true = goes.begun in cc)

  begun_with : (channel : ListedChannel) (came : List NumberedLine) (sent : List ℕ) (notes : List Note) (made : Option (Run A))
      → MatchOption made (channel.listed ≡ []) (λ run. (0 < length channel.listed) × HasRun channel [] [] run) → IsIdle channel.listed false came sent notes → Goes channel true came (gone_out sent notes) made
  begun_with channel came sent notes None made idle = record { quiet = λ is. absurd (cc); unlisted = λ is. made; unsent = idle.unsent; notes_are = idle.notes_are }
  begun_with channel came sent notes (Some run) made idle = run_begins_here channel came sent notes run made.0 made.1 idle

  -- what the first run is, of a channel as it is set up
  made_here : (old : StreamedLines A) (channel : ListedChannel) (made : Option (Run A)) → 1 ≤ channel.room → channel.room ≤ 65536 → old.window ≡ channel.room → old.start ≡ channel.start → old.instruments ≡ channel.listed
      → MatchOption made (old.instruments ≡ []) (λ run. (0 < length old.instruments) × (1 ≤ old.window → old.window ≤ 65536 → HasRun (channel_with old.instruments (setup_of old.window old.start)) [] [] run))
      → MatchOption made (channel.listed ≡ []) (λ run. (0 < length channel.listed) × HasRun channel [] [] run)
  made_here old channel None least most window start listed made = sym listed ∙ made
  made_here old channel (Some run) least most window start listed made =
      let same : channel_with old.instruments (setup_of old.window old.start) ≡ channel = rw (listed, window, start) refl in (
        subst (λ (xs : List Instrument). 0 < length xs) listed made.0,
        subst (λ (c : ListedChannel). HasRun c [] [] run) same (made.1 (omega (arith, window, least)) (omega (arith, window, most))),
      )

  pub begins_run : (old new : StreamedLines A) → old.has_record ≡ false → new ≡ record old { run = new.run; has_record = true }
      → MatchOption new.run (old.instruments ≡ []) (λ run. (0 < length old.instruments) × (1 ≤ old.window → old.window ≤ 65536 → HasRun (channel_with old.instruments (setup_of old.window old.start)) [] [] run))
      → BeginsRun old new
  begins_run old new is same made channel has came gone behind =
      let has_is : has ≡ false = sym behind.record_is ∙ is in
      let idle = idle_before channel came gone.sent (gone.told ++ old.notes.items) old.run (subst (λ (h : Bool). Goes channel h came (gone_out gone.sent (gone.told ++ old.notes.items)) old.run) has_is behind.goes) in
      let goes : Goes channel true came (gone_out gone.sent (gone.told ++ old.notes.items)) new.run =
      begun_with channel came gone.sent (gone.told ++ old.notes.items) new.run (made_here old channel new.run behind.least behind.most behind.window_is behind.start_is behind.instruments_are made) idle in
      record {
        least = behind.least;
        most = behind.most;
        window_is = ap (λ (s : StreamedLines A). s.window) same ∙ behind.window_is;
        start_is = ap (λ (s : StreamedLines A). s.start) same ∙ behind.start_is;
        instruments_are = ap (λ (s : StreamedLines A). s.instruments) same ∙ behind.instruments_are;
        record_is = ap (λ (s : StreamedLines A). s.has_record) same;
        goes = subst (λ (held : List Note). Goes channel true came (gone_out gone.sent (gone.told ++ held)) new.run) (sym (ap (λ (s : StreamedLines A). s.notes.items) same)) goes;
      }

  -- ---- a record

  -- behind a record that a capture has more
  with_record : (setup : Setup) (capture next : CaptureContent) (came : List NumberedLine) (gone : GoneOut) (now : StreamedLines A)
      → next.instruments ≡ capture.instruments → has_record next ≡ true → Behind (channel_with capture.instruments setup) true came gone now → BehindCapture setup next came gone now
  with_record setup capture next came gone now same has behind =
      subst (λ (h : Bool). Behind (channel_with next.instruments setup) h came gone now) (sym has)
      (subst (λ (xs : List Instrument). Behind (channel_with xs setup) true came gone now) (sym same) behind)

  -- the run and the notes are others, and all else is the same
  abbrev pub IsSameBut : StreamedLines A → StreamedLines A → Type 0
  IsSameBut old new = new ≡ record old { run = new.run; notes = new.notes }

  -- where a record's line takes the run one line on, the line is taken in
  record_content : (old mid new : StreamedLines A) (content : LineContent) (feed : Feed) (received : Received)
      → ((capture : CaptureContent) → add_line old.line content capture ≡ Ok (add_record feed (record { line = old.line; received = received }) capture))
      → BeginsRun old mid → IsSameBut mid new
      → ((channel : ListedChannel) (before : List NumberedLine) (gone : GoneOut) → Goes channel true before (gone_out gone.sent (gone.told ++ mid.notes.items)) mid.run
      → Goes channel true (before ++ (record { number = old.line; content = content }) ∷ []) (gone_out gone.sent (gone.told ++ new.notes.items)) new.run)
      → TakesContent content old new
  record_content old mid new content feed received adds begins same goes setup capture before gone behind =
      let entry : RecordContent = record { line = old.line; received = received } in
      let next = add_record feed entry capture in
      let channel = channel_with capture.instruments setup in
      let line : NumberedLine = record { number = old.line; content = content } in
      let b = begins channel (has_record capture) before gone behind in
      let now : Behind channel true (before ++ line ∷ []) gone new = record {
        least = b.least;
        most = b.most;
        window_is = ap (λ (s : StreamedLines A). s.window) same ∙ b.window_is;
        start_is = ap (λ (s : StreamedLines A). s.start) same ∙ b.start_is;
        instruments_are = ap (λ (s : StreamedLines A). s.instruments) same ∙ b.instruments_are;
        record_is = ap (λ (s : StreamedLines A). s.has_record) same ∙ b.record_is;
        goes = goes channel before gone b.goes;
      } in
      (next, adds capture, with_record setup capture next (before ++ line ∷ []) gone new (same_instruments feed entry capture) (has_added feed entry capture) now)

  -- a datagram, of which the run took this and noted what it moved
  pub datagram_run : (old mid new : StreamedLines A) (feed : Feed) (bytes : List ℕ) (moved : Moved) (run run' : Run A) → BeginsRun old mid → IsSameBut mid new
      → mid.run ≡ Some run → new.run ≡ Some run' → TakesMoving feed (record { line = old.line; received = Datagram bytes }) moved run run' → new.notes.items ≡ mid.notes.items ++ moved_notes old.line moved
      → TakesContent (Packet feed bytes) old new
  datagram_run old mid new feed bytes moved run run' begins same was is takes noted =
      let line : NumberedLine = record { number = old.line; content = Packet feed bytes } in
      record_content old mid new (Packet feed bytes) feed (Datagram bytes) (λ capture. refl) begins same (λ channel before gone so_far.
      let under : IsUnderWay channel true before (gone_out gone.sent (gone.told ++ mid.notes.items)) run = subst (Goes channel true before (gone_out gone.sent (gone.told ++ mid.notes.items))) was so_far in
      subst (Goes channel true (before ++ line ∷ []) (gone_out gone.sent (gone.told ++ new.notes.items))) (sym is)
      (record {
        begun = refl;
        listed = under.listed;
        taken = subst (λ (held : List Note). HasTakenLines channel (before ++ line ∷ []) gone.sent (gone.told ++ held) run') (sym noted)
            (datagram_taken channel before gone.sent gone.told mid.notes.items line feed (Datagram bytes) moved run run' (packet_brings old.line feed bytes) takes under.taken);
      }))

  -- the close of the channel
  pub close_run : (old mid new : StreamedLines A) (run run' : Run A) → BeginsRun old mid → IsSameBut mid new
      → mid.run ≡ Some run → new.run ≡ Some run' → TakesOn feeds.S old.line Close run run' → new.notes.items ≡ mid.notes.items → TakesContent Closing old new
  close_run old mid new run run' begins same was is takes noted =
      let line : NumberedLine = record { number = old.line; content = Closing } in
      record_content old mid new Closing feeds.S Close (λ capture. refl) begins same (λ channel before gone so_far.
      let under : IsUnderWay channel true before (gone_out gone.sent (gone.told ++ mid.notes.items)) run = subst (Goes channel true before (gone_out gone.sent (gone.told ++ mid.notes.items))) was so_far in
      subst (Goes channel true (before ++ line ∷ []) (gone_out gone.sent (gone.told ++ new.notes.items))) (sym is)
      (record {
        begun = refl;
        listed = under.listed;
        taken = subst (λ (held : List Note). HasTakenLines channel (before ++ line ∷ []) gone.sent (gone.told ++ held) run') (append-nil mid.notes.items ∙ sym noted)
            (close_taken channel before gone.sent gone.told mid.notes.items line run run' (closing_brings old.line) takes under.taken);
      }))

  -- a record where no instrument is listed
  record_unrun : (old new : StreamedLines A) (content : LineContent) (feed : Feed) (received : Received)
      → ((capture : CaptureContent) → add_line old.line content capture ≡ Ok (add_record feed (record { line = old.line; received = received }) capture))
      → BringsOne (record { number = old.line; content = content }) feed received → BeginsRun old new → new.run ≡ None → TakesContent content old new
  record_unrun old new content feed received adds line_brings begins none =
      let line : NumberedLine = record { number = old.line; content = content } in
      record_content old new new content feed received adds begins refl (λ channel before gone so_far.
      let idle : IsIdle channel.listed true before gone.sent (gone.told ++ new.notes.items) = subst (Goes channel true before (gone_out gone.sent (gone.told ++ new.notes.items))) none so_far in
      subst (Goes channel true (before ++ line ∷ []) (gone_out gone.sent (gone.told ++ new.notes.items))) (sym none)
      (record_idle channel.listed before gone.sent gone.told new.notes.items line feed received line_brings idle))

  pub datagram_unrun : (old new : StreamedLines A) (feed : Feed) (bytes : List ℕ) → BeginsRun old new → new.run ≡ None → TakesContent (Packet feed bytes) old new
  datagram_unrun old new feed bytes begins none = record_unrun old new (Packet feed bytes) feed (Datagram bytes) (λ capture. refl) (packet_brings old.line feed bytes) begins none

  pub close_unrun : (old new : StreamedLines A) → BeginsRun old new → new.run ≡ None → TakesContent Closing old new
  close_unrun old new begins none = record_unrun old new Closing feeds.S Close (λ capture. refl) (closing_brings old.line) begins none

  -- ---- what is handed on

  -- nothing is held any more
  pub record HasLetGo (old new : StreamedLines A) : Type 0 where
    pub but_run : new ≡ record old { run = new.run; notes = new.notes }
    pub no_notes : new.notes.items ≡ []

  run_cleared : (channel : ListedChannel) (came : List NumberedLine) (sent : List ℕ) (notes : List Note) (old new : Run A)
      → ((listed : List Instrument) (events : List Event) (before : List ℕ) → StandsSent listed events before old.handler → StandsSent listed events (before ++ old.handler.held) new.handler)
      → new.handler.arbiter.channel ≡ old.handler.arbiter.channel → new.refusals ≡ old.refusals → HasTakenLines channel came sent notes old → HasTakenLines channel came (sent ++ old.handler.held) notes new
  run_cleared channel came sent notes old new stands same refusals so_far = record {
    reads = so_far.reads;
    of = so_far.of;
    each = so_far.each;
    has_run = record {
      stands = stands channel.listed (events_of (readings_in so_far.reads)) sent so_far.has_run.stands;
      channel_is = same ∙ so_far.has_run.channel_is;
      refusals_are = refusals ∙ so_far.has_run.refusals_are;
    };
    notes_are = so_far.notes_are;
  }

  cleared_behind : (setup : Setup) (texts : List (List ℕ)) (sent text : List ℕ) (told : List Note) (old new : StreamedLines A) → HasLetGo old new
      → ((channel : ListedChannel) (has : Bool) (came : List NumberedLine) (notes : List Note) → Goes channel has came (gone_out sent notes) old.run → Goes channel has came (gone_out (sent ++ text) notes) new.run)
      → StandsBehind setup texts sent told old → StandsBehind setup texts (sent ++ text) (told ++ old.notes.items) new
  cleared_behind setup texts sent text told old new gone goes stands =
      let same = gone.but_run in
      let b = stands.behind in
      let channel = channel_with stands.capture.instruments setup in
      record {
        capture = stands.capture;
        comes_to = stands.comes_to;
        line_is = ap (λ (s : StreamedLines A). s.line) same ∙ stands.line_is;
        behind = record {
          least = b.least;
          most = b.most;
          window_is = ap (λ (s : StreamedLines A). s.window) same ∙ b.window_is;
          start_is = ap (λ (s : StreamedLines A). s.start) same ∙ b.start_is;
          instruments_are = ap (λ (s : StreamedLines A). s.instruments) same ∙ b.instruments_are;
          record_is = ap (λ (s : StreamedLines A). s.has_record) same ∙ b.record_is;
          goes = subst (λ (notes : List Note). Goes channel (has_record stands.capture) (numbered texts) (gone_out (sent ++ text) notes) new.run)
              (sym (append-nil (told ++ old.notes.items)) ∙ ap (λ (held : List Note). (told ++ old.notes.items) ++ held) (sym gone.no_notes))
              (goes channel (has_record stands.capture) (numbered texts) (told ++ old.notes.items) b.goes);
        };
      }

  cleared_none : (old new : StreamedLines A) → HasLetGo old new → old.run ≡ None → new.run ≡ None → HasHandedOn old new
  cleared_none old new gone was is = record {
    no_text = ap text_held is;
    no_notes = gone.no_notes;
    stands = λ setup texts sent told stands.
        cleared_behind setup texts sent (text_held old.run) told old new gone
        (λ channel has came notes goes. subst (Goes channel has came (gone_out (sent ++ text_held old.run) notes)) (was ∙ sym is)
        (subst (λ (text : List ℕ). Goes channel has came (gone_out text notes) old.run) (sym (append-nil sent) ∙ ap (λ (text : List ℕ). sent ++ text) (sym (ap text_held was))) goes)) stands;
  }

  cleared_run : (old new : StreamedLines A) (run run' : Run A) → HasLetGo old new → old.run ≡ Some run → new.run ≡ Some run'
      → ((listed : List Instrument) (events : List Event) (before : List ℕ) → StandsSent listed events before run.handler → StandsSent listed events (before ++ run.handler.held) run'.handler)
      → run'.handler.arbiter.channel ≡ run.handler.arbiter.channel → run'.refusals ≡ run.refusals → run'.handler.held ≡ [] → HasHandedOn old new
  cleared_run old new run run' gone was is stands same refusals none = record {
    no_text = ap text_held is ∙ none;
    no_notes = gone.no_notes;
    stands = λ setup texts sent told so_far.
        cleared_behind setup texts sent (text_held old.run) told old new gone
        (λ channel has came notes goes.
        let under : IsUnderWay channel has came (gone_out sent notes) run = subst (Goes channel has came (gone_out sent notes)) was goes in
        subst (Goes channel has came (gone_out (sent ++ text_held old.run) notes)) (sym is)
        (subst (λ (text : List ℕ). IsUnderWay channel has came (gone_out (sent ++ text) notes) run') (sym (ap text_held was))
        (record { begun = under.begun; listed = under.listed; taken = run_cleared channel came sent notes run run' stands same refusals under.taken }))) so_far;
  }

  cleared_by : (old new : StreamedLines A) (was : Option (Run A)) → HasLetGo old new → old.run ≡ was → LetsTextGo was new.run → HasHandedOn old new
  cleared_by old new None gone is lets = cleared_none old new gone is lets
  cleared_by old new (Some run) gone is lets =
      let clears = lets.2 in
      cleared_run old new run lets.0 gone is lets.1 clears.stands clears.channel clears.refusals clears.none

  pub cleared : (old new : StreamedLines A) → HasLetGo old new → LetsTextGo old.run new.run → HasHandedOn old new
  cleared old new gone lets = cleared_by old new old.run gone refl lets

  -- ---- before the first line

  pub before_all : (setup : Setup) (now : StreamedLines A) → 1 ≤ setup.room → setup.room ≤ 65536 → now.window ≡ setup.room → now.start ≡ setup.start → now.line ≡ 1 → now.instruments ≡ [] → now.has_record ≡ false
      → now.run ≡ None → now.notes.items ≡ [] → StandsBehind setup [] [] [] now
  before_all setup now least most window start line none no_record no_run no_notes = record {
    capture = no_capture;
    comes_to = refl;
    line_is = line ∙ omega arith;
    behind = record {
      least = least;
      most = most;
      window_is = window;
      start_is = start;
      instruments_are = none;
      record_is = no_record;
      goes = subst (Goes (channel_with [] setup) false [] (gone_out [] now.notes.items)) (sym no_run)
          (record { quiet = λ is. tt; unlisted = λ is. absurd (let e : false ≡ true = is in cc); unsent = refl; notes_are = no_notes });
    };
  }
