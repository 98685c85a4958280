-- What goes out of a capture that is handled as it comes.
use Rattle.std.proofs.Common.{◌≡◌, ◌+◌, ◌-◌, ℕ, List, [], ◌∷◌, ◌++◌, length, take, Option, Some, None, Result, Ok, Err, Bool, true, false, refl, sym, ap, subst, ◌∙◌, append_assoc, append-nil, length-append, arith}
use Rattle.std.specs.Prelude.{IfErr, OnOk, map}
use Rattle.std.specs.List.{enumerate_from, flat_map}
use Rattle.std.specs.Io.KnownBytes.{Consumes, IsAtEnd}
use Rattle.std.specs.Str.Lines.{lines}
use Rattle.std.proofs.lemmas.List.Concat.{flat_map-append}
use Rattle.mdp_capture.specs.Capture.{CaptureContent, RefusedLine, add_lines, capture_of, has_record, needs_instrument, no_capture}
use Rattle.mdp_capture.specs.Cutting.{Cuts}
use Rattle.mdp_capture.specs.Fronts.{front_of}
use Rattle.mdp_capture.specs.Lines.{Brings, NumberedLine, instruments_of, line_with_number, numbered_lines}
use Rattle.mdp_print.specs.Written.{HasCounted}
use Rattle.mdp_templates.specs.declared.instrument.Instrument.{Instrument}
use Rattle.mdp_pipeline.specs.Notes.{end_note}
use Rattle.mdp_pipeline.specs.Output.{BeginsInTextOrder}
use Rattle.mdp_pipeline.specs.Streamed.{EndsAfter, EndsAsCapture, Goes, gone_out, HasHandedOn, LacksInstrument, LinesShow, PrintsLines, Setup, StandsBehind, StopsAt, StopsAtEnd, StopsInPiece, Streams, TakesEnd, TakesPiece, channel_with, numbered, text_held}
use Rattle.mdp_pipeline.specs.Streamed.LinesShow.{unlisted}
use Rattle.mdp_pipeline.specs.TextOrder.{arrivals_in}
use Rattle.mdp_arbiter.specs.Channel.{ListedChannel}
use Rattle.mdp_arbiter.specs.declared.arbiter.Standing.{Standing}
use Rattle.mdp_pipeline.specs.declared.ended.EndNote.{EndNote}
use Rattle.mdp_pipeline.specs.declared.ended.EndedRun.{EndedRun}
use Rattle.mdp_pipeline.specs.declared.note.Note.{Note}
use Rattle.mdp_pipeline.specs.declared.progress.Run.{Run}
use Rattle.mdp_pipeline.specs.declared.streamed.StreamedRun.{StreamedRun}
use Rattle.mdp_pipeline.specs.declared.streamed_lines.StreamedLines.{StreamedLines}
use Rattle.mdp_pipeline.proofs.Beginnings.{begins_none}
use Rattle.mdp_pipeline.proofs.TextOrder.{begins_in_text_order}
use Rattle.mdp_capture.proofs.Following.{comes_to}
use Rattle.mdp_pipeline.proofs.StreamedText.{begins_goes, brings_there, ended_shows, ends_with, front_there, front_whole, instruments_there, lacks_one, makes_capture, numbered-append, refused_there, shows_all, shows_sent}
use Rattle.mdp_handler.specs.Faults.{Tells, end_line, note_line, note_lines}
use Rattle.mdp_handler.specs.Live.{EndsFor, HasBegunLines, HasEnded, HasShown, IsInput, IsRefusedBehind, ReadsOnce, SoFar, StandsAtEnd, Went, and_then, reads_failed, went}
use Rattle.mdp_handler.specs.declared.faults.Place.{Place}
use Rattle.mdp_handler.specs.declared.faults.Place.TheVariants.{Line}
use Rattle.mdp_handler.specs.declared.live.LiveFault.{LiveFault}
use Rattle.mdp_handler.proofs.Telling.{tells_both}

notes-append : (place : Place) (notes more : List Note) → note_lines place (notes ++ more) ≡ note_lines place notes ++ note_lines place more
notes-append place notes more = flat_map-append (note_line place) notes more

-- what was told before, and more notes
pub tells_more : (place : Place) {F : Type 0} (failed : F → ℕ) (taken : F → List ℕ) (first old new : F) (notes more : List Note) → Tells failed taken first old (note_lines place notes) → Tells failed taken old new (note_lines place more)
    → Tells failed taken first new (note_lines place (notes ++ more))
tells_more place failed taken first old new notes more before now =
    subst (Tells failed taken first new) (sym (notes-append place notes more)) (tells_both failed taken first old new (note_lines place notes) (note_lines place more) before now)

-- what went out before, and more text
pub went_more : (start sent more taken taken' : List ℕ) → taken ≡ start ++ sent → taken' ≡ taken ++ more → taken' ≡ start ++ (sent ++ more)
went_more start sent more taken taken' before now = now ∙ ap (λ (t : List ℕ). t ++ more) before ∙ append_assoc start sent more

module _ {A : Type 0} where
  -- ---- lines of which all went out, or a beginning

  -- the text of lines that a run stands behind, once what it holds went out
  pub all_shown : (setup : Setup) (texts : List (List ℕ)) (sent : List ℕ) (told : List Note) (now : StreamedLines A) (stands : StandsBehind setup texts sent told now)
      → LinesShow (channel_with stands.capture.instruments setup) (numbered texts) (sent ++ text_held now.run) (told ++ now.notes.items)
  all_shown setup texts sent told now stands =
      shows_all (channel_with stands.capture.instruments setup) (has_record stands.capture) (numbered texts) sent (told ++ now.notes.items) now.run stands.behind.goes

  -- where it holds nothing
  pub sent_shown : (setup : Setup) (texts : List (List ℕ)) (sent : List ℕ) (told : List Note) (now : StreamedLines A) (stands : StandsBehind setup texts sent told now) → text_held now.run ≡ [] → now.notes.items ≡ []
      → LinesShow (channel_with stands.capture.instruments setup) (numbered texts) sent told
  sent_shown setup texts sent told now stands no_text no_notes =
      subst (LinesShow (channel_with stands.capture.instruments setup) (numbered texts) sent) (ap (λ (held : List Note). told ++ held) no_notes ∙ append-nil told)
      (shows_sent (channel_with stands.capture.instruments setup) (has_record stands.capture) (numbered texts) sent (told ++ now.notes.items) now.run no_text stands.behind.goes)

  -- a text begins with the lines that a run stands behind, of which a beginning went out
  pub has_begun : (setup : Setup) (whole : List ℕ) (texts rest : List (List ℕ)) (start sent taken : List ℕ) (told : List Note) (now : StreamedLines A) (n : ℕ) (Told : List ℕ → Type 0)
      → lines whole ≡ texts ++ rest → StandsBehind setup texts sent told now → taken ≡ (start ++ sent) ++ take n (text_held now.run) → Told (note_lines Line (told ++ now.notes.items))
      → HasBegunLines setup whole (went start taken Told)
  has_begun setup whole texts rest start sent taken told now n Told of stands taken_is telling =
      let listed : stands.capture.instruments ≡ flat_map instruments_of (numbered texts) = instruments_there texts stands.capture stands.comes_to in
      record {
        came = numbered texts;
        rest = map line_with_number (enumerate_from (1 + length texts) rest);
        of = ap numbered of ∙ numbered-append texts rest;
        begins = subst (λ (xs : List Instrument). BeginsInTextOrder (channel_with xs setup) (numbered texts) start taken) listed
            (begins_goes (channel_with stands.capture.instruments setup) (has_record stands.capture) (numbered texts) start sent taken (told ++ now.notes.items) now.run n taken_is stands.behind.goes);
        shown = sent ++ text_held now.run;
        has = record {
          notes = told ++ now.notes.items;
          shows = subst (λ (xs : List Instrument). LinesShow (channel_with xs setup) (numbered texts) (sent ++ text_held now.run) (told ++ now.notes.items)) listed (all_shown setup texts sent told now stands);
          told = telling;
        };
      }

  -- ---- a refusal

  pub is_refused : (setup : Setup) (whole start sent taken : List ℕ) (told : List Note) (refused : RefusedLine) (now : StreamedRun A) (Told : List ℕ → Type 0)
      → StopsAt setup whole (gone_out sent told) refused now → text_held now.lines.run ≡ [] → now.lines.notes.items ≡ [] → taken ≡ start ++ sent → Told (note_lines Line told)
      → IsRefusedBehind setup whole (went start taken Told) refused
  is_refused setup whole start sent taken told refused now Told stops no_text no_notes taken_is telling =
      let stands = stops.stands in
      let front : front_of whole ≡ stands.capture = front_there whole stops.before stops.line stops.rest stands.capture refused stops.of stands.comes_to stops.is_refused in
      record {
        is = refused_there whole stops.before stops.line stops.rest refused stops.of stops.is_refused;
        came = numbered stops.before;
        rest = map line_with_number (enumerate_from (1 + length stops.before) (stops.line ∷ stops.rest));
        of = ap numbered stops.of ∙ numbered-append stops.before (stops.line ∷ stops.rest);
        brings = subst (Brings (numbered stops.before)) (sym front) (brings_there stops.before stands.capture stands.comes_to);
        shown = sent;
        went_is = taken_is;
        has = record {
          notes = told;
          shows = subst (λ (c : CaptureContent). LinesShow (channel_with c.instruments setup) (numbered stops.before) sent told) (sym front) (sent_shown setup stops.before sent told now.lines stands no_text no_notes);
          told = telling;
        };
      }

  -- ---- what is handed on

  pub streams_on : (setup : Setup) (text sent : List ℕ) (told : List Note) (old new : StreamedRun A) → new.cutter ≡ old.cutter → HasHandedOn old.lines new.lines → Streams setup text sent told old
      → Streams setup text (sent ++ text_held old.lines.run) (told ++ old.lines.notes.items) new
  streams_on setup text sent told old new same on so_far = record {
    front = so_far.front;
    cuts = subst (λ (rest : List ℕ). Cuts text so_far.front rest) (sym same) so_far.cuts;
    stands = on.stands setup so_far.front sent told so_far.stands;
  }

  pub stops_on : (setup : Setup) (whole sent : List ℕ) (told : List Note) (refused : RefusedLine) (old new : StreamedRun A) → HasHandedOn old.lines new.lines → StopsAt setup whole (gone_out sent told) refused old
      → StopsAt setup whole (gone_out (sent ++ text_held old.lines.run) (told ++ old.lines.notes.items)) refused new
  stops_on setup whole sent told refused old new on stops = record {
    before = stops.before;
    line = stops.line;
    rest = stops.rest;
    of = stops.of;
    stands = on.stands setup stops.before sent told stops.stands;
    is_refused = stops.is_refused;
  }

-- ---- a piece

module _ {A F : Type 0} (failed : F → ℕ) (taken : F → List ℕ) where
  -- it was taken in, and all that it shows and tells went out
  pub piece_handled : (piece : List ℕ) (old mid new : StreamedRun A) (before after : List ℕ) (heard told : F) → TakesPiece piece old mid → new.cutter ≡ mid.cutter → HasHandedOn mid.lines new.lines
      → after ≡ before ++ text_held mid.lines.run → Tells failed taken heard told (note_lines Line mid.lines.notes.items)
      → (setup : Setup) (text start : List ℕ) (first : F) → SoFar setup text (went start before (Tells failed taken first heard)) old
      → SoFar setup (text ++ piece) (went start after (Tells failed taken first told)) new
  piece_handled piece old mid new before after heard told takes same on out tells setup text start first so_far = record {
    sent = so_far.sent ++ text_held mid.lines.run;
    notes = so_far.notes ++ mid.lines.notes.items;
    streams = streams_on setup (text ++ piece) so_far.sent so_far.notes mid new same on (takes setup text so_far.sent so_far.notes so_far.streams);
    no_text = on.no_text;
    no_notes = on.no_notes;
    went_is = went_more start so_far.sent (text_held mid.lines.run) before after so_far.went_is out;
    told = tells_more Line failed taken first heard told so_far.notes mid.lines.notes.items so_far.told tells;
  }

  -- where a line of the piece refuses the run
  pub piece_refused : (piece : List ℕ) (refused : RefusedLine) (old mid new : StreamedRun A) (before after : List ℕ) (heard told : F) → StopsInPiece piece refused old mid → HasHandedOn mid.lines new.lines
      → after ≡ before ++ text_held mid.lines.run → Tells failed taken heard told (note_lines Line mid.lines.notes.items)
      → (setup : Setup) (text more start : List ℕ) (first : F) → SoFar setup text (went start before (Tells failed taken first heard)) old
      → IsRefusedBehind setup ((text ++ piece) ++ more) (went start after (Tells failed taken first told)) refused
  piece_refused piece refused old mid new before after heard told stops on out tells setup text more start first so_far =
      is_refused setup ((text ++ piece) ++ more) start (so_far.sent ++ text_held mid.lines.run) after (so_far.notes ++ mid.lines.notes.items) refused new (Tells failed taken first told)
      (stops_on setup ((text ++ piece) ++ more) so_far.sent so_far.notes refused mid new on (stops setup text more so_far.sent so_far.notes so_far.streams)) on.no_text on.no_notes
      (went_more start so_far.sent (text_held mid.lines.run) before after so_far.went_is out)
      (tells_more Line failed taken first heard told so_far.notes mid.lines.notes.items so_far.told tells)

  -- lines of which a beginning went out
  cut_off : (setup : Setup) (whole : List ℕ) (texts rest : List (List ℕ)) (start sent before after : List ℕ) (notes : List Note) (now : StreamedLines A) (n : ℕ) (heard told first : F)
      → lines whole ≡ texts ++ rest → StandsBehind setup texts sent notes now → before ≡ start ++ sent → after ≡ before ++ take n (text_held now.run)
      → Tells failed taken first heard (note_lines Line notes) → Tells failed taken heard told (note_lines Line now.notes.items)
      → HasBegunLines setup whole (went start after (Tells failed taken first told))
  cut_off setup whole texts rest start sent before after notes now n heard told first of stands was out before_told tells =
      has_begun setup whole texts rest start sent after notes now n (Tells failed taken first told) of stands (out ∙ ap (λ (t : List ℕ). t ++ take n (text_held now.run)) was)
      (tells_more Line failed taken first heard told notes now.notes.items before_told tells)

  -- a text that goes on begins with the lines that have ended
  begins_there : (setup : Setup) (text more sent : List ℕ) (notes : List Note) (now : StreamedRun A) (so_far : Streams setup text sent notes now) → lines (text ++ more) ≡ so_far.front ++ lines (now.cutter ++ more)
  begins_there setup text more sent notes now so_far = so_far.cuts more

  -- a write failed of what the piece shows
  pub piece_cut : (piece : List ℕ) (old mid : StreamedRun A) (before after : List ℕ) (n : ℕ) (heard told : F) → TakesPiece piece old mid
      → after ≡ before ++ take n (text_held mid.lines.run) → Tells failed taken heard told (note_lines Line mid.lines.notes.items)
      → (setup : Setup) (text more start : List ℕ) (first : F) → SoFar setup text (went start before (Tells failed taken first heard)) old
      → HasBegunLines setup ((text ++ piece) ++ more) (went start after (Tells failed taken first told))
  piece_cut piece old mid before after n heard told takes out tells setup text more start first so_far =
      let on = takes setup text so_far.sent so_far.notes so_far.streams in
      cut_off setup ((text ++ piece) ++ more) on.front (lines (mid.cutter ++ more)) start so_far.sent before after so_far.notes mid.lines n heard told first
      (on.cuts more) on.stands so_far.went_is out so_far.told tells

  -- a write failed of what the lines before the refusal show
  pub piece_cut_refused : (piece : List ℕ) (refused : RefusedLine) (old mid : StreamedRun A) (before after : List ℕ) (n : ℕ) (heard told : F) → StopsInPiece piece refused old mid
      → after ≡ before ++ take n (text_held mid.lines.run) → Tells failed taken heard told (note_lines Line mid.lines.notes.items)
      → (setup : Setup) (text more start : List ℕ) (first : F) → SoFar setup text (went start before (Tells failed taken first heard)) old
      → HasBegunLines setup ((text ++ piece) ++ more) (went start after (Tells failed taken first told))
  piece_cut_refused piece refused old mid before after n heard told stops out tells setup text more start first so_far =
      let at = stops setup text more so_far.sent so_far.notes so_far.streams in
      cut_off setup ((text ++ piece) ++ more) at.before (at.line ∷ at.rest) start so_far.sent before after so_far.notes mid.lines n heard told first
      at.of at.stands so_far.went_is out so_far.told tells

  -- nothing more went out, for want of memory or since a read failed
  pub stays_there : (setup : Setup) (text more start before : List ℕ) (heard first : F) (old : StreamedRun A) → SoFar setup text (went start before (Tells failed taken first heard)) old
      → HasBegunLines setup (text ++ more) (went start before (Tells failed taken first heard))
  stays_there setup text more start before heard first old so_far =
      has_begun setup (text ++ more) so_far.streams.front (lines (old.cutter ++ more)) start so_far.sent before so_far.notes old.lines 0 (Tells failed taken first heard)
      (so_far.streams.cuts more) so_far.streams.stands (so_far.went_is ∙ sym (append-nil (start ++ so_far.sent)))
      (subst (λ (held : List Note). Tells failed taken first heard (note_lines Line held)) (sym (ap (λ (held : List Note). so_far.notes ++ held) so_far.no_notes ∙ append-nil so_far.notes)) so_far.told)

-- ---- the end of the text

module _ {A F : Type 0} (failed : F → ℕ) (taken : F → List ℕ) where
  pub end_handled : (old mid new : StreamedRun A) (before after : List ℕ) (heard told : F) → TakesEnd old mid → HasHandedOn mid.lines new.lines
      → after ≡ before ++ text_held mid.lines.run → Tells failed taken heard told (note_lines Line mid.lines.notes.items)
      → (setup : Setup) (text start : List ℕ) (first : F) → SoFar setup text (went start before (Tells failed taken first heard)) old
      → StandsAtEnd setup text (went start after (Tells failed taken first told)) new
  end_handled old mid new before after heard told takes on out tells setup text start first so_far = record {
    sent = so_far.sent ++ text_held mid.lines.run;
    notes = so_far.notes ++ mid.lines.notes.items;
    stands = on.stands setup (lines text) so_far.sent so_far.notes (takes setup text so_far.sent so_far.notes so_far.streams);
    no_text = on.no_text;
    no_notes = on.no_notes;
    went_is = went_more start so_far.sent (text_held mid.lines.run) before after so_far.went_is out;
    told = tells_more Line failed taken first heard told so_far.notes mid.lines.notes.items so_far.told tells;
  }

  pub end_refused : (refused : RefusedLine) (old mid new : StreamedRun A) (before after : List ℕ) (heard told : F) → StopsAtEnd refused old mid → HasHandedOn mid.lines new.lines
      → after ≡ before ++ text_held mid.lines.run → Tells failed taken heard told (note_lines Line mid.lines.notes.items)
      → (setup : Setup) (text start : List ℕ) (first : F) → SoFar setup text (went start before (Tells failed taken first heard)) old
      → IsRefusedBehind setup text (went start after (Tells failed taken first told)) refused
  end_refused refused old mid new before after heard told stops on out tells setup text start first so_far =
      is_refused setup text start (so_far.sent ++ text_held mid.lines.run) after (so_far.notes ++ mid.lines.notes.items) refused new (Tells failed taken first told)
      (stops_on setup text so_far.sent so_far.notes refused mid new on (stops setup text so_far.sent so_far.notes so_far.streams)) on.no_text on.no_notes
      (went_more start so_far.sent (text_held mid.lines.run) before after so_far.went_is out)
      (tells_more Line failed taken first heard told so_far.notes mid.lines.notes.items so_far.told tells)

  pub end_cut : (old mid : StreamedRun A) (before after : List ℕ) (n : ℕ) (heard told : F) → TakesEnd old mid
      → after ≡ before ++ take n (text_held mid.lines.run) → Tells failed taken heard told (note_lines Line mid.lines.notes.items)
      → (setup : Setup) (text start : List ℕ) (first : F) → SoFar setup text (went start before (Tells failed taken first heard)) old
      → HasBegunLines setup text (went start after (Tells failed taken first told))
  end_cut old mid before after n heard told takes out tells setup text start first so_far =
      cut_off failed taken setup text (lines text) [] start so_far.sent before after so_far.notes mid.lines n heard told first
      (sym (append-nil (lines text))) (takes setup text so_far.sent so_far.notes so_far.streams) so_far.went_is out so_far.told tells

  pub end_cut_refused : (refused : RefusedLine) (old mid : StreamedRun A) (before after : List ℕ) (n : ℕ) (heard told : F) → StopsAtEnd refused old mid
      → after ≡ before ++ take n (text_held mid.lines.run) → Tells failed taken heard told (note_lines Line mid.lines.notes.items)
      → (setup : Setup) (text start : List ℕ) (first : F) → SoFar setup text (went start before (Tells failed taken first heard)) old
      → HasBegunLines setup text (went start after (Tells failed taken first told))
  end_cut_refused refused old mid before after n heard told stops out tells setup text start first so_far =
      let at = stops setup text so_far.sent so_far.notes so_far.streams in
      cut_off failed taken setup text at.before (at.line ∷ at.rest) start so_far.sent before after so_far.notes mid.lines n heard told first
      at.of at.stands so_far.went_is out so_far.told tells

  -- nothing more went out
  pub stays_so_far : (setup : Setup) (text start before : List ℕ) (heard first : F) (old : StreamedRun A) → SoFar setup text (went start before (Tells failed taken first heard)) old
      → HasBegunLines setup text (went start before (Tells failed taken first heard))
  stays_so_far setup text start before heard first old so_far =
      subst (λ (whole : List ℕ). HasBegunLines setup whole (went start before (Tells failed taken first heard))) (append-nil text)
      (stays_there failed taken setup text [] start before heard first old so_far)

  pub stays_at_end : (setup : Setup) (text start before : List ℕ) (heard first : F) (run : StreamedRun A) → StandsAtEnd setup text (went start before (Tells failed taken first heard)) run
      → HasBegunLines setup text (went start before (Tells failed taken first heard))
  stays_at_end setup text start before heard first run at =
      has_begun setup text (lines text) [] start at.sent before at.notes run.lines 0 (Tells failed taken first heard) (sym (append-nil (lines text))) at.stands
      (at.went_is ∙ sym (append-nil (start ++ at.sent)))
      (subst (λ (held : List Note). Tells failed taken first heard (note_lines Line held)) (sym (ap (λ (held : List Note). at.notes ++ held) at.no_notes ∙ append-nil at.notes)) at.told)

  -- no instrument is listed
  pub lacks_instrument : (setup : Setup) (text start before : List ℕ) (heard first : F) (run : StreamedRun A) (refused : RefusedLine) → LacksInstrument run.lines refused
      → StandsAtEnd setup text (went start before (Tells failed taken first heard)) run → IsRefusedBehind setup text (went start before (Tells failed taken first heard)) refused
  lacks_instrument setup text start before heard first run refused lacks at =
      let stands = at.stands in
      let none = lacks.1 setup (lines text) at.sent at.notes stands in
      let same : stands.capture ≡ none.0 = (let one : Ok stands.capture ≡ Ok none.0 = sym stands.comes_to ∙ none.1 in cc) in
      let front : front_of text ≡ stands.capture = front_whole (lines text) stands.capture stands.comes_to in
      record {
        is = lacks_one text stands.capture stands.comes_to (ap (λ (c : CaptureContent). c.instruments) same ∙ none.2) ∙ ap Err (sym lacks.0);
        came = numbered (lines text);
        rest = [];
        of = sym (append-nil (numbered (lines text)));
        brings = subst (Brings (numbered (lines text))) (sym front) (brings_there (lines text) stands.capture stands.comes_to);
        shown = at.sent;
        went_is = at.went_is;
        has = record {
          notes = at.notes;
          shows = subst (λ (c : CaptureContent). LinesShow (channel_with c.instruments setup) (numbered (lines text)) at.sent at.notes) (sym front) (sent_shown setup (lines text) at.sent at.notes run.lines stands at.no_text at.no_notes);
          told = at.told;
        };
      }

  -- the end was written and told
  pub has_ended : (setup : Setup) (text start before after : List ℕ) (heard told first : F) (run : StreamedRun A) (ended : EndedRun A) (note : Option EndNote) (standing : Standing) → EndsAsCapture run.lines ended
      → ((channel : ListedChannel) (came : List NumberedLine) (start sent : List ℕ) (notes : List Note) → EndsAfter channel came sent notes ended → before ≡ start ++ sent
      → (whole : List ℕ) × (after ≡ start ++ whole) × PrintsLines channel came notes whole standing)
      → note ≡ end_note ended.instruments ended.run.handler → Tells failed taken heard told (end_line note) → StandsAtEnd setup text (went start before (Tells failed taken first heard)) run
      → HasEnded setup text (went start after (Tells failed taken first told))
  has_ended setup text start before after heard told first run ended note standing ends writes note_is tells at =
      let behind = ends setup (lines text) at.sent at.notes at.stands in
      let capture = behind.0 in
      let notes = at.notes ++ run.lines.notes.items in
      let all = writes (channel_with capture.instruments setup) (numbered (lines text)) start at.sent notes behind.1.ends at.went_is in
      record {
        capture = capture;
        is = makes_capture text capture behind.1.comes_to behind.1.ends.listed;
        text = all.0;
        went_is = all.1;
        notes = notes;
        standing = standing;
        prints = all.2;
        note = note;
        note_is = ends_with (channel_with capture.instruments setup) (numbered (lines text)) at.sent notes ended note behind.1.ends note_is;
        told = tells_both failed taken first heard told (note_lines Line notes) (end_line note)
            (subst (λ (held : List Note). Tells failed taken first heard (note_lines Line held)) (sym (ap (λ (held : List Note). at.notes ++ held) at.no_notes ∙ append-nil at.notes)) at.told) tells;
      }

  -- the end was not written whole
  pub ended_early : (setup : Setup) (text start before after : List ℕ) (heard first : F) (run : StreamedRun A) (ended : EndedRun A) → EndsAsCapture run.lines ended
      → ((channel : ListedChannel) (came : List NumberedLine) (start sent : List ℕ) (notes : List Note) → EndsAfter channel came sent notes ended → before ≡ start ++ sent
      → BeginsInTextOrder channel came start after)
      → StandsAtEnd setup text (went start before (Tells failed taken first heard)) run → HasBegunLines setup text (went start after (Tells failed taken first heard))
  ended_early setup text start before after heard first run ended ends begins at =
      let behind = ends setup (lines text) at.sent at.notes at.stands in
      let capture = behind.0 in
      let notes = at.notes ++ run.lines.notes.items in
      let listed : capture.instruments ≡ flat_map instruments_of (numbered (lines text)) = instruments_there (lines text) capture behind.1.comes_to in
      record {
        came = numbered (lines text);
        rest = [];
        of = sym (append-nil (numbered (lines text)));
        begins = subst (λ (xs : List Instrument). BeginsInTextOrder (channel_with xs setup) (numbered (lines text)) start after) listed (begins (channel_with capture.instruments setup) (numbered (lines text)) start at.sent notes behind.1.ends at.went_is);
        shown = at.sent ++ ended.run.handler.held;
        has = record {
          notes = notes;
          shows = subst (λ (xs : List Instrument). LinesShow (channel_with xs setup) (numbered (lines text)) (at.sent ++ ended.run.handler.held) notes) listed
              (ended_shows setup (lines text) capture at.sent notes ended behind.1);
          told = subst (λ (held : List Note). Tells failed taken first heard (note_lines Line held)) (sym (ap (λ (held : List Note). at.notes ++ held) at.no_notes ∙ append-nil at.notes)) at.told;
        };
      }

-- ---- before any line

no_line : (front rest : List (List ℕ)) → [] ≡ front ++ rest → front ≡ []
no_line [] rest is = refl
no_line (line ∷ front) rest is = absurd (cc)

goes_nowhere : {A : Type 0} (channel : ListedChannel) (has : Bool) (held : List Note) (run : Option (Run A)) → has ≡ false → Goes channel has [] (gone_out [] held) run → (text_held run ≡ []) × (held ≡ [])
goes_nowhere channel has held None unset idle = (refl, idle.notes_are)
goes_nowhere channel has held (Some run) unset way = absurd (let both : true ≡ false = sym way.begun ∙ unset in cc)

stands_nowhere : {A : Type 0} (setup : Setup) (now : StreamedLines A) → StandsBehind setup [] [] [] now → (text_held now.run ≡ []) × (now.notes.items ≡ [])
stands_nowhere setup now stands =
    let none : no_capture ≡ stands.capture = (let is : Ok no_capture ≡ Ok stands.capture = stands.comes_to in cc) in
    goes_nowhere (channel_with stands.capture.instruments setup) (has_record stands.capture) now.notes.items now.run (sym (ap has_record none)) stands.behind.goes

-- a run that begins holds nothing
pub begins_so_far : {A : Type 0} (setup : Setup) (start : List ℕ) (Told : List ℕ → Type 0) (run : StreamedRun A) → Streams setup [] [] [] run → Told [] → SoFar setup [] (went start start Told) run
begins_so_far setup start Told run streams told =
    let none = no_line streams.front (lines (run.cutter ++ [])) (streams.cuts []) in
    let holds = stands_nowhere setup run.lines (subst (λ (texts : List (List ℕ)). StandsBehind setup texts [] [] run.lines) none streams.stands) in
    record { sent = []; notes = []; streams = streams; no_text = holds.0; no_notes = holds.1; went_is = sym (append-nil start); told = told }

pub begun_none : (setup : Setup) (whole start : List ℕ) (Told : List ℕ → Type 0) → Told [] → HasBegunLines setup whole (went start start Told)
begun_none setup whole start Told told = record {
  came = [];
  rest = numbered_lines whole;
  of = refl;
  begins = begins_in_text_order (channel_with [] setup) [] start start (begins_none (channel_with [] setup) (arrivals_in []) start);
  shown = [];
  has = record { notes = []; shows = unlisted refl refl refl; told = told };
}

-- ---- the input's text

pub input_text : (input : Option (List ℕ)) → (whole : List ℕ) × IsInput input whole
input_text None = ([], tt)
input_text (Some text) = (text, refl)

-- at its end
pub input_read : (whole old new : Option (List ℕ)) (text : List ℕ) → Consumes whole old text → Consumes old new [] → IsAtEnd new → IsInput whole text
input_read whole old new text follows read end = comes_to (λ (w : List ℕ). w ≡ text) whole old new text follows read end refl

-- at what was read, whatever follows
pub input_there : (Q : List ℕ → Type 0) (whole old : Option (List ℕ)) (text : List ℕ) → Consumes whole old text → ((more : List ℕ) → Q (text ++ more)) → (w : List ℕ) × IsInput whole w × Q w
input_there Q None old text follows is = (text ++ [], tt, is [])
input_there Q (Some whole) None text follows is = absurd follows
input_there Q (Some whole) (Some left) text follows is = (text ++ left, follows, is left)

-- no read failed
pub reads_none : {T : Type 0} (result : Result T LiveFault) (before after : ℕ) → after ≡ before → IfErr result (λ fault. reads_failed fault ≡ 0) → ReadsOnce result before after
reads_none (Ok x) before after same unread = same
reads_none (Err fault) before after same unread = rw unread (omega (arith, same))

-- ---- the end of the input, and of a run over it

module _ {A F : Type 0} (failed : F → ℕ) (taken : F → List ℕ) where
  pub input_ended : {T : Type 0} (result : Result T LiveFault) (input : Option (List ℕ)) (whole before mid after : List ℕ) (heard said told : F) (old now new : StreamedRun A) → IsInput input whole
      → ((setup : Setup) (start : List ℕ) (first : F) → SoFar setup [] (went start before (Tells failed taken first heard)) old → SoFar setup whole (went start mid (Tells failed taken first said)) now)
      → OnOk result ((setup : Setup) (text start : List ℕ) (first : F) → SoFar setup text (went start mid (Tells failed taken first said)) now → StandsAtEnd setup text (went start after (Tells failed taken first told)) new)
      → OnOk result ((setup : Setup) (start : List ℕ) (first : F) → SoFar setup [] (went start before (Tells failed taken first heard)) old
      → (w : List ℕ) × IsInput input w × StandsAtEnd setup w (went start after (Tells failed taken first told)) new)
  input_ended (Ok x) input whole before mid after heard said told old now new is so_far ends = λ setup start first begins. (whole, is, ends setup whole start first (so_far setup start first begins))
  input_ended (Err fault) input whole before mid after heard said told old now new is so_far ends = tt

  pub input_failed : {T : Type 0} (result : Result T LiveFault) (input : Option (List ℕ)) (whole before mid after : List ℕ) (heard said told : F) (old now : StreamedRun A) → IsInput input whole
      → ((setup : Setup) (start : List ℕ) (first : F) → SoFar setup [] (went start before (Tells failed taken first heard)) old → SoFar setup whole (went start mid (Tells failed taken first said)) now)
      → IfErr result (λ fault. (setup : Setup) (text start : List ℕ) (first : F) → SoFar setup text (went start mid (Tells failed taken first said)) now → EndsFor setup text (went start after (Tells failed taken first told)) fault)
      → IfErr result (λ fault. (setup : Setup) (start : List ℕ) (first : F) → SoFar setup [] (went start before (Tells failed taken first heard)) old
      → (w : List ℕ) × IsInput input w × EndsFor setup w (went start after (Tells failed taken first told)) fault)
  input_failed (Ok x) input whole before mid after heard said told old now is so_far ends = tt
  input_failed (Err fault) input whole before mid after heard said told old now is so_far ends = λ setup start first begins. (whole, is, ends setup whole start first (so_far setup start first begins))

  pub then_ended : {T : Type 0} (result : Result T LiveFault) (setup : Setup) (input : Option (List ℕ)) (whole start before after : List ℕ) (first heard told : F) (run : StreamedRun A) → IsInput input whole
      → StandsAtEnd setup whole (went start before (Tells failed taken first heard)) run
      → OnOk result ((setup : Setup) (text start : List ℕ) (first : F) → StandsAtEnd setup text (went start before (Tells failed taken first heard)) run → HasEnded setup text (went start after (Tells failed taken first told)))
      → OnOk result ((w : List ℕ) × IsInput input w × HasEnded setup w (went start after (Tells failed taken first told)))
  then_ended (Ok x) setup input whole start before after first heard told run is stands ends = (whole, is, ends setup whole start first stands)
  then_ended (Err fault) setup input whole start before after first heard told run is stands ends = tt

  pub then_failed : {T : Type 0} (result : Result T LiveFault) (setup : Setup) (input : Option (List ℕ)) (whole start before after : List ℕ) (first heard told : F) (run : StreamedRun A) → IsInput input whole
      → StandsAtEnd setup whole (went start before (Tells failed taken first heard)) run
      → IfErr result (λ fault. (setup : Setup) (text start : List ℕ) (first : F) → StandsAtEnd setup text (went start before (Tells failed taken first heard)) run → EndsFor setup text (went start after (Tells failed taken first told)) fault)
      → IfErr result (λ fault. (w : List ℕ) × IsInput input w × EndsFor setup w (went start after (Tells failed taken first told)) fault)
  then_failed (Ok x) setup input whole start before after first heard told run is stands ends = tt
  then_failed (Err fault) setup input whole start before after first heard told run is stands ends = (whole, is, ends setup whole start first stands)

-- ---- why it ended is told behind all else

module _ {F : Type 0} (failed : F → ℕ) (taken : F → List ℕ) where
  pub refused_and : (setup : Setup) (whole before after why : List ℕ) (first heard told : F) (refused : RefusedLine) → IsRefusedBehind setup whole (went before after (Tells failed taken first heard)) refused → Tells failed taken heard told why
      → IsRefusedBehind setup whole (and_then (went before after (Tells failed taken first told)) why) refused
  refused_and setup whole before after why first heard told refused behind tells = record {
    is = behind.is;
    came = behind.came;
    rest = behind.rest;
    of = behind.of;
    brings = behind.brings;
    shown = behind.shown;
    went_is = behind.went_is;
    has = record {
      notes = behind.has.notes;
      shows = behind.has.shows;
      told = tells_both failed taken first heard told (note_lines Line behind.has.notes) why behind.has.told tells;
    };
  }

  pub begun_and : (setup : Setup) (whole before after why : List ℕ) (first heard told : F) → HasBegunLines setup whole (went before after (Tells failed taken first heard)) → Tells failed taken heard told why
      → HasBegunLines setup whole (and_then (went before after (Tells failed taken first told)) why)
  begun_and setup whole before after why first heard told begun tells = record {
    came = begun.came;
    rest = begun.rest;
    of = begun.of;
    begins = begun.begins;
    shown = begun.shown;
    has = record {
      notes = begun.has.notes;
      shows = begun.has.shows;
      told = tells_both failed taken first heard told (note_lines Line begun.has.notes) why begun.has.told tells;
    };
  }

-- how many bytes went out of a beginning
pub has_counted : (setup : Setup) (whole before after : List ℕ) (Told : List ℕ → Type 0) (written : ℕ) → HasBegunLines setup whole (went before after Told) → written ≡ length after - length before → HasCounted before after written
has_counted setup whole before after Told written begun is =
    let out : length after ≡ length before + length begun.begins.2.sent = ap length begun.begins.2.taken_is ∙ length-append before begun.begins.2.sent in
    omega (arith, out, is)
