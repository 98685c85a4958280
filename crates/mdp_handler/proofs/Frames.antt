-- What goes out of a recording that is handled as it comes.
use Rattle.std.proofs.Common.{◌≡◌, ◌<◌, ◌+◌, ◌-◌, ℕ, List, [], ◌∷◌, ◌++◌, length, take, Option, Some, None, Bool, true, false, refl, sym, ap, subst, ◌∙◌, append_assoc, append-nil, length-append, arith}
use Rattle.std.specs.Prelude.{◌==◌, ◌&&◌, if◌then◌else◌}
use Rattle.std.proofs.lemmas.Bool.Decides.{nat_tests}
use Rattle.std.specs.List.{flat_map}
use Rattle.mdp_arbiter.specs.Channel.{ListedChannel, channel_of}
use Rattle.mdp_arbiter.specs.declared.arbiter.Standing.{Standing}
use Rattle.mdp_capture.specs.Lines.{NumberedLine}
use Rattle.mdp_pcap.specs.Block.{frames_of as frames_of_block}
use Rattle.mdp_pcap.specs.File.{IsPcap}
use Rattle.mdp_pcap.specs.Frame.{CapturedContent}
use Rattle.mdp_pcap.specs.Reader.{NumberedFrame, at_first, content_of, ending_of, number_after, numbered}
use Rattle.mdp_pcap.specs.declared.addresses.FeedAddress.{FeedAddress}
use Rattle.mdp_pcap.specs.declared.layout.PcapFault.{PcapFault}
use Rattle.mdp_pcap.specs.declared.layout.PcapFault.TheVariants.{NotPcap, LinkType, RecordSize, CutShort}
use Rattle.mdp_print.specs.Written.{HasCounted}
use Rattle.mdp_pipeline.specs.Notes.{end_note}
use Rattle.mdp_pipeline.specs.Output.{BeginsInTextOrder}
use Rattle.mdp_pipeline.specs.Streamed.LinesShow.{listed}
use Rattle.mdp_pipeline.specs.TextOrder.{arrivals_in}
use Rattle.mdp_pipeline.proofs.Beginnings.{begins_none}
use Rattle.mdp_pipeline.proofs.StreamedText.{ends_with}
use Rattle.mdp_pipeline.proofs.TextOrder.{begins_in_text_order}
use Rattle.mdp_pipeline.specs.Streamed.{EndsAfter, PrintsLines}
use Rattle.mdp_pipeline.specs.declared.ended.EndNote.{EndNote}
use Rattle.mdp_pipeline.specs.declared.ended.EndedRun.{EndedRun}
use Rattle.mdp_pipeline.specs.declared.note.Note.{Note}
use Rattle.mdp_recording.specs.Frames.{beside, lines_in}
use Rattle.mdp_recording.specs.Recorded.{EndsAsRecording, Follows, HasHandedOn, HoldsFrames, HoldsNothing, TakesPiece}
use Rattle.mdp_recording.specs.declared.run.RecordedRun.{RecordedRun}
use Rattle.mdp_recording.proofs.Recording.{begins_file, ends_after, ends_show, ends_told, first_number, follows_on, frames_begin, frames_show, none_sent}
use Rattle.mdp_handler.specs.Faults.{Tells, end_line, note_lines, pcap_line}
use Rattle.mdp_handler.specs.Live.{IsInput, Went, and_then, went}
use Rattle.mdp_handler.specs.Recording.{FramesSoFar, HasBegunFrames, HasEndedFrames, HasFaultyFrames, IsRefusedFile, fault_line, refusal_at, refuses}
use Rattle.mdp_handler.specs.declared.faults.Place.TheVariants.{Frame}
use Rattle.mdp_handler.proofs.GoingOut.{tells_more, went_more}
use Rattle.mdp_handler.proofs.Telling.{tells_both}

-- a fault that refuses a file with no frame
refused_at : (number : ℕ) (fault : PcapFault) (found : Option PcapFault) → refusal_at number found ≡ Some fault → (found ≡ Some fault) × (number ≡ 1) × (refuses fault ≡ true)
refused_at number fault None is = absurd (let both : (let none : Option PcapFault = None in none) ≡ Some fault = is in cc)
refused_at number fault (Some found) is = go (number == 1) (refuses found) refl refl is
  where
    go : (one refused : Bool) → (number == 1) ≡ one → refuses found ≡ refused → (if one && refused then Some found else None) ≡ Some fault → (Some found ≡ Some fault) × (number ≡ 1) × (refuses fault ≡ true)
    go false refused one_is refused_is at = absurd (let both : (let none : Option PcapFault = None in none) ≡ Some fault = at in cc)
    go true false one_is refused_is at = absurd (let both : (let none : Option PcapFault = None in none) ≡ Some fault = at in cc)
    go true true one_is refused_is at =
        let same : found ≡ fault = (let both : Some found ≡ Some fault = at in cc) in
        (at, grind (arith, nat_tests, one_is), ap refuses (sym same) ∙ refused_is)

not_refused : (fault : PcapFault) → refuses fault ≡ true → refusal_at 1 (Some fault) ≡ None → ⊥
not_refused NotPcap refused kept = let both : Some NotPcap ≡ None = kept in cc
not_refused LinkType refused kept = let both : Some LinkType ≡ None = kept in cc
not_refused RecordSize refused kept = let both : false ≡ true = refused in cc
not_refused CutShort refused kept = let both : false ≡ true = refused in cc

module _ {A : Type 0} where
  -- a file begins with the frames that were taken in, of whose text a beginning went out
  has_begun_frames : (channel : ListedChannel) (addresses : List FeedAddress) (text more start sent taken : List ℕ) (told : List Note) (now : RecordedRun A) (n : ℕ) (Told : List ℕ → Type 0)
      → Follows (beside channel addresses sent told) text now → taken ≡ (start ++ sent) ++ take n now.datagrams.run.handler.held → Told (note_lines Frame (told ++ now.datagrams.notes.items))
      → HasBegunFrames channel addresses (text ++ more) (went start taken Told)
  has_begun_frames channel addresses text more start sent taken told now n Told follows went_is telling =
      let holds = follows.read.so_far.taken in
      let frames = numbered 1 (flat_map frames_of_block follows.read.so_far.blocks) in
      record {
        frames = frames;
        first = begins_file (HoldsFrames (beside channel addresses sent told) now.datagrams) (content_of now.reader) text more follows.read;
        begins = frames_begin channel addresses frames start sent taken told now.datagrams n follows.listed holds went_is;
        shown = sent ++ now.datagrams.run.handler.held;
        notes = told ++ now.datagrams.notes.items;
        shows = frames_show channel addresses frames sent told now.datagrams follows.listed holds;
        told = telling;
      }

module _ {A F : Type 0} (failed : F → ℕ) (taken : F → List ℕ) where
  -- ---- a piece

  -- it was taken in, and all that it shows and tells went out
  pub frames_handled : (piece : List ℕ) (old mid new : RecordedRun A) (before after : List ℕ) (heard told : F) → TakesPiece piece old mid → HasHandedOn mid new
      → after ≡ before ++ mid.datagrams.run.handler.held → Tells failed taken heard told (note_lines Frame mid.datagrams.notes.items)
      → (channel : ListedChannel) (addresses : List FeedAddress) (text start : List ℕ) (first : F) → FramesSoFar channel addresses text (went start before (Tells failed taken first heard)) old
      → FramesSoFar channel addresses (text ++ piece) (went start after (Tells failed taken first told)) new
  frames_handled piece old mid new before after heard told takes on out tells channel addresses text start first so_far = record {
    sent = so_far.sent ++ mid.datagrams.run.handler.held;
    notes = so_far.notes ++ mid.datagrams.notes.items;
    follows = on.stands (beside channel addresses so_far.sent so_far.notes) (text ++ piece) (takes (beside channel addresses so_far.sent so_far.notes) text so_far.follows);
    none = on.none;
    went_is = went_more start so_far.sent mid.datagrams.run.handler.held before after so_far.went_is out;
    told = tells_more Frame failed taken first heard told so_far.notes mid.datagrams.notes.items so_far.told tells;
  }

  -- a write failed of what it shows
  pub frames_cut : (piece : List ℕ) (old mid : RecordedRun A) (before after : List ℕ) (n : ℕ) (heard told : F) → TakesPiece piece old mid
      → after ≡ before ++ take n mid.datagrams.run.handler.held → Tells failed taken heard told (note_lines Frame mid.datagrams.notes.items)
      → (channel : ListedChannel) (addresses : List FeedAddress) (text more start : List ℕ) (first : F) → FramesSoFar channel addresses text (went start before (Tells failed taken first heard)) old
      → HasBegunFrames channel addresses ((text ++ piece) ++ more) (went start after (Tells failed taken first told))
  frames_cut piece old mid before after n heard told takes out tells channel addresses text more start first so_far =
      has_begun_frames channel addresses (text ++ piece) more start so_far.sent after so_far.notes mid n (Tells failed taken first told)
      (takes (beside channel addresses so_far.sent so_far.notes) text so_far.follows) (out ∙ ap (λ (t : List ℕ). t ++ take n mid.datagrams.run.handler.held) so_far.went_is)
      (tells_more Frame failed taken first heard told so_far.notes mid.datagrams.notes.items so_far.told tells)

  -- nothing more was handled
  pub frames_stay : (channel : ListedChannel) (addresses : List FeedAddress) (text more start before : List ℕ) (heard first : F) (run : RecordedRun A) → FramesSoFar channel addresses text (went start before (Tells failed taken first heard)) run
      → HasBegunFrames channel addresses (text ++ more) (went start before (Tells failed taken first heard))
  frames_stay channel addresses text more start before heard first run so_far =
      has_begun_frames channel addresses text more start so_far.sent before so_far.notes run 0 (Tells failed taken first heard) so_far.follows
      (so_far.went_is ∙ sym (append-nil (start ++ so_far.sent)))
      (subst (λ (notes : List Note). Tells failed taken first heard (note_lines Frame notes)) (sym (ap (λ (held : List Note). so_far.notes ++ held) so_far.none.1 ∙ append-nil so_far.notes)) so_far.told)

  -- memory ran out at a piece
  pub frames_lost : (piece : List ℕ) (old : RecordedRun A) (before : List ℕ) (heard : F)
      → (channel : ListedChannel) (addresses : List FeedAddress) (text more start : List ℕ) (first : F) → FramesSoFar channel addresses text (went start before (Tells failed taken first heard)) old
      → HasBegunFrames channel addresses ((text ++ piece) ++ more) (went start before (Tells failed taken first heard))
  frames_lost piece old before heard channel addresses text more start first so_far =
      subst (λ (whole : List ℕ). HasBegunFrames channel addresses whole (went start before (Tells failed taken first heard))) (sym (append_assoc text piece more))
      (frames_stay channel addresses text (piece ++ more) start before heard first old so_far)

  -- behind a fault nothing more is read
  pub frames_on : (channel : ListedChannel) (addresses : List FeedAddress) (text more : List ℕ) (did : Went) (run : RecordedRun A) (fault : PcapFault) → (content_of run.reader).fault ≡ Some fault → FramesSoFar channel addresses text did run
      → FramesSoFar channel addresses (text ++ more) did run
  frames_on channel addresses text more did run fault is so_far = record {
    sent = so_far.sent;
    notes = so_far.notes;
    follows = follows_on (beside channel addresses so_far.sent so_far.notes) text more run fault is so_far.follows;
    none = so_far.none;
    went_is = so_far.went_is;
    told = so_far.told;
  }

  -- ---- the end

  -- the end was written and told, and the fault
  pub frames_ended : (channel : ListedChannel) (addresses : List FeedAddress) (text start before after : List ℕ) (heard said told first : F) (run : RecordedRun A) (ended : EndedRun A) (note : Option EndNote) (standing : Standing) (fault : Option PcapFault) → EndsAsRecording run ended
      → ((channel : ListedChannel) (came : List NumberedLine) (start sent : List ℕ) (notes : List Note) → EndsAfter channel came sent notes ended → before ≡ start ++ sent
      → (whole : List ℕ) × (after ≡ start ++ whole) × PrintsLines channel came notes whole standing)
      → note ≡ end_note ended.instruments ended.run.handler → Tells failed taken heard said (end_line note) → fault ≡ ending_of (content_of run.reader) → Tells failed taken said told (fault_line (content_of run.reader).number fault)
      → FramesSoFar channel addresses text (went start before (Tells failed taken first heard)) run → (ended : HasEndedFrames channel addresses text fault (went start after (Tells failed taken first told))) × (number_after 1 ended.frames ≡ (content_of run.reader).number)
  frames_ended channel addresses text start before after heard said told first run ended note standing fault ends writes note_is tells fault_is tells_fault so_far =
      let all = ends (beside channel addresses so_far.sent so_far.notes) text so_far.follows in
      let frames = all.pcap.frames in
      let notes = so_far.notes ++ run.datagrams.notes.items in
      let after_all = ends_after (beside channel addresses so_far.sent notes) (numbered 1 frames) ended all.ends in
      let out = writes channel (lines_in addresses (numbered 1 frames)) start so_far.sent _ after_all so_far.went_is in
      let same : notes ≡ so_far.notes = ap (λ (held : List Note). so_far.notes ++ held) so_far.none.1 ∙ append-nil so_far.notes in
      let of_notes : Tells failed taken first heard (note_lines Frame notes) = subst (λ (ns : List Note). Tells failed taken first heard (note_lines Frame ns)) (sym same) so_far.told in (
        record {
          frames = frames;
          is = subst (λ (f : Option PcapFault). IsPcap text (record { frames = frames; fault = f })) (all.fault_is ∙ sym fault_is) all.is;
          text = out.0;
          went_is = out.1;
          notes = notes;
          standing = standing;
          prints = record { of_lines = _; prints = out.2; tells = ends_told (beside channel addresses so_far.sent notes) (numbered 1 frames) ended all.ends };
          note = note;
          note_is = ends_with channel (lines_in addresses (numbered 1 frames)) so_far.sent _ ended note after_all note_is;
          told = tells_both failed taken first said told (note_lines Frame notes ++ end_line note) (fault_line (number_after 1 frames) fault)
              (tells_both failed taken first heard said (note_lines Frame notes) (end_line note) of_notes tells)
              (subst (λ (n : ℕ). Tells failed taken said told (fault_line n fault)) (sym all.number_is) tells_fault);
        },
        all.number_is,
      )

  -- the same of a file with a fault for which it is not refused
  pub frames_faulty : (channel : ListedChannel) (addresses : List FeedAddress) (text start after : List ℕ) (first told : F) (run : RecordedRun A) (fault : PcapFault)
      → ((ended : HasEndedFrames channel addresses text (Some fault) (went start after (Tells failed taken first told))) × (number_after 1 ended.frames ≡ (content_of run.reader).number))
      → refusal_at (content_of run.reader).number (Some fault) ≡ None → HasFaultyFrames channel addresses text (went start after (Tells failed taken first told))
  frames_faulty channel addresses text start after first told run fault ended kept = record {
    fault = fault;
    ended = ended.0;
    behind = λ refused none.
        let one : (content_of run.reader).number ≡ 1 = sym ended.1 ∙ ap (number_after 1) none in
        not_refused fault refused (subst (λ (n : ℕ). refusal_at n (Some fault) ≡ None) one kept);
  }

  -- the end was not written whole
  pub frames_ended_early : (channel : ListedChannel) (addresses : List FeedAddress) (text start before after : List ℕ) (heard first : F) (run : RecordedRun A) (ended : EndedRun A) → EndsAsRecording run ended
      → ((channel : ListedChannel) (came : List NumberedLine) (start sent : List ℕ) (notes : List Note) → EndsAfter channel came sent notes ended → before ≡ start ++ sent
      → BeginsInTextOrder channel came start after)
      → FramesSoFar channel addresses text (went start before (Tells failed taken first heard)) run → HasBegunFrames channel addresses text (went start after (Tells failed taken first heard))
  frames_ended_early channel addresses text start before after heard first run ended ends begins so_far =
      let all = ends (beside channel addresses so_far.sent so_far.notes) text so_far.follows in
      let frames = numbered 1 all.pcap.frames in
      let notes = so_far.notes ++ run.datagrams.notes.items in
      let same : notes ≡ so_far.notes = ap (λ (held : List Note). so_far.notes ++ held) so_far.none.1 ∙ append-nil so_far.notes in
      record {
        frames = frames;
        first = record { pcap = all.pcap; is = all.is; rest = []; of = sym (append-nil frames) };
        begins = begins channel (lines_in addresses frames) start so_far.sent _ (ends_after (beside channel addresses so_far.sent notes) frames ended all.ends) so_far.went_is;
        shown = so_far.sent ++ ended.run.handler.held;
        notes = notes;
        shows = ends_show (beside channel addresses so_far.sent notes) frames ended all.ends;
        told = subst (λ (ns : List Note). Tells failed taken first heard (note_lines Frame ns)) (sym same) so_far.told;
      }

  -- a file that is refused: no frame came, and nothing went out
  pub file_refused : (channel : ListedChannel) (addresses : List FeedAddress) (text start before : List ℕ) (heard told first : F) (run : RecordedRun A) (ended : EndedRun A) (fault : PcapFault)
      → EndsAsRecording run ended → refusal_at (content_of run.reader).number (ending_of (content_of run.reader)) ≡ Some fault → Tells failed taken heard told (pcap_line (content_of run.reader).number fault)
      → FramesSoFar channel addresses text (went start before (Tells failed taken first heard)) run → IsRefusedFile text (went start before (Tells failed taken first told))
  file_refused channel addresses text start before heard told first run ended fault ends is_refused tells so_far =
      let at = refused_at (content_of run.reader).number fault (ending_of (content_of run.reader)) is_refused in
      let one : (content_of run.reader).number ≡ 1 = at.1 in
      let all = ends (beside channel addresses so_far.sent so_far.notes) text so_far.follows in
      let none : all.pcap.frames ≡ [] = first_number all.pcap.frames (all.number_is ∙ one) in
      let holds = so_far.follows.read.so_far.taken in
      let nothing = none_sent channel addresses so_far.sent so_far.notes run.datagrams so_far.follows.listed
      (subst (HoldsFrames (beside channel addresses so_far.sent so_far.notes) run.datagrams) (ap (numbered 1) (first_number _ (so_far.follows.read.so_far.counted ∙ one))) holds) in
      record {
        fault = fault;
        is = subst (λ (f : Option PcapFault). IsPcap text (record { frames = []; fault = f })) (all.fault_is ∙ at.0)
            (subst (λ (fs : List CapturedContent). IsPcap text (record { frames = fs; fault = all.pcap.fault })) none all.is);
        refused = at.2;
        went_is = so_far.went_is ∙ ap (λ (t : List ℕ). start ++ t) nothing.0 ∙ append-nil start;
        told = tells_both failed taken first heard told (note_lines Frame []) (pcap_line 1 fault)
            (subst (λ (ns : List Note). Tells failed taken first heard (note_lines Frame ns)) nothing.1 so_far.told)
            (subst (λ (n : ℕ). Tells failed taken heard told (pcap_line n fault)) one tells);
      }

-- a run that begins holds nothing
pub begins_frames : {A : Type 0} (channel : ListedChannel) (addresses : List FeedAddress) (start : List ℕ) (Told : List ℕ → Type 0) (run : RecordedRun A) → Follows (beside channel addresses [] []) [] run
    → HoldsNothing run → Told [] → FramesSoFar channel addresses [] (went start start Told) run
begins_frames channel addresses start Told run follows none told =
    record { sent = []; notes = []; follows = follows; none = none; went_is = sym (append-nil start); told = told }

-- how many bytes went out of a beginning
pub frames_counted : (channel : ListedChannel) (addresses : List FeedAddress) (whole before after : List ℕ) (Told : List ℕ → Type 0) (written : ℕ) → HasBegunFrames channel addresses whole (went before after Told) → written ≡ length after - length before → HasCounted before after written
frames_counted channel addresses whole before after Told written begun is =
    let out : length after ≡ length before + length begun.begins.2.sent = ap length begun.begins.2.taken_is ∙ length-append before begun.begins.2.sent in
    omega (arith, out, is)

-- why it ended is told behind all else
pub frames_and : {F : Type 0} (failed : F → ℕ) (taken : F → List ℕ) (channel : ListedChannel) (addresses : List FeedAddress) (whole before after why : List ℕ) (first heard told : F) → HasBegunFrames channel addresses whole (went before after (Tells failed taken first heard)) → Tells failed taken heard told why
    → HasBegunFrames channel addresses whole (and_then (went before after (Tells failed taken first told)) why)
frames_and failed taken channel addresses whole before after why first heard told begun tells = record {
  frames = begun.frames;
  first = begun.first;
  begins = begun.begins;
  shown = begun.shown;
  notes = begun.notes;
  shows = begun.shows;
  told = tells_both failed taken first heard told (note_lines Frame begun.notes) why begun.told tells;
}

-- of a file of which nothing is read yet nothing went out
pub begun_no_frame : (channel : ListedChannel) (addresses : List FeedAddress) (whole start : List ℕ) (Told : List ℕ → Type 0) → 0 < length channel.listed → Told [] → HasBegunFrames channel addresses whole (went start start Told)
begun_no_frame channel addresses whole start Told some told = record {
  frames = [];
  first = begins_file (λ (frames : List NumberedFrame). Unit {0}) at_first [] whole
      (record { left = []; so_far = record { blocks = []; follow = (refl, refl); taken = tt; counted = refl }; stands = (refl, (4, refl)) });
  begins = begins_in_text_order channel [] start start (begins_none channel (arrivals_in []) start);
  shown = [];
  notes = [];
  shows = record {
    of_lines = [];
    show = listed some [] refl tt refl refl;
    tells = record { reads = []; of = refl; each = tt; of_lines_are = refl; told_are = refl };
  };
  told = told;
}
