-- A recording that comes piece by piece, and the end of it.
use Rattle.std.proofs.Common.{◌≡◌, ℕ, ◌<◌, ◌≤◌, Bool, true, false, List, [], ◌∷◌, ◌++◌, length, take, map, Option, Some, None, refl, sym, ap, subst, ◌∙◌, append-nil, arith}
use Rattle.std.specs.Prelude.{IsSome, IsOk}
use Rattle.std.specs.List.{AllByRecursion, flat_map}
use Rattle.mdp_arbiter.specs.Channel.{ListedChannel, channel_of}
use Rattle.mdp_capture.specs.Lines.{NumberedLine}
use Rattle.mdp_pcap.specs.Block.{frames_of as frames_of_block}
use Rattle.mdp_pcap.specs.Frame.{CapturedContent}
use Rattle.mdp_pcap.specs.Reader.{NumberedFrame, ReaderContent, IsReadWhole, Takes, at_first, content_of, ending_of, next_number, number_after, numbered}
use Rattle.mdp_pcap.specs.declared.addresses.FeedAddress.{FeedAddress}
use Rattle.mdp_pcap.specs.declared.layout.PcapFault.{PcapFault}
use Rattle.mdp_pcap.specs.File.{at_start}
use Rattle.mdp_pcap.proofs.Blocks.{blocks_join, blocks_more, reads}
use Rattle.mdp_pcap.proofs.Readers.{faults_stay, numbered-append, pieces_follow, whole_file}
use Rattle.std.proofs.lemmas.Grind.{flat_map-append}
use Rattle.mdp_pipeline.specs.declared.ended.EndedRun.{EndedRun}
use Rattle.mdp_pipeline.specs.declared.note.Note.{Note}
use Rattle.mdp_pipeline.specs.declared.progress.Run.{Run}
use Rattle.mdp_pipeline.specs.Notes.{ReadLine, IsReadLine, lines_of, notes_from as notes_of_lines, readings_in}
use Rattle.mdp_pipeline.specs.Reading.{events_of}
use Rattle.mdp_pipeline.specs.Running.{HasRun}
use Rattle.mdp_pipeline.specs.Output.{BeginsInTextOrder}
use Rattle.mdp_pipeline.specs.Streamed.{ClearsText, EndsAfter, HasTakenLines, LinesShow}
use Rattle.mdp_pipeline.specs.Streamed.LinesShow.{listed, unlisted}
use Rattle.mdp_pipeline.proofs.StreamedText.{begins_goes, shows_all}
use Rattle.mdp_desks.specs.Moments.{shown_lines}
use Rattle.mdp_arbiter.specs.Machine.{moves_of}
use Rattle.mdp_recording.specs.Frames.{Beside, FramesShow, beside, IsReadFrame, ReadFrame, TellsFrames, frames_of, line_of, lines_in, lines_read, notes_from}
use Rattle.mdp_recording.specs.Recorded.{BeginsFile, EndsAsRecording, EndsFrames, Follows, HasHandedOn, HoldsFrames, TakesPiece, and_handed_on}
use Rattle.mdp_recording.specs.declared.datagrams.FramedDatagrams.{FramedDatagrams}
use Rattle.mdp_recording.specs.declared.run.RecordedRun.{RecordedRun}

-- what is known of the frames of a file may be said otherwise
whole_map : (Before After : List NumberedFrame → Type 0) (old now : ReaderContent) (text : List ℕ) → ((frames : List NumberedFrame) → Before frames → After frames)
    → IsReadWhole Before old now text → IsReadWhole After old now text
whole_map Before After old now text says whole =
    let read = whole.so_far in
    record {
      left = whole.left;
      so_far = record { blocks = read.blocks; follow = read.follow; taken = says _ read.taken; counted = read.counted };
      stands = whole.stands;
    }

front_none : {T : Type 0} (front rest : List T) → front ++ rest ≡ [] → front ≡ []
front_none [] rest none = refl
front_none (x ∷ front) rest none = absurd (let both : x ∷ (front ++ rest) ≡ [] = none in cc)

rest_none : {T : Type 0} (front rest : List T) → front ++ rest ≡ [] → rest ≡ []
rest_none [] rest none = none
rest_none (x ∷ front) rest none = absurd (let both : x ∷ (front ++ rest) ≡ [] = none in cc)

-- ---- the lines of frames

no_read : (reads : List ReadFrame) → frames_of reads ≡ [] → reads ≡ []
no_read [] none = refl
no_read (read ∷ reads) none = absurd (let both : read.frame ∷ frames_of reads ≡ [] = none in cc)

no_line : (reads : List ReadLine) → lines_of reads ≡ [] → reads ≡ []
no_line [] none = refl
no_line (read ∷ reads) none = absurd (let both : read.line ∷ lines_of reads ≡ [] = none in cc)

none_shown : (channel : ListedChannel) (shown : List ℕ) (notes : List Note) → LinesShow channel [] shown notes → shown ≡ []
none_shown channel shown notes (unlisted none text told) = text
none_shown channel shown notes (listed some reads of each text told) =
    text ∙ ap (λ (lines : List ReadLine). shown_lines channel.listed (moves_of channel (events_of (readings_in lines)))) (no_line reads of)

-- ---- the number of a frame

later : (number : ℕ) (frames : List CapturedContent) → 2 ≤ number → 2 ≤ number_after number frames
later number [] two = two
later number (frame ∷ frames) two = later (next_number number) frames (omega (arith, two))

pub first_number : (frames : List CapturedContent) → number_after 1 frames ≡ 1 → frames ≡ []
first_number [] one = refl
first_number (frame ∷ frames) one = absurd (let two : 2 ≤ number_after 2 frames = later 2 frames (omega arith) in omega (arith, two, one))

lines_are : (addresses : List FeedAddress) (reads : List ReadFrame) → AllByRecursion (IsReadFrame addresses) reads → lines_of (lines_read reads) ≡ lines_in addresses (frames_of reads)
lines_are addresses [] each = refl
lines_are addresses (read ∷ reads) each =
    ap (λ (line : NumberedLine). line ∷ lines_of (lines_read reads)) each.0.line_is
    ∙ ap (λ (lines : List NumberedLine). line_of addresses read.frame ∷ lines) (lines_are addresses reads each.1)

lines_each : (addresses : List FeedAddress) (reads : List ReadFrame) → AllByRecursion (IsReadFrame addresses) reads → AllByRecursion IsReadLine (lines_read reads)
lines_each addresses [] each = tt
lines_each addresses (read ∷ reads) each = (each.0.is_read, lines_each addresses reads each.1)

-- ---- a beginning of a file

-- the frames so far are the first of the file, whatever follows
pub begins_file : (Taken : List NumberedFrame → Type 0) (now : ReaderContent) (text more : List ℕ) (whole : IsReadWhole Taken at_first now text)
    → BeginsFile (text ++ more) (numbered 1 (flat_map frames_of_block whole.so_far.blocks))
begins_file Taken now text more whole =
    let blocks = whole.so_far.blocks in
    let rest = reads now.reading (whole.left ++ more) in
    let first = flat_map frames_of_block blocks in
    let others = flat_map frames_of_block rest.blocks in
    let all = flat_map frames_of_block (blocks ++ rest.blocks) in
    record {
      pcap = record { frames = all; fault = rest.fault };
      is = record {
        blocks = blocks ++ rest.blocks;
        now = rest.now;
        left = rest.left;
        follow = blocks_join at_start (text ++ more) blocks rest.blocks now.reading (whole.left ++ more) rest.now rest.left
            (blocks_more at_start text more blocks now.reading whole.left whole.so_far.follow) rest.follow;
        ends = rest.ends;
        frames_are = refl;
      };
      rest = numbered (number_after 1 first) others;
      of = ap (numbered 1) (flat_map-append frames_of_block blocks rest.blocks) ∙ numbered-append 1 first others;
    }

module _ {A : Type 0} where
  -- ---- before the first piece

  pub holds_none : (by : Beside) (now : FramedDatagrams A) → now.addresses ≡ by.addresses → HasRun by.channel [] by.sent now.run → now.has_cut ≡ false → by.told ≡ [] → now.notes.items ≡ [] → HoldsFrames by now []
  holds_none by now addresses run cut told none = record {
    addresses_are = addresses;
    reads = [];
    of = refl;
    each = tt;
    has_run = run;
    told_is = cut;
    notes_are = ap (λ (ns : List Note). ns ++ now.notes.items) told ∙ none;
  }

  pub follows_none : (channel : ListedChannel) (addresses : List FeedAddress) (now : RecordedRun A) → now.instruments ≡ channel.listed → 0 < length channel.listed
      → HoldsFrames (beside channel addresses [] []) now.datagrams [] → content_of now.reader ≡ at_first → Follows (beside channel addresses [] []) [] now
  follows_none channel addresses now same some holds first = record {
    instruments_are = same;
    listed = some;
    read = subst (λ (r : ReaderContent). IsReadWhole (HoldsFrames (beside channel addresses [] []) now.datagrams) at_first r []) (sym first)
        (record { left = []; so_far = record { blocks = []; follow = (refl, refl); taken = holds; counted = refl }; stands = (refl, (4, refl)) });
  }

  -- ---- a piece

  piece_read : (by : Beside) (old new : RecordedRun A) (text piece : List ℕ) (fault : Option PcapFault) → (content_of old.reader).fault ≡ fault
      → ((content_of old.reader).fault ≡ None → IsReadWhole (Takes (λ (b : Beside). HoldsFrames b) old.datagrams new.datagrams) (content_of old.reader) (content_of new.reader) ((content_of old.reader).held ++ piece))
      → (IsSome (content_of old.reader).fault → (content_of new.reader ≡ content_of old.reader) × (new.datagrams ≡ old.datagrams))
      → IsReadWhole (HoldsFrames by old.datagrams) at_first (content_of old.reader) text → IsReadWhole (HoldsFrames by new.datagrams) at_first (content_of new.reader) (text ++ piece)
  piece_read by old new text piece None is read stopped so_far =
      pieces_follow (HoldsFrames by old.datagrams) (Takes (λ (b : Beside). HoldsFrames b) old.datagrams new.datagrams) (HoldsFrames by new.datagrams) at_first (content_of old.reader) (content_of new.reader) text piece
      (λ frames more holds takes. takes by frames holds) so_far is (read is)
  piece_read by old new text piece (Some fault) is read stopped so_far =
      let same = stopped (subst IsSome (sym is) refl) in
      subst (λ (d : FramedDatagrams A). IsReadWhole (HoldsFrames by d) at_first (content_of new.reader) (text ++ piece)) (sym same.1)
      (subst (λ (r : ReaderContent). IsReadWhole (HoldsFrames by old.datagrams) at_first r (text ++ piece)) (sym same.0)
      (faults_stay (HoldsFrames by old.datagrams) at_first (content_of old.reader) text piece fault so_far is))

  pub piece_taken : (piece : List ℕ) (old new : RecordedRun A) → new.instruments ≡ old.instruments
      → ((content_of old.reader).fault ≡ None → IsReadWhole (Takes (λ (b : Beside). HoldsFrames b) old.datagrams new.datagrams) (content_of old.reader) (content_of new.reader) ((content_of old.reader).held ++ piece))
      → (IsSome (content_of old.reader).fault → (content_of new.reader ≡ content_of old.reader) × (new.datagrams ≡ old.datagrams))
      → TakesPiece piece old new
  piece_taken piece old new same read stopped by text so_far = record {
    instruments_are = same ∙ so_far.instruments_are;
    listed = so_far.listed;
    read = piece_read by old new text piece (content_of old.reader).fault refl read stopped so_far.read;
  }

  -- ---- what is handed on

  holds_on : (by : Beside) (old new : FramedDatagrams A) → new.addresses ≡ old.addresses → new.has_cut ≡ old.has_cut
      → new.notes.items ≡ [] → ClearsText old.run new.run → (frames : List NumberedFrame) → HoldsFrames by old frames
      → HoldsFrames (beside by.channel by.addresses (by.sent ++ old.run.handler.held) (by.told ++ old.notes.items)) new frames
  holds_on by old new same cut none clears frames holds =
      let run = holds.has_run in
      record {
        addresses_are = same ∙ holds.addresses_are;
        reads = holds.reads;
        of = holds.of;
        each = holds.each;
        has_run = record {
          stands = clears.stands by.channel.listed (events_of (readings_in (lines_read holds.reads))) by.sent run.stands;
          channel_is = clears.channel ∙ run.channel_is;
          refusals_are = clears.refusals ∙ run.refusals_are;
        };
        told_is = cut ∙ holds.told_is;
        notes_are = ap (λ (ns : List Note). (by.told ++ old.notes.items) ++ ns) none ∙ append-nil (by.told ++ old.notes.items) ∙ holds.notes_are;
      }

  pub handed_on : (old new : RecordedRun A) → new.instruments ≡ old.instruments → content_of new.reader ≡ content_of old.reader → new.datagrams.addresses ≡ old.datagrams.addresses
      → new.datagrams.has_cut ≡ old.datagrams.has_cut → new.datagrams.notes.items ≡ [] → ClearsText old.datagrams.run new.datagrams.run → HasHandedOn old new
  handed_on old new same reader addresses_same cut none clears = record {
    none = (clears.none, none);
    same = reader;
    stands = λ by text so_far. record {
      instruments_are = same ∙ so_far.instruments_are;
      listed = so_far.listed;
      read = subst (λ (r : ReaderContent). IsReadWhole (HoldsFrames (and_handed_on old by) new.datagrams) at_first r text) (sym reader)
          (whole_map (HoldsFrames by old.datagrams) (HoldsFrames (and_handed_on old by) new.datagrams) at_first (content_of old.reader) text
          (holds_on by old.datagrams new.datagrams addresses_same cut none clears) so_far.read);
    };
  }

  -- ---- the end

  pub ends_as_recording : (old : RecordedRun A) → EndsAsRecording old (record { instruments = old.instruments; run = old.datagrams.run })
  ends_as_recording old by text so_far =
      let handed = whole_file (HoldsFrames by old.datagrams) (content_of old.reader) text so_far.read in
      let holds = handed.taken in
      record {
        pcap = record { frames = handed.frames; fault = ending_of (content_of old.reader) };
        is = handed.is;
        fault_is = refl;
        number_is = handed.counted;
        ends = record {
          instruments_are = so_far.instruments_are;
          listed = so_far.listed;
          reads = holds.reads;
          of = holds.of;
          each = holds.each;
          has_run = holds.has_run;
          notes_are = holds.notes_are;
        };
      }

  -- ---- what frames show

  -- the run of these frames is one of their lines
  frames_taken : (channel : ListedChannel) (addresses : List FeedAddress) (frames : List NumberedFrame) (sent : List ℕ) (told : List Note) (now : FramedDatagrams A) (holds : HoldsFrames (beside channel addresses sent told) now frames)
      → HasTakenLines channel (lines_in addresses frames) sent (notes_of_lines (channel_of channel) [] (lines_read holds.reads)) now.run
  frames_taken channel addresses frames sent told now holds = record {
    reads = lines_read holds.reads;
    of = lines_are addresses holds.reads holds.each ∙ ap (lines_in addresses) holds.of;
    each = lines_each addresses holds.reads holds.each;
    has_run = holds.has_run;
    notes_are = refl;
  }

  -- what was sent of their text, and what is held, are what they show
  pub frames_show : (channel : ListedChannel) (addresses : List FeedAddress) (frames : List NumberedFrame) (sent : List ℕ) (told : List Note) (now : FramedDatagrams A) → 0 < length channel.listed
      → HoldsFrames (beside channel addresses sent told) now frames → FramesShow channel addresses frames (sent ++ now.run.handler.held) (told ++ now.notes.items)
  frames_show channel addresses frames sent told now some holds = record {
    of_lines = notes_of_lines (channel_of channel) [] (lines_read holds.reads);
    show = shows_all channel true (lines_in addresses frames) sent (notes_of_lines (channel_of channel) [] (lines_read holds.reads)) (Some now.run)
        (record { begun = refl; listed = some; taken = frames_taken channel addresses frames sent told now holds });
    tells = record { reads = holds.reads; of = holds.of; each = holds.each; of_lines_are = refl; told_are = holds.notes_are };
  }

  -- of what is held so many bytes went out
  pub frames_begin : (channel : ListedChannel) (addresses : List FeedAddress) (frames : List NumberedFrame) (start sent taken : List ℕ) (told : List Note) (now : FramedDatagrams A) (n : ℕ) → 0 < length channel.listed
      → HoldsFrames (beside channel addresses sent told) now frames → taken ≡ (start ++ sent) ++ take n now.run.handler.held → BeginsInTextOrder channel (lines_in addresses frames) start taken
  frames_begin channel addresses frames start sent taken told now n some holds went =
      begins_goes channel true (lines_in addresses frames) start sent taken (notes_of_lines (channel_of channel) [] (lines_read holds.reads)) (Some now.run) n went
      (record { begun = refl; listed = some; taken = frames_taken channel addresses frames sent told now holds })

  -- no frame shows anything, and nothing is told
  pub none_sent : (channel : ListedChannel) (addresses : List FeedAddress) (sent : List ℕ) (told : List Note) (now : FramedDatagrams A) → 0 < length channel.listed
      → HoldsFrames (beside channel addresses sent told) now [] → (sent ≡ []) × (told ≡ [])
  none_sent channel addresses sent told now some holds = (
    front_none sent now.run.handler.held (none_shown channel (sent ++ now.run.handler.held) _ (frames_show channel addresses [] sent told now some holds).show),
    front_none told now.notes.items (holds.notes_are ∙ ap (notes_from (channel_of channel) addresses false []) (no_read holds.reads holds.of)),
  )

  pub none_held : (channel : ListedChannel) (addresses : List FeedAddress) (sent : List ℕ) (told : List Note) (now : FramedDatagrams A) → 0 < length channel.listed
      → HoldsFrames (beside channel addresses sent told) now [] → (now.run.handler.held ≡ []) × (now.notes.items ≡ [])
  none_held channel addresses sent told now some holds = (
    rest_none sent now.run.handler.held (none_shown channel (sent ++ now.run.handler.held) _ (frames_show channel addresses [] sent told now some holds).show),
    rest_none told now.notes.items (holds.notes_are ∙ ap (notes_from (channel_of channel) addresses false []) (no_read holds.reads holds.of)),
  )

  -- ---- a beginning of a file

  -- behind a fault nothing more is read, whatever comes
  pub follows_on : (by : Beside) (text more : List ℕ) (now : RecordedRun A) (fault : PcapFault) → (content_of now.reader).fault ≡ Some fault
      → Follows by text now → Follows by (text ++ more) now
  follows_on by text more now fault is so_far = record {
    instruments_are = so_far.instruments_are;
    listed = so_far.listed;
    read = faults_stay (HoldsFrames by now.datagrams) at_first (content_of now.reader) text more fault so_far.read is;
  }

  -- the run of a recording that has ended is one of its frames' lines
  pub ends_after : (by : Beside) (frames : List NumberedFrame) (ended : EndedRun A) (ends : EndsFrames by frames ended)
      → EndsAfter by.channel (lines_in by.addresses frames) by.sent (notes_of_lines (channel_of by.channel) [] (lines_read ends.reads)) ended
  ends_after by frames ended ends = record {
    instruments_are = ends.instruments_are;
    listed = ends.listed;
    taken = record {
      reads = lines_read ends.reads;
      of = lines_are by.addresses ends.reads ends.each ∙ ap (lines_in by.addresses) ends.of;
      each = lines_each by.addresses ends.reads ends.each;
      has_run = ends.has_run;
      notes_are = refl;
    };
  }

  pub ends_told : (by : Beside) (frames : List NumberedFrame) (ended : EndedRun A) (ends : EndsFrames by frames ended)
      → TellsFrames by.channel by.addresses frames (notes_of_lines (channel_of by.channel) [] (lines_read ends.reads)) by.told
  ends_told by frames ended ends =
      record { reads = ends.reads; of = ends.of; each = ends.each; of_lines_are = refl; told_are = ends.notes_are }

  pub ends_show : (by : Beside) (frames : List NumberedFrame) (ended : EndedRun A) (ends : EndsFrames by frames ended)
      → FramesShow by.channel by.addresses frames (by.sent ++ ended.run.handler.held) by.told
  ends_show by frames ended ends = record {
    of_lines = notes_of_lines (channel_of by.channel) [] (lines_read ends.reads);
    show = shows_all by.channel true (lines_in by.addresses frames) by.sent (notes_of_lines (channel_of by.channel) [] (lines_read ends.reads)) (Some ended.run)
        (record { begun = refl; listed = ends.listed; taken = (ends_after by frames ended ends).taken });
    tells = ends_told by frames ended ends;
  }
