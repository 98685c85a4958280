-- A part of a text that is read by itself.
use denote.Ref.{Bor}
use Rattle.std.proofs.Common.{◌≡◌, ℕ, zero, suc, ◌<◌, ◌+◌, ◌-◌, List, [], ◌∷◌, ◌++◌, Some, Result, Ok, Err, length, map, take, drop, refl, sym, ap, ◌∙◌, arith, append_assoc, take-append-drop, subst}
use Rattle.std.specs.Prelude.{IfOk}
use Rattle.std.specs.List.{slice_get, slice_index_or}
use Rattle.std.specs.Str.Lines.{lines, strip_carriage_return}
use Rattle.std.proofs.lemmas.List.{length_push, map-append}
use Rattle.std.proofs.lemmas.List.Elements.{All-push}
use Rattle.memchr.specs.Find.{IsFirstByte, is_byte}
use Rattle.mdp_capture.specs.Line.{LineContent, line_of}
use Rattle.mdp_capture.specs.Parsed.{ListsDepth, content_of}
use Rattle.mdp_capture.specs.Repeats.{bytes_in}
use Rattle.mdp_capture.specs.Capture.{CaptureContent, RefusedLine, add_line, add_lines, and_then, needs_instrument, next_line, no_capture, IsTextFaultOf}
use Rattle.mdp_capture.specs.Cutting.{Cuts}
use Rattle.mdp_capture.specs.Draft.{HoldsLines, capture_so_far}
use Rattle.mdp_capture.specs.Part.{add_contents, capture_after, contents_of, Says, ListDepths, HasBytesIn, bytes_of_line, newest_in, IsReadOf, AreReadOf, joined}
use Rattle.mdp_capture.specs.Reading.{HasRead, RefusesPiece}
use Rattle.mdp_capture.specs.declared.reading.Reading.{Reading}
use Rattle.mdp_capture.specs.declared.part.Part.{Part}
use Rattle.mdp_capture.specs.declared.draft.Draft.{Draft}
use Rattle.mdp_capture.specs.declared.fault.CaptureFault.{CaptureFault}
use Rattle.mdp_capture.specs.declared.line.Line.{Line}
use Rattle.mdp_capture.proofs.LinesCut.{cuts_more}
use Rattle.mdp_capture.proofs.Pieces.{fault_stays, fault_whole, same_fault}

pub read_there : {X E : Type 0} (r : Result X E) (x : X) (P : X → Type 0) → r ≡ Ok x → IfOk r P → P x
read_there {X} {E} r x P is p = subst (λ (o : Result X E). IfOk o P) is p

pub if_ok_both : {X E : Type 0} (r : Result X E) (P Q S : X → Type 0) → ((x : X) → P x → Q x → S x) → IfOk r P → IfOk r Q → IfOk r S
if_ok_both (Ok x) P Q S both p q = both x p q
if_ok_both (Err e) P Q S both p q = tt

and_then_same : (r : Result CaptureContent RefusedLine) (f g : CaptureContent → Result CaptureContent RefusedLine) → ((capture : CaptureContent) → f capture ≡ g capture) → and_then r f ≡ and_then r g
and_then_same (Ok capture) f g same = same capture
and_then_same (Err refused) f g same = refl

-- lines count for what they say
contents_are : (n : ℕ) (ls : List (List ℕ)) (capture : CaptureContent) → add_lines n ls capture ≡ add_contents n (map line_of ls) capture
contents_are n [] capture = refl
contents_are n (l ∷ ls) capture = and_then_same (add_line n (line_of l) capture) (add_lines (next_line n) ls) (add_contents (next_line n) (map line_of ls)) (contents_are (next_line n) ls)

module _ {A : Type 0} where
  last_there : (xs : List (Line A)) (x : Line A) → slice_get (xs ++ x ∷ []) (length xs) ≡ Some x
  last_there [] x = refl
  last_there (y ∷ xs) x = last_there xs x

  -- one line more
  contents_push : (read : List (Line A)) (line : Line A) → contents_of read ++ content_of line ∷ [] ≡ contents_of (read ++ line ∷ [])
  contents_push [] line = refl
  contents_push (x ∷ read) line = ap (λ (cs : List LineContent). content_of x ∷ cs) (contents_push read line)

  pub says_more : (text rest : List ℕ) (k : ℕ) (read : List (Line A)) (line : Line A) → Says text read rest → IsFirstByte (is_byte 10) rest (Some k) → content_of line ≡ line_of (strip_carriage_return (take k rest)) → Says text (read ++ line ∷ []) (drop (k + 1) rest)
  says_more text rest k read line says first is =
      let one = strip_carriage_return (take k rest) in
      record {
        front = says.front ++ one ∷ [];
        contents =
            map-append line_of says.front (one ∷ [])
            ∙ ap (λ (cs : List LineContent). cs ++ line_of one ∷ []) says.contents
            ∙ ap (λ (c : LineContent). contents_of read ++ c ∷ []) (sym is)
            ∙ contents_push read line;
        cuts = cuts_more text [] rest says.front k (λ i d below. absurd (omega (arith, below))) first says.cuts;
      }

  newest_push : (read : List (Line A)) (line : Line A) → newest_in (read ++ line ∷ []) ≡ bytes_in (content_of line)
  newest_push read line =
      let place : length (read ++ line ∷ []) - 1 ≡ length read = omega (arith, length_push read line) in
      ap (λ k. bytes_of_line (slice_get (read ++ line ∷ []) k)) place ∙ ap bytes_of_line (last_there read line)

  pub has_more : (read : List (Line A)) (line : Line A) (text : List ℕ) → content_of line ≡ line_of text → HasBytesIn (read ++ line ∷ []) text
  has_more read line text is bytes newest = ap bytes_in (sym is) ∙ sym (newest_push read line) ∙ newest

  pub depths_more : (read : List (Line A)) (line : Line A) → ListDepths read → ListsDepth (content_of line) → ListDepths (read ++ line ∷ [])
  depths_more read line depths depth = All-push (λ (l : Line A). ListsDepth (content_of l)) read line depths depth

  -- no line yet
  pub says_none : (text : List ℕ) (read : List (Line A)) → read ≡ [] → Says text read text
  says_none text read none = record { front = []; contents = ap contents_of (sym none); cuts = λ more. refl }

  pub depths_none : (read : List (Line A)) → read ≡ [] → ListDepths read
  depths_none read none = subst ListDepths (sym none) (λ i d below. absurd (omega (arith, below)))

  pub none_newest : (read : List (Line A)) (bytes : List ℕ) → read ≡ [] → newest_in read ≡ Some bytes → ⊥
  none_newest [] bytes none is = absurd (cc)
  none_newest (line ∷ read) bytes none is = absurd (cc)

  -- ---- the capture that lines make

  lines_come : (draft : Draft A) (texts before rest : List (List ℕ)) (read : List (Line A)) → map line_of texts ≡ contents_of read → HoldsLines draft before → add_lines 1 ((before ++ texts) ++ rest) no_capture ≡ capture_after draft (contents_of read ++ map line_of rest)
  lines_come draft texts before rest read says held =
      ap (λ (ls : List (List ℕ)). add_lines 1 ls no_capture) (append_assoc before texts rest)
      ∙ held (texts ++ rest)
      ∙ contents_are draft.line (texts ++ rest) (capture_so_far draft)
      ∙ ap (λ (cs : List LineContent). add_contents draft.line cs (capture_so_far draft)) (map-append line_of texts rest ∙ ap (λ (cs : List LineContent). cs ++ map line_of rest) says)

  pub content_added : (old new : Draft A) (content : LineContent) (rest : List LineContent) → add_line old.line content (capture_so_far old) ≡ Ok (capture_so_far new) → new.line ≡ next_line old.line → capture_after old (content ∷ rest) ≡ capture_after new rest
  content_added old new content rest is line =
      ap (λ (r : Result CaptureContent RefusedLine). and_then r (add_contents (next_line old.line) rest)) is
      ∙ ap (λ (n : ℕ). add_contents n rest (capture_so_far new)) (sym line)

  pub content_refused : (draft : Draft A) (content : LineContent) (rest : List LineContent) (fault : CaptureFault) → IsTextFaultOf (add_line draft.line content (capture_so_far draft)) fault → IsTextFaultOf (capture_after draft (content ∷ rest)) fault
  content_refused draft content rest fault is = fault_stays _ (add_contents (next_line draft.line) rest) fault is

  -- the lines that are left, one less
  pub next_contents : (left further : List (Line A)) (line : Line A) (rest : List LineContent) → left ≡ line ∷ further → contents_of left ++ rest ≡ content_of line ∷ (contents_of further ++ rest)
  next_contents left further line rest is = ap (λ (ls : List (Line A)). contents_of ls ++ rest) is

  -- lines that were read by themselves
  pub lines_added : (old new : Draft A) (texts before : List (List ℕ)) (read : List (Line A)) → map line_of texts ≡ contents_of read → ((rest : List LineContent) → capture_after old (contents_of read ++ rest) ≡ capture_after new rest) → HoldsLines old before → HoldsLines new (before ++ texts)
  lines_added old new texts before read says added held rest =
      lines_come old texts before rest read says held ∙ added (map line_of rest) ∙ sym (contents_are new.line rest (capture_so_far new))

  -- where nothing is pending, the text of a part goes on with what was read before
  part_cuts : (reading : Reading A) (before text rest : List ℕ) (read : List (Line A)) (taken : HasRead reading before) (says : Says text read rest) → reading.cutter ≡ [] → Cuts (before ++ text) (taken.front ++ says.front) rest
  part_cuts reading before text rest read taken says none more =
      let front = taken.front in
      ap lines (append_assoc before text more)
      ∙ taken.cuts (text ++ more)
      ∙ ap (λ (t : List ℕ). front ++ lines (t ++ (text ++ more))) none
      ∙ ap (λ (ls : List (List ℕ)). front ++ ls) (says.cuts more)
      ∙ sym (append_assoc front says.front (lines (rest ++ more)))

  pub part_taken : (old new : Reading A) (before text rest : List ℕ) (read : List (Line A)) → HasRead old before → old.cutter ≡ [] → Says text read rest → ((behind : List LineContent) → capture_after old.draft (contents_of read ++ behind) ≡ capture_after new.draft behind) → new.cutter ≡ rest → HasRead new (before ++ text)
  part_taken old new before text rest read taken none says added is = record {
    front = taken.front ++ says.front;
    says = lines_added old.draft new.draft says.front taken.front read says.contents added taken.says;
    cuts = subst (Cuts (before ++ text) (taken.front ++ says.front)) (sym is) (part_cuts old before text rest read taken says none);
  }

  pub part_refused : (old : Reading A) (text rest : List ℕ) (read : List (Line A)) (fault : CaptureFault) → old.cutter ≡ [] → Says text read rest → ((behind : List LineContent) → IsTextFaultOf (capture_after old.draft (contents_of read ++ behind)) fault) → RefusesPiece old text fault
  part_refused old text rest read fault none says refused before more taken =
      let ls = lines (rest ++ more) in
      same_fault _ _ fault
      (ap (λ (all : List (List ℕ)). needs_instrument (add_lines 1 all no_capture)) (part_cuts old before text rest read taken says none more)
      ∙ ap needs_instrument (lines_come old.draft says.front taken.front ls read says.contents taken.says))
      (fault_whole _ fault (refused (map line_of ls)))

  -- ---- parts that were read by themselves

  pub are_read : {E : Type 0} (texts : List (Bor (List ℕ))) (answers : List (Result (Part A) E)) → length answers ≡ length texts → ((i : ℕ) (d : Result (Part A) E) (t : Bor (List ℕ)) → i < length texts → IfOk (slice_index_or answers i d) (IsReadOf (slice_index_or texts i t).now)) → AreReadOf texts answers
  are_read [] [] long each = tt
  are_read [] (answer ∷ answers) long each = absurd (omega (arith, long))
  are_read (text ∷ texts) [] long each = absurd (omega (arith, long))
  are_read (text ∷ texts) (answer ∷ answers) long each = (each 0 answer text (omega arith), are_read texts answers (omega (arith, long)) (λ i d t below. each (suc i) d t (omega (arith, below))))

  -- the next of the texts that are left, with its answer
  pub record NextText {E : Type 0} (texts : List (Bor (List ℕ))) (n next : ℕ) (t : Bor (List ℕ)) (answer : Result (Part A) E) (answers : List (Result (Part A) E)) : Type 0 where
    pub there : n < length texts
    pub read : IfOk answer (IsReadOf (slice_index_or texts n t).now)
    pub further : AreReadOf (drop next texts) answers
    pub is : joined (drop n texts) ≡ (slice_index_or texts n t).now ++ joined (drop next texts)

  next_text : {E : Type 0} (texts : List (Bor (List ℕ))) (n : ℕ) (t : Bor (List ℕ)) (answer : Result (Part A) E) (answers : List (Result (Part A) E)) → AreReadOf (drop n texts) (answer ∷ answers) → NextText texts n (suc n) t answer answers
  next_text [] zero t answer answers read = elim read [ ]
  next_text [] (suc n) t answer answers read = elim read [ ]
  next_text (text ∷ texts) zero t answer answers read = record { there = omega arith; read = read.0; further = read.1; is = refl }
  next_text (text ∷ texts) (suc n) t answer answers read =
      let next = next_text texts n t answer answers read in
      record { there = omega (arith, next.there); read = next.read; further = next.further; is = next.is }

  pub next_at : {E : Type 0} (texts : List (Bor (List ℕ))) (n : ℕ) (t : Bor (List ℕ)) (answer : Result (Part A) E) (answers : List (Result (Part A) E)) → AreReadOf (drop n texts) (answer ∷ answers) → NextText texts n (n + 1) t answer answers
  next_at texts n t answer answers read =
      let same : suc n ≡ n + 1 = omega arith in
      subst (λ (m : ℕ). NextText texts n m t answer answers) same (next_text texts n t answer answers read)

  -- no text is left where no answer is
  pub none_left : {E : Type 0} (texts : List (Bor (List ℕ))) (answers : List (Result (Part A) E)) → AreReadOf texts answers → length answers ≡ 0 → joined texts ≡ []
  none_left [] answers read none = refl
  none_left (text ∷ texts) [] read none = elim read [ ]
  none_left (text ∷ texts) (answer ∷ answers) read none = absurd (omega (arith, none))

-- one text more behind others
pub joined_push : (texts : List (Bor (List ℕ))) (text : Bor (List ℕ)) (rest : List ℕ) → joined (texts ++ text ∷ []) ++ rest ≡ joined texts ++ (text.now ++ rest)
joined_push [] text rest = append_assoc text.now [] rest
joined_push (first ∷ texts) text rest =
    append_assoc first.now (joined (texts ++ text ∷ [])) rest
    ∙ ap (λ (bytes : List ℕ). first.now ++ bytes) (joined_push texts text rest)
    ∙ sym (append_assoc first.now (joined texts) (text.now ++ rest))

-- a text that is taken in by two parts
pub two_parts : (text one other more whole : List ℕ) → text ++ (one ++ other) ≡ whole → whole ++ more ≡ (text ++ one) ++ (other ++ more)
two_parts text one other more whole is =
    ap (λ (t : List ℕ). t ++ more) (sym is ∙ sym (append_assoc text one other)) ∙ append_assoc (text ++ one) other more

pub cut_whole : (n : ℕ) (text piece : List ℕ) → text ++ (take n piece ++ drop n piece) ≡ text ++ piece
cut_whole n text piece = ap (λ (t : List ℕ). text ++ t) (take-append-drop n piece)
