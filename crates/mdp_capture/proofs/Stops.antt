-- Where the reading of lines stops, and with what.
use Rattle.std.proofs.Common.{◌≡◌, ℕ, zero, suc, inl, inr, ◌+◌, ◌<◌, List, [], ◌∷◌, ◌++◌, length, take, Some, Result, Ok, Err, refl, sym, ap, ◌∙◌, subst, append_assoc, append-nil, length-append, take-append-drop, drop, arith, below_more}
use Rattle.std.specs.List.{flat_map, slice_get}
use Rattle.std.specs.Str.Lines.{lines}
use Rattle.std.proofs.lemmas.Bool.{cases_order}
use Rattle.std.proofs.lemmas.Grind.{flat_map-append}
use Rattle.std.proofs.lemmas.List.{drop_more, length_push, take-append-le, take_at}
use Rattle.std.proofs.lemmas.Option.{get_or_from_slice_get, same_Some, slice_get_within}
use Rattle.mdp_templates.specs.declared.feed.Feed.TheVariants as feeds
use Rattle.mdp_templates.specs.declared.instrument.Instrument.{Instrument}
use Rattle.mdp_capture.specs.Capture.{CaptureContent, RefusedLine, add_line, add_lines, and_then, next_line, no_capture}
use Rattle.mdp_capture.specs.Line.{LineContent, Listing, line_of}
use Rattle.mdp_capture.specs.Lines.{NumberedLine, instruments_of, numbered_lines, records_on, skipped_of}
use Rattle.mdp_capture.specs.Fronts.{front_from, front_of, unless_stopped}
use Rattle.mdp_capture.specs.Refused.{Holds, IsFirstRefused, IsRefusedFor, NoneRefuses, RefusesAt}
use Rattle.mdp_capture.specs.declared.fault.CaptureRefusal.{CaptureRefusal}
use Rattle.mdp_capture.proofs.Bringing.{brought_by, same_lists, line_at, lines_from, next_number, number_at, one_line}
use Rattle.mdp_capture.proofs.Reasons.{line_refuses, none_holds, same_refusal}

-- ---- a line at a place

pub get_left : {X : Type 0} (xs ys : List X) (k : ℕ) → k < length xs → slice_get (xs ++ ys) k ≡ slice_get xs k
get_left [] ys k below = absurd (omega (arith, below))
get_left (x ∷ xs) ys zero below = refl
get_left (x ∷ xs) ys (suc k) below = get_left xs ys k (omega (arith, below))

pub get_seam : {X : Type 0} (xs : List X) (y : X) (ys : List X) → slice_get (xs ++ y ∷ ys) (length xs) ≡ Some y
get_seam [] y ys = refl
get_seam (x ∷ xs) y ys = get_seam xs y ys

-- what stands behind a line has no say in whether it refuses the run
refuses_in : (before behind : List NumberedLine) (k n : ℕ) (r : CaptureRefusal) → k < length before → RefusesAt (before ++ behind) k n r → RefusesAt before k n r
refuses_in before behind k n r below refuses = record {
  instrument = refuses.instrument;
  line = sym (get_left before behind k below) ∙ refuses.line;
  refused = subst (λ (ls : List NumberedLine). IsRefusedFor r ls refuses.instrument) (take-append-le k before behind (omega (arith, below))) refuses.refused;
}

-- a line behind lines that refuse nothing
abbrev IsQuiet : List NumberedLine → NumberedLine → Type 0
IsQuiet before line = (i : Instrument) → line.content ≡ Listing i → (r : CaptureRefusal) → Holds r before i → ⊥

none_at : (before : List NumberedLine) (line : NumberedLine) → IsQuiet before line → (n : ℕ) (r : CaptureRefusal) → RefusesAt (before ++ line ∷ []) (length before) n r → ⊥
none_at before line quiet n r refuses =
    let same = same_Some _ _ (sym (get_seam before line []) ∙ refuses.line) in
    let refused = subst (λ (ls : List NumberedLine). IsRefusedFor r ls refuses.instrument) (take_at before (line ∷ []) (length before) refl) refuses.refused in
    quiet refuses.instrument (ap (λ (l : NumberedLine). l.content) same) r refused.holds

none_more : (before : List NumberedLine) (line : NumberedLine) → NoneRefuses before (length before) → IsQuiet before line → NoneRefuses (before ++ line ∷ []) (length (before ++ line ∷ []))
none_more before line none quiet k n r below =
    let P : ℕ → Type 0 = λ k. (n : ℕ) (r : CaptureRefusal) → RefusesAt (before ++ line ∷ []) k n r → ⊥ in
    below_more P (length before) (λ k low n r refuses. none k n r low (refuses_in before (line ∷ []) k n r low refuses)) (none_at before line quiet)
    k (omega (arith, below, length_push before line)) n r

-- ---- line by line

-- the lines up to the first that refuses the run, or all, are what was read and what the front holds
pub data Stops (lines : List NumberedLine) (result : Result CaptureContent RefusedLine) (front : CaptureContent) : Type 0 where
  whole : result ≡ Ok (brought_by lines) → front ≡ brought_by lines → NoneRefuses lines (length lines) → Stops lines result front
  stopped : (refused : RefusedLine) → result ≡ Err refused → (first : IsFirstRefused lines refused.line refused.refusal) → front ≡ brought_by (take first.place lines) → Stops lines result front

brings_more : (before : List NumberedLine) (n : ℕ) (content : LineContent) (new : CaptureContent) → add_line n content (brought_by before) ≡ Ok new → new ≡ brought_by (before ++ line_at n content ∷ [])
brings_more before n content new is =
    let adds = one_line n content (brought_by before) new is in
    let line = line_at n content ∷ [] in
    same_lists new (brought_by (before ++ line))
    (adds.instruments ∙ sym (flat_map-append instruments_of before line))
    (adds.a ∙ sym (flat_map-append (records_on feeds.A) before line))
    (adds.b ∙ sym (flat_map-append (records_on feeds.B) before line))
    (adds.s ∙ sym (flat_map-append (records_on feeds.S) before line))
    (adds.skipped ∙ sym (flat_map-append skipped_of before line))

quiet_line : (before : List NumberedLine) (n : ℕ) (content : LineContent) (new : CaptureContent) → add_line n content (brought_by before) ≡ Ok new → IsQuiet before (line_at n content)
quiet_line before n content new is i lists =
    none_holds before n i new (ap (λ (c : LineContent). add_line n c (brought_by before)) (sym lists) ∙ is)

-- the lines of a text from a place on, read behind these
abbrev ReadsOn : List NumberedLine → List (List ℕ) → ℕ → CaptureContent → Type 0
ReadsOn lines texts n old = Stops lines (add_lines n texts old) (front_from n texts old)

one_line_read : (before : List NumberedLine) (place : ℕ) (text : List ℕ) (rest : List (List ℕ)) (r : Result CaptureContent RefusedLine)
    → NoneRefuses before (length before)
    → ((more : List NumberedLine) → NoneRefuses more (length more) → ReadsOn (more ++ lines_from (place + 1) rest) rest (number_at (place + 1)) (brought_by more))
    → add_line (number_at place) (line_of text) (brought_by before) ≡ r
    → Stops (before ++ lines_from place (text ∷ rest)) (and_then r (add_lines (next_line (number_at place)) rest)) (unless_stopped r (brought_by before) (front_from (next_line (number_at place)) rest))
one_line_read before place text rest (Ok new) none on is =
    let n = number_at place in
    let line = line_at n (line_of text) in
    let more = before ++ line ∷ [] in
    let later = lines_from (place + 1) rest in
    let reads = on more (none_more before line none (quiet_line before n (line_of text) new is)) in
    let there : ReadsOn (before ++ line ∷ later) rest (number_at (place + 1)) (brought_by more) =
    subst (λ (ls : List NumberedLine). ReadsOn ls rest (number_at (place + 1)) (brought_by more)) (append_assoc before (line ∷ []) later) reads in
    let numbered : ReadsOn (before ++ line ∷ later) rest (next_line n) (brought_by more) =
    subst (λ (m : ℕ). ReadsOn (before ++ line ∷ later) rest m (brought_by more)) (sym (next_number place)) there in
    subst (λ (c : CaptureContent). ReadsOn (before ++ line ∷ later) rest (next_line n) c) (sym (brings_more before n (line_of text) new is)) numbered
one_line_read before place text rest (Err refused) none on is =
    let n = number_at place in
    let line = line_at n (line_of text) in
    let later = lines_from (place + 1) rest in
    let refuses = line_refuses before n (line_of text) refused is in
    let front : take (length before) (before ++ line ∷ later) ≡ before = take_at before (line ∷ later) (length before) refl in
    let first : IsFirstRefused (before ++ line ∷ later) refused.line refused.refusal = record {
      place = length before;
      refuses = record {
        instrument = refuses.instrument;
        line = get_seam before line later ∙ ap (λ (l : NumberedLine). Some l) refuses.is;
        refused = subst (λ (ls : List NumberedLine). IsRefusedFor refused.refusal ls refuses.instrument) (sym front) refuses.for;
      };
      first = λ k m r below refusing. none k m r below (refuses_in before (line ∷ later) k m r below refusing);
    } in
    stopped refused refl first (ap brought_by (sym front))

read_on : (texts : List (List ℕ)) (before : List NumberedLine) (place : ℕ) → NoneRefuses before (length before) → ReadsOn (before ++ lines_from place texts) texts (number_at place) (brought_by before)
read_on [] before place none =
    subst (λ (ls : List NumberedLine). ReadsOn ls [] (number_at place) (brought_by before)) (sym (append-nil before)) (whole refl refl none)
read_on (text ∷ rest) before place none =
    one_line_read before place text rest (add_line (number_at place) (line_of text) (brought_by before)) none (λ more. read_on rest more (place + 1)) refl

pub stops : (text : List ℕ) → Stops (numbered_lines text) (add_lines 1 (lines text) no_capture) (front_of text)
stops text = read_on (lines text) [] 1 (λ k n r below refuses. absurd (omega (arith, below)))

-- ---- the first line that refuses is one

same_line : (lines : List NumberedLine) (k n m : ℕ) (r s : CaptureRefusal) → RefusesAt lines k n r → RefusesAt lines k m s → (n ≡ m) × (r ≡ s)
same_line lines k n m r s one other =
    let same = same_Some _ _ (sym one.line ∙ other.line) in
    let listed : Listing one.instrument ≡ Listing other.instrument = ap (λ (l : NumberedLine). l.content) same in
    let instrument : one.instrument ≡ other.instrument = cc in
    let there = subst (λ (i : Instrument). IsRefusedFor s (take k lines) i) (sym instrument) other.refused in
    (ap (λ (l : NumberedLine). l.number) same, same_refusal (take k lines) one.instrument r s one.refused there)

pub first_alone : (lines : List NumberedLine) (n m : ℕ) (r s : CaptureRefusal) → IsFirstRefused lines n r → IsFirstRefused lines m s → (n ≡ m) × (r ≡ s)
first_alone lines n m r s one other =
    elim (cases_order one.place other.place) [
      | inl same ↦ same_line lines one.place n m r s one.refuses (subst (λ (k : ℕ). RefusesAt lines k m s) (sym same) other.refuses)
      | inr apart ↦ elim apart [
        | inl before ↦ absurd (other.first one.place n r before one.refuses)
        | inr behind ↦ absurd (one.first other.place m s behind other.refuses)
      ]
    ]

-- ---- the instrument of a line

pub listed_there : (lines : List NumberedLine) (k n : ℕ) (i : Instrument) → slice_get lines k ≡ Some (record { number = n; content = Listing i }) → flat_map instruments_of lines ≡ flat_map instruments_of (take k lines) ++ i ∷ flat_map instruments_of (drop (k + 1) lines)
listed_there lines k n i is =
    let line : NumberedLine = record { number = n; content = Listing i } in
    let behind = drop (k + 1) lines in
    let there : drop k lines ≡ line ∷ behind = drop_more lines k line (slice_get_within lines k line is) ∙ ap (λ (l : NumberedLine). l ∷ behind) (get_or_from_slice_get lines k line line is) in
    ap (λ (ls : List NumberedLine). flat_map instruments_of ls) (sym (take-append-drop k lines) ∙ ap (λ (ls : List NumberedLine). take k lines ++ ls) there)
    ∙ flat_map-append instruments_of (take k lines) (line ∷ behind)

pub listed_some : (lines : List NumberedLine) (k n : ℕ) (i : Instrument) → slice_get lines k ≡ Some (record { number = n; content = Listing i }) → 0 < length (flat_map instruments_of lines)
listed_some lines k n i is =
    let before = flat_map instruments_of (take k lines) in
    let behind = flat_map instruments_of (drop (k + 1) lines) in
    omega (arith, ap length (listed_there lines k n i is), length-append before (i ∷ behind))
