-- A text goes on from what stands before one of its line feeds.
use Rattle.std.proofs.Common.{◌≡◌, ℕ, ◌+◌, ◌<◌, Bool, true, false, cond, eqb, List, [], ◌∷◌, ◌++◌, length, map, Some, Result, Ok, Err, refl, sym, ap, ◌∙◌, subst, append_assoc, append-nil, length-append, arith}
use Rattle.std.specs.Prelude.{◌==◌}
use Rattle.std.specs.List.{flat_map, onto_first, slice_split}
use Rattle.std.specs.Str.Lines.{lines, lines_of_parts, strip_carriage_return}
use Rattle.std.proofs.lemmas.Bool.{cond-false, cond-true, ne_eqb}
use Rattle.std.proofs.lemmas.List.Splits.{length-slice_split}
use Rattle.mdp_templates.specs.declared.instrument.Instrument.{Instrument}
use Rattle.mdp_templates.specs.declared.feed.Feed.TheVariants as feeds
use Rattle.mdp_capture.specs.Capture.{CaptureContent, RefusedLine, add_line, add_lines, and_then, capture_of, has_record, needs_instrument, next_line, no_capture, refusal_of}
use Rattle.mdp_capture.specs.Fronts.{BeginsWith, FollowsRecords, GoesOnFrom, front_from, front_of, unless_stopped}
use Rattle.mdp_capture.specs.Line.{LineContent, Blank, Listing, Packet, Closing, Skipped, line_of}
use Rattle.mdp_capture.specs.Lines.{NumberedLine, instruments_of, records_on, skipped_of}
use Rattle.mdp_capture.specs.declared.fault.CaptureRefusal.TheVariants.{InstrumentLate, NoInstrument}
use Rattle.mdp_capture.proofs.Bringing.{Adds, all_lines, counted_some, keeps_records, line_at, lines_from, next_number, none_behind, number_at, one_line, records, some_counted, some_instrument}
use Rattle.mdp_capture.proofs.Reasons.{refused_with}

-- ---- the lines of a text that is cut behind a line feed

abbrev split : List ℕ → List (List ℕ)
split text = slice_split (λ byte. eqb byte 10) text

some_parts : (text : List ℕ) → 0 < length (split text)
some_parts text = omega (arith, length-slice_split (λ byte. eqb byte 10) text)

first_part : (ends : Bool) (x : ℕ) (ps qs : List (List ℕ)) → 0 < length ps → cond ends ([] ∷ (ps ++ qs)) (onto_first x (ps ++ qs)) ≡ cond ends ([] ∷ ps) (onto_first x ps) ++ qs
first_part ends x [] qs some = absurd (omega (arith, some))
first_part true x (p ∷ ps) qs some = refl
first_part false x (p ∷ ps) qs some = refl

split_behind : (text more : List ℕ) → split (text ++ 10 ∷ more) ≡ split text ++ split more
split_behind [] more = refl
split_behind (x ∷ text) more =
    ap (λ (ps : List (List ℕ)). cond (eqb x 10) ([] ∷ ps) (onto_first x ps)) (split_behind text more) ∙ first_part (eqb x 10) x (split text) (split more) (some_parts text)

one_ended : (part : List ℕ) (parts : List (List ℕ)) → 0 < length parts → lines_of_parts (part ∷ parts) ≡ strip_carriage_return part ∷ lines_of_parts parts
one_ended part [] some = absurd (omega (arith, some))
one_ended part (next ∷ parts) some = refl

all_ended : (ps qs : List (List ℕ)) → 0 < length qs → lines_of_parts (ps ++ qs) ≡ map strip_carriage_return ps ++ lines_of_parts qs
all_ended [] qs some = refl
all_ended (p ∷ ps) qs some =
    one_ended p (ps ++ qs) (omega (arith, length-append ps qs, some)) ∙ ap (λ (ls : List (List ℕ)). strip_carriage_return p ∷ ls) (all_ended ps qs some)

-- the lines that line feeds end
abbrev ended : List ℕ → List (List ℕ)
ended text = map strip_carriage_return (split text)

pub lines_behind : (text more : List ℕ) → lines (text ++ 10 ∷ more) ≡ lines (text ++ 10 ∷ []) ++ lines more
lines_behind text more =
    let cut : (more : List ℕ) → lines (text ++ 10 ∷ more) ≡ ended text ++ lines more =
    λ more. ap lines_of_parts (split_behind text more) ∙ all_ended (split text) (split more) (some_parts more) in
    cut more ∙ ap (λ (ls : List (List ℕ)). ls ++ lines more) (sym (cut [] ∙ append-nil (ended text)))

-- ---- captures that go on from captures

stays : (c : CaptureContent) → GoesOnFrom c c
stays c = record {
  instruments = ([], sym (append-nil c.instruments));
  a = ([], sym (append-nil c.a));
  b = ([], sym (append-nil c.b));
  s = ([], sym (append-nil c.s));
  skipped = ([], sym (append-nil c.skipped));
}

longer : {X : Type 0} (xs ys zs : List X) → BeginsWith ys xs → BeginsWith zs ys → BeginsWith zs xs
longer {X} xs ys zs (more, first) (most, then) = (more ++ most, then ∙ ap (λ (l : List X). l ++ most) first ∙ append_assoc xs more most)

goes_further : (one two three : CaptureContent) → GoesOnFrom one two → GoesOnFrom two three → GoesOnFrom one three
goes_further one two three first then = record {
  instruments = longer one.instruments two.instruments three.instruments first.instruments then.instruments;
  a = longer one.a two.a three.a first.a then.a;
  b = longer one.b two.b three.b first.b then.b;
  s = longer one.s two.s three.s first.s then.s;
  skipped = longer one.skipped two.skipped three.skipped first.skipped then.skipped;
}

with_lines : (ls : List NumberedLine) (old new : CaptureContent) → Adds ls old new → GoesOnFrom old new
with_lines ls old new adds = record {
  instruments = (flat_map instruments_of ls, adds.instruments);
  a = (flat_map (records_on feeds.A) ls, adds.a);
  b = (flat_map (records_on feeds.B) ls, adds.b);
  s = (flat_map (records_on feeds.S) ls, adds.s);
  skipped = (flat_map skipped_of ls, adds.skipped);
}

-- ---- the front of more lines

grown_by_one : (n : ℕ) (content : LineContent) (c : CaptureContent) (next : CaptureContent → CaptureContent) (r : Result CaptureContent RefusedLine)
    → add_line n content c ≡ r → ((new : CaptureContent) → GoesOnFrom new (next new)) → GoesOnFrom c (unless_stopped r c next)
grown_by_one n content c next (Ok new) is on = goes_further c new (next new) (with_lines (line_at n content ∷ []) c new (one_line n content c new is)) (on new)
grown_by_one n content c next (Err refused) is on = stays c

grown : (n : ℕ) (texts : List (List ℕ)) (c : CaptureContent) → GoesOnFrom c (front_from n texts c)
grown n [] c = stays c
grown n (text ∷ rest) c = grown_by_one n (line_of text) c (front_from (next_line n) rest) (add_line n (line_of text) c) refl (grown (next_line n) rest)

both_grown : (c : CaptureContent) (next further : CaptureContent → CaptureContent) (r : Result CaptureContent RefusedLine)
    → ((new : CaptureContent) → GoesOnFrom (next new) (further new)) → GoesOnFrom (unless_stopped r c next) (unless_stopped r c further)
both_grown c next further (Ok new) on = on new
both_grown c next further (Err refused) on = stays c

pub front_grows : (n : ℕ) (texts more : List (List ℕ)) (c : CaptureContent) → GoesOnFrom (front_from n texts c) (front_from n (texts ++ more) c)
front_grows n [] more c = grown n more c
front_grows n (text ∷ rest) more c = both_grown c (front_from (next_line n) rest) (front_from (next_line n) (rest ++ more)) (add_line n (line_of text) c) (front_grows (next_line n) rest more)

pub beginnings : (text more : List ℕ) → GoesOnFrom (front_of (text ++ 10 ∷ [])) (front_of (text ++ 10 ∷ more))
beginnings text more =
    let front = lines (text ++ 10 ∷ []) in
    subst (λ (ls : List (List ℕ)). GoesOnFrom (front_of (text ++ 10 ∷ [])) (front_from 1 ls no_capture)) (sym (lines_behind text more)) (front_grows 1 front (lines more) no_capture)

-- ---- lines behind lines

then_both : (r : Result CaptureContent RefusedLine) (both first then : CaptureContent → Result CaptureContent RefusedLine) → ((c : CaptureContent) → both c ≡ and_then (first c) then) → and_then r both ≡ and_then (and_then r first) then
then_both (Ok c) both first then same = same c
then_both (Err refused) both first then same = refl

pub add_both : (place : ℕ) (texts more : List (List ℕ)) (c : CaptureContent) → add_lines (number_at place) (texts ++ more) c ≡ and_then (add_lines (number_at place) texts c) (add_lines (number_at (place + length texts)) more)
add_both place [] more c = ap (λ (p : ℕ). add_lines (number_at p) more c) (omega arith)
add_both place (text ∷ rest) more c =
    let n = number_at place in
    let next : number_at (place + 1 + length rest) ≡ number_at (place + length (text ∷ rest)) = ap number_at (omega arith) in
    let both : (c : CaptureContent) → add_lines (next_line n) (rest ++ more) c ≡ and_then (add_lines (next_line n) rest c) (add_lines (number_at (place + length (text ∷ rest))) more) =
    λ c. ap (λ (m : ℕ). add_lines m (rest ++ more) c) (next_number place)
    ∙ add_both (place + 1) rest more c
    ∙ ap (λ (m : ℕ). and_then (add_lines m rest c) (add_lines (number_at (place + 1 + length rest)) more)) (sym (next_number place))
    ∙ ap (λ (m : ℕ). and_then (add_lines (next_line n) rest c) (add_lines m more)) next in
    then_both (add_line n (line_of text) c) (add_lines (next_line n) (rest ++ more)) (add_lines (next_line n) rest) (add_lines (number_at (place + length (text ∷ rest))) more) both

-- ---- behind a record

late_line : (n : ℕ) (content : LineContent) (c : CaptureContent) (refused : RefusedLine) → 0 < records c → add_line n content c ≡ Err refused → refused.refusal ≡ InstrumentLate
late_line n (Listing i) c refused some is =
    let why = refused_with n (refusal_of c i) (record c { instruments = c.instruments ++ i ∷ [] }) refused is in
    let late : refusal_of c i ≡ Some InstrumentLate = cond-true (has_record c) _ _ (counted_some (length c.a) (length c.b) (length c.s) some) in
    cc
late_line n Blank c refused some is = absurd (cc)
late_line n (Packet feed bytes) c refused some is = absurd (cc)
late_line n Closing c refused some is = absurd (cc)
late_line n (Skipped skip) c refused some is = absurd (cc)

late_behind : (n : ℕ) (content : LineContent) (c : CaptureContent) (then : CaptureContent → Result CaptureContent RefusedLine) (refused : RefusedLine) (r : Result CaptureContent RefusedLine)
    → 0 < records c → add_line n content c ≡ r → ((new : CaptureContent) → 0 < records new → then new ≡ Err refused → refused.refusal ≡ InstrumentLate) → and_then r then ≡ Err refused → refused.refusal ≡ InstrumentLate
late_behind n content c then refused (Ok new) some is on stop = on new (keeps_records (line_at n content) c new (one_line n content c new is) some) stop
late_behind n content c then refused (Err other) some is on stop = late_line n content c refused some (is ∙ stop)

late_lines : (n : ℕ) (texts : List (List ℕ)) (c : CaptureContent) (refused : RefusedLine) → 0 < records c → add_lines n texts c ≡ Err refused → refused.refusal ≡ InstrumentLate
late_lines n [] c refused some is = absurd (cc)
late_lines n (text ∷ rest) c refused some is =
    late_behind n (line_of text) c (add_lines (next_line n) rest) refused (add_line n (line_of text) c) some refl (λ new. late_lines (next_line n) rest new refused) is

follows : (place : ℕ) (texts : List (List ℕ)) (front : CaptureContent) (r : Result CaptureContent RefusedLine) → 0 < length front.instruments → 0 < records front → add_lines (number_at place) texts front ≡ r → FollowsRecords front (needs_instrument r)
follows place texts front (Ok new) listed some is =
    let adds = all_lines place texts front new is in
    let same : new.instruments ≡ front.instruments =
    adds.instruments ∙ ap (λ (xs : List Instrument). front.instruments ++ xs) (none_behind place texts front new is some) ∙ append-nil front.instruments in
    let none : Result CaptureContent RefusedLine = Err (record { line = 0; refusal = NoInstrument }) in
    let there : needs_instrument (Ok new) ≡ Ok new = cond-false (length new.instruments == 0) none (Ok new) (ne_eqb _ 0 (λ z. omega (arith, z, ap length same, listed))) in
    subst (FollowsRecords front) (sym there) (with_lines (lines_from place texts) front new adds, same)
follows place texts front (Err refused) listed some is = late_lines (number_at place) texts front refused some is

pub lateness : (text more : List ℕ) (front : CaptureContent) → capture_of (text ++ 10 ∷ []) ≡ Ok front → has_record front ≡ true → FollowsRecords front (capture_of (text ++ 10 ∷ more))
lateness text more front is has =
    let before = lines (text ++ 10 ∷ []) in
    let place = 1 + length before in
    let found = some_instrument (add_lines 1 before no_capture) front is in
    let reads : add_lines 1 (lines (text ++ 10 ∷ more)) no_capture ≡ add_lines (number_at place) (lines more) front =
    ap (λ (ls : List (List ℕ)). add_lines 1 ls no_capture) (lines_behind text more)
    ∙ add_both 1 before (lines more) no_capture
    ∙ ap (λ (r : Result CaptureContent RefusedLine). and_then r (add_lines (number_at place) (lines more))) found.same in
    subst (λ (r : Result CaptureContent RefusedLine). FollowsRecords front (needs_instrument r)) (sym reads)
    (follows place (lines more) front (add_lines (number_at place) (lines more) front) found.some (some_counted (length front.a) (length front.b) (length front.s) has) refl)
