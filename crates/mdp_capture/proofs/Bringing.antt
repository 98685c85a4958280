-- What each line brings to a capture.
use Rattle.std.proofs.Common.{None, ◌≡◌, ℕ, zero, suc, inl, inr, ◌+◌, ◌<◌, min, Bool, true, false, cond, List, [], ◌∷◌, ◌++◌, length, map, Result, Ok, Err, refl, sym, ap, ◌∙◌, subst, append_assoc, append-nil, length-append, arith}
use Rattle.std.specs.Prelude.{◌==◌, ◌||◌, nat_lt, ◌≢◌, AllPairs}
use Rattle.std.specs.List.{enumerate_from, flat_map}
use Rattle.std.specs.Str.Lines.{lines}
use Rattle.std.proofs.lemmas.Bool.{cases_Bool}
use Rattle.std.proofs.lemmas.Bool.Decides.{nat_tests}
use Rattle.std.proofs.lemmas.List.{length_push}
use Rattle.mdp_templates.specs.declared.instrument.Instrument.{Instrument}
use Rattle.mdp_capture.specs.Line.{LineContent, Blank, Listing, Packet, Closing, Skipped, line_of}
use Rattle.mdp_capture.specs.Capture.{CaptureContent, RefusedLine, add_line, add_lines, and_then, capture_of, has_record, needs_instrument, next_line, no_capture, refusal_of}
use Rattle.mdp_capture.specs.Lines.{NumberedLine, line_with_number, instruments_of, records_on, skipped_of, InstrumentsFirst, IsCaptureOf}
use Rattle.mdp_capture.specs.Record.{RecordContent}
use Rattle.mdp_capture.specs.declared.fault.CaptureRefusal.TheVariants.{NoInstrument}
use Rattle.mdp_capture.specs.declared.skip.SkippedLine.{SkippedLine}
use Rattle.mdp_templates.specs.declared.feed.Feed.{Feed}
use Rattle.mdp_templates.specs.declared.feed.Feed.TheVariants as feeds
use Rattle.mdp_capture.proofs.Accepted.{accepted, in_time, other_name}
use Rattle.mdp_capture.proofs.Depths.{line_lists_depth}
use Rattle.mdp_capture.proofs.Fit.{fit_at_first, unrefused, line_keeps_fit, whole_is_fit}
use Rattle.mdp_capture.specs.Parsed.{ListsDepth}
use Rattle.mdp_capture.specs.FitSoFar.{AreFitSoFar}
use Rattle.std.proofs.lemmas.List.Quantifiers.{all_pairs_push}

-- these lines bring to a capture what makes the new one of it
pub record Adds (lines : List NumberedLine) (old new : CaptureContent) : Type 0 where
  pub instruments : new.instruments ≡ old.instruments ++ flat_map instruments_of lines
  pub a : new.a ≡ old.a ++ flat_map (records_on feeds.A) lines
  pub b : new.b ≡ old.b ++ flat_map (records_on feeds.B) lines
  pub s : new.s ≡ old.s ++ flat_map (records_on feeds.S) lines
  pub skipped : new.skipped ≡ old.skipped ++ flat_map skipped_of lines

-- the capture of what these lines bring
abbrev pub brought_by : List NumberedLine → CaptureContent
brought_by lines = record {
  instruments = flat_map instruments_of lines;
  a = flat_map (records_on feeds.A) lines;
  b = flat_map (records_on feeds.B) lines;
  s = flat_map (records_on feeds.S) lines;
  skipped = flat_map skipped_of lines;
}

-- captures of the same lists are the same
pub same_lists : (x y : CaptureContent) → x.instruments ≡ y.instruments → x.a ≡ y.a → x.b ≡ y.b → x.s ≡ y.s → x.skipped ≡ y.skipped → x ≡ y
same_lists x y i a b s k =
    let make : List Instrument → List RecordContent → List RecordContent → List RecordContent → List SkippedLine → CaptureContent = λ i a b s k. record { instruments = i; a = a; b = b; s = s; skipped = k } in
    ap (λ (v : List Instrument). make v x.a x.b x.s x.skipped) i
    ∙ (ap (λ (v : List RecordContent). make y.instruments v x.b x.s x.skipped) a
    ∙ (ap (λ (v : List RecordContent). make y.instruments y.a v x.s x.skipped) b
    ∙ (ap (λ (v : List RecordContent). make y.instruments y.a y.b v x.skipped) s
    ∙ ap (λ (v : List SkippedLine). make y.instruments y.a y.b y.s v) k)))

no_more : (capture : CaptureContent) → Adds [] capture capture
no_more c = record {
  instruments = sym (append-nil c.instruments);
  a = sym (append-nil c.a);
  b = sym (append-nil c.b);
  s = sym (append-nil c.s);
  skipped = sym (append-nil c.skipped);
}

-- a part of a capture grows by what one line brings and then the rest
grows : {X : Type 0} (f : NumberedLine → List X) (line : NumberedLine) (rest : List NumberedLine) (old middle new : List X) → middle ≡ old ++ (f line ++ []) → new ≡ middle ++ flat_map f rest → new ≡ old ++ flat_map f (line ∷ rest)
grows {X} f line rest old middle new first then =
    then ∙ (ap (λ (xs : List X). xs ++ flat_map f rest) (first ∙ ap (λ (xs : List X). old ++ xs) (append-nil (f line))) ∙ append_assoc old (f line) (flat_map f rest))

adds_more : (line : NumberedLine) (rest : List NumberedLine) (old middle new : CaptureContent) → Adds (line ∷ []) old middle → Adds rest middle new → Adds (line ∷ rest) old new
adds_more line rest old middle new first then = record {
  instruments = grows instruments_of line rest old.instruments middle.instruments new.instruments first.instruments then.instruments;
  a = grows (records_on feeds.A) line rest old.a middle.a new.a first.a then.a;
  b = grows (records_on feeds.B) line rest old.b middle.b new.b first.b then.b;
  s = grows (records_on feeds.S) line rest old.s middle.s new.s first.s then.s;
  skipped = grows skipped_of line rest old.skipped middle.skipped new.skipped first.skipped then.skipped;
}

same_capture : (old new : CaptureContent) → (let x : Result CaptureContent RefusedLine = Ok old in x) ≡ Ok new → old ≡ new
same_capture old new is = cc

-- one line
abbrev pub line_at : ℕ → LineContent → NumberedLine
line_at n content = record { number = n; content = content }

pub one_line : (n : ℕ) (content : LineContent) (old new : CaptureContent) → add_line n content old ≡ Ok new → Adds (line_at n content ∷ []) old new
one_line n Blank old new is =
    let none = no_more old in subst (Adds (line_at n Blank ∷ []) old) (same_capture _ new is) (record { instruments = none.instruments; a = none.a; b = none.b; s = none.s; skipped = none.skipped })
one_line n (Listing instrument) old new is =
    let none = no_more old in subst (Adds (line_at n (Listing instrument) ∷ []) old) (unrefused n (refusal_of old instrument) (record old { instruments = old.instruments ++ instrument ∷ [] }) new is).1 (record { instruments = refl; a = none.a; b = none.b; s = none.s; skipped = none.skipped })
one_line n (Packet feeds.A bytes) old new is =
    let none = no_more old in subst (Adds (line_at n (Packet feeds.A bytes) ∷ []) old) (same_capture _ new is) (record { instruments = none.instruments; a = refl; b = none.b; s = none.s; skipped = none.skipped })
one_line n (Packet feeds.B bytes) old new is =
    let none = no_more old in subst (Adds (line_at n (Packet feeds.B bytes) ∷ []) old) (same_capture _ new is) (record { instruments = none.instruments; a = none.a; b = refl; s = none.s; skipped = none.skipped })
one_line n (Packet feeds.S bytes) old new is =
    let none = no_more old in subst (Adds (line_at n (Packet feeds.S bytes) ∷ []) old) (same_capture _ new is) (record { instruments = none.instruments; a = none.a; b = none.b; s = refl; skipped = none.skipped })
one_line n Closing old new is =
    let none = no_more old in subst (Adds (line_at n Closing ∷ []) old) (same_capture _ new is) (record { instruments = none.instruments; a = none.a; b = none.b; s = refl; skipped = none.skipped })
one_line n (Skipped skip) old new is =
    let none = no_more old in subst (Adds (line_at n (Skipped skip) ∷ []) old) (same_capture _ new is) (record { instruments = none.instruments; a = none.a; b = none.b; s = none.s; skipped = refl })

-- a step that was taken, and then another
record Steps (first : Result CaptureContent RefusedLine) (then : CaptureContent → Result CaptureContent RefusedLine) (new : CaptureContent) : Type 0 where
  middle : CaptureContent
  taken : first ≡ Ok middle
  goes_on : then middle ≡ Ok new

both_steps : (first : Result CaptureContent RefusedLine) (then : CaptureContent → Result CaptureContent RefusedLine) (new : CaptureContent) → and_then first then ≡ Ok new → Steps first then new
both_steps (Ok middle) then new is = record { middle = middle; taken = refl; goes_on = is }
both_steps (Err refused) then new is = absurd (cc)

-- the number of a line at a place
abbrev pub number_at : ℕ → ℕ
number_at place = min place 4294967295

pub next_number : (place : ℕ) → next_line (number_at place) ≡ number_at (place + 1)
next_number place = omega arith

abbrev pub lines_from : ℕ → List (List ℕ) → List NumberedLine
lines_from place texts = map line_with_number (enumerate_from place texts)

pub all_lines : (place : ℕ) (texts : List (List ℕ)) (old new : CaptureContent) → add_lines (number_at place) texts old ≡ Ok new → Adds (lines_from place texts) old new
all_lines place [] old new is = subst (Adds [] old) (same_capture old new is) (no_more old)
all_lines place (text ∷ rest) old new is =
    let steps = both_steps (add_line (number_at place) (line_of text) old) (add_lines (next_line (number_at place)) rest) new is in
    let on : add_lines (number_at (place + 1)) rest steps.middle ≡ Ok new = subst (λ (n : ℕ). add_lines n rest steps.middle ≡ Ok new) (next_number place) steps.goes_on in
    adds_more (line_at (number_at place) (line_of text)) (lines_from (place + 1) rest) old steps.middle new (one_line (number_at place) (line_of text) old steps.middle steps.taken) (all_lines (place + 1) rest steps.middle new on)

-- ---- every instrument stands before the first record

pub some_counted : (a b s : ℕ) → (nat_lt 0 a || nat_lt 0 b || nat_lt 0 s) ≡ true → 0 < a + b + s
some_counted zero zero zero is = absurd (cc)
some_counted (suc a) b s is = omega arith
some_counted zero (suc b) s is = omega arith
some_counted zero zero (suc s) is = omega arith

pub counted_some : (a b s : ℕ) → 0 < a + b + s → (nat_lt 0 a || nat_lt 0 b || nat_lt 0 s) ≡ true
counted_some a b s some = grind (arith, nat_tests)

-- how many records a capture has
abbrev pub records : CaptureContent → ℕ
records capture = length capture.a + length capture.b + length capture.s

-- behind a record no line is an instrument's
none_listed : (n : ℕ) (content : LineContent) (old new : CaptureContent) → add_line n content old ≡ Ok new → 0 < records old → instruments_of (line_at n content) ≡ []
none_listed n Blank old new is some = refl
none_listed n (Listing instrument) old new is some =
    let taken = unrefused n (refusal_of old instrument) (record old { instruments = old.instruments ++ instrument ∷ [] }) new is in
    let early : has_record old ≡ false = (in_time old instrument taken.0).0 in
    let late : has_record old ≡ true = counted_some (length old.a) (length old.b) (length old.s) some in
    absurd (cc)
none_listed n (Packet feed bytes) old new is some = refl
none_listed n Closing old new is some = refl
none_listed n (Skipped skip) old new is some = refl

-- no record is lost
pub keeps_records : (line : NumberedLine) (old new : CaptureContent) → Adds (line ∷ []) old new → 0 < records old → 0 < records new
keeps_records line old new adds some =
    let a = ap length adds.a ∙ length-append old.a (flat_map (records_on feeds.A) (line ∷ [])) in
    let b = ap length adds.b ∙ length-append old.b (flat_map (records_on feeds.B) (line ∷ [])) in
    let s = ap length adds.s ∙ length-append old.s (flat_map (records_on feeds.S) (line ∷ [])) in
    omega (arith, a, b, s, some)

nothing_first : {X : Type 0} (f : NumberedLine → List X) (line : NumberedLine) (rest : List NumberedLine) → f line ≡ [] → flat_map f rest ≡ [] → flat_map f (line ∷ rest) ≡ []
nothing_first {X} f line rest first then = ap (λ (xs : List X). xs ++ flat_map f rest) first ∙ then

pub none_behind : (place : ℕ) (texts : List (List ℕ)) (old new : CaptureContent) → add_lines (number_at place) texts old ≡ Ok new → 0 < records old → flat_map instruments_of (lines_from place texts) ≡ []
none_behind place [] old new is some = refl
none_behind place (text ∷ rest) old new is some =
    let steps = both_steps (add_line (number_at place) (line_of text) old) (add_lines (next_line (number_at place)) rest) new is in
    let on : add_lines (number_at (place + 1)) rest steps.middle ≡ Ok new = subst (λ (n : ℕ). add_lines n rest steps.middle ≡ Ok new) (next_number place) steps.goes_on in
    let line = line_at (number_at place) (line_of text) in
    let adds = one_line (number_at place) (line_of text) old steps.middle steps.taken in
    nothing_first instruments_of line (lines_from (place + 1) rest) (none_listed (number_at place) (line_of text) old steps.middle steps.taken some) (none_behind (place + 1) rest steps.middle new on (keeps_records line old steps.middle adds some))

-- a line brings no record, or it brings one and is no instrument's
data Brought (n : ℕ) (content : LineContent) (new : CaptureContent) : Type 0 where
  quiet : ((feed : Feed) → records_on feed (line_at n content) ≡ []) → Brought n content new
  loud : instruments_of (line_at n content) ≡ [] → 0 < records new → Brought n content new

brought : (n : ℕ) (content : LineContent) (old new : CaptureContent) → add_line n content old ≡ Ok new → Brought n content new
brought n Blank old new is = quiet (λ feed. refl)
brought n (Listing instrument) old new is = quiet (λ feed. refl)
brought n (Packet feeds.A bytes) old new is = let adds = one_line n (Packet feeds.A bytes) old new is in loud refl (omega (arith, ap length adds.a ∙ length_push old.a _))
brought n (Packet feeds.B bytes) old new is = let adds = one_line n (Packet feeds.B bytes) old new is in loud refl (omega (arith, ap length adds.b ∙ length_push old.b _))
brought n (Packet feeds.S bytes) old new is = let adds = one_line n (Packet feeds.S bytes) old new is in loud refl (omega (arith, ap length adds.s ∙ length_push old.s _))
brought n Closing old new is = let adds = one_line n Closing old new is in loud refl (omega (arith, ap length adds.s ∙ length_push old.s _))
brought n (Skipped skip) old new is = quiet (λ feed. refl)

one_more_first : (n : ℕ) (content : LineContent) (rest : List NumberedLine) (middle : CaptureContent) → Brought n content middle → (0 < records middle → flat_map instruments_of rest ≡ []) → InstrumentsFirst rest → InstrumentsFirst (line_at n content ∷ rest)
one_more_first n content rest middle (quiet none) behind later = record {
  front = line_at n content ∷ later.front;
  back = later.back;
  whole = ap (λ (lines : List NumberedLine). line_at n content ∷ lines) later.whole;
  no_record = λ feed. nothing_first (records_on feed) (line_at n content) later.front (none feed) (later.no_record feed);
  no_instrument = later.no_instrument;
}
one_more_first n content rest middle (loud none some) behind later = record {
  front = [];
  back = line_at n content ∷ rest;
  whole = refl;
  no_record = λ feed. refl;
  no_instrument = nothing_first instruments_of (line_at n content) rest none (behind some);
}

instruments_first : (place : ℕ) (texts : List (List ℕ)) (old new : CaptureContent) → add_lines (number_at place) texts old ≡ Ok new → InstrumentsFirst (lines_from place texts)
instruments_first place [] old new is = record { front = []; back = []; whole = refl; no_record = λ feed. refl; no_instrument = refl }
instruments_first place (text ∷ rest) old new is =
    let steps = both_steps (add_line (number_at place) (line_of text) old) (add_lines (next_line (number_at place)) rest) new is in
    let on : add_lines (number_at (place + 1)) rest steps.middle ≡ Ok new = subst (λ (n : ℕ). add_lines n rest steps.middle ≡ Ok new) (next_number place) steps.goes_on in
    one_more_first (number_at place) (line_of text) (lines_from (place + 1) rest) steps.middle
    (brought (number_at place) (line_of text) old steps.middle steps.taken)
    (none_behind (place + 1) rest steps.middle new on)
    (instruments_first (place + 1) rest steps.middle new on)

-- ---- the instruments fit, and their names differ

abbrev pub NamesDiffer : List Instrument → Type 0
NamesDiffer = AllPairs (λ earlier later. earlier.name ≢ later.name)

named_more : (capture : CaptureContent) (instrument : Instrument) → refusal_of capture instrument ≡ None → NamesDiffer capture.instruments → NamesDiffer (capture.instruments ++ instrument ∷ [])
named_more capture instrument is differ =
    all_pairs_push (λ earlier later. earlier.name ≢ later.name) capture.instruments instrument differ
    (other_name capture.instruments instrument (accepted capture.instruments instrument (in_time capture instrument is).1).unlisted)

abbrev Named : CaptureContent → Type 0
Named capture = NamesDiffer capture.instruments

named_line : (n : ℕ) (content : LineContent) (old new : CaptureContent) → add_line n content old ≡ Ok new → Named old → Named new
named_line n Blank old new is differ = subst Named (same_capture _ new is) differ
named_line n (Listing instrument) old new is differ =
    let taken = unrefused n (refusal_of old instrument) (record old { instruments = old.instruments ++ instrument ∷ [] }) new is in
    subst Named taken.1 (named_more old instrument taken.0 differ)
named_line n (Packet feeds.A bytes) old new is differ = subst Named (same_capture _ new is) differ
named_line n (Packet feeds.B bytes) old new is differ = subst Named (same_capture _ new is) differ
named_line n (Packet feeds.S bytes) old new is differ = subst Named (same_capture _ new is) differ
named_line n Closing old new is differ = subst Named (same_capture _ new is) differ
named_line n (Skipped skip) old new is differ = subst Named (same_capture _ new is) differ

-- what each line keeps, all lines keep
all_keep : (P : CaptureContent → Type 0) → ((n : ℕ) (content : LineContent) (old new : CaptureContent) → ListsDepth content → add_line n content old ≡ Ok new → P old → P new) → (line : ℕ) (texts : List (List ℕ)) (old new : CaptureContent) → add_lines line texts old ≡ Ok new → P old → P new
all_keep P keeps line [] old new is held = subst P (same_capture old new is) held
all_keep P keeps line (text ∷ rest) old new is held =
    let steps = both_steps (add_line line (line_of text) old) (add_lines (next_line line) rest) new is in
    all_keep P keeps (next_line line) rest steps.middle new steps.goes_on (keeps line (line_of text) old steps.middle (line_lists_depth text) steps.taken held)

named_at_first : NamesDiffer []
named_at_first i j d above below = absurd (omega (arith, below))

-- ---- the capture of a text

-- a capture with an instrument
pub record HasSome (result : Result CaptureContent RefusedLine) (capture : CaptureContent) : Type 0 where
  pub same : result ≡ Ok capture
  pub some : 0 < length capture.instruments

pub some_instrument : (result : Result CaptureContent RefusedLine) (capture : CaptureContent) → needs_instrument result ≡ Ok capture → HasSome result capture
some_instrument (Err refused) capture is = absurd (cc)
some_instrument (Ok found) capture is =
    let refused : Result CaptureContent RefusedLine = Err (record { line = 0; refusal = NoInstrument }) in
    let P : Bool → Type 0 = λ none. cond none refused (Ok found) ≡ Ok capture in
    elim (cases_Bool (length found.instruments == 0)) [
      | inl none ↦ let bad = subst P none is in absurd (cc)
      | inr some ↦
          let same : (let x : Result CaptureContent RefusedLine = Ok found in x) ≡ Ok capture = subst P some is in
          let many : 0 < length found.instruments = grind (arith, nat_tests) in
          record { same = same; some = subst (λ (c : CaptureContent). 0 < length c.instruments) (same_capture found capture same) many }
    ]

pub holds_its_lines : (text : List ℕ) (capture : CaptureContent) → capture_of text ≡ Ok capture → IsCaptureOf text capture
holds_its_lines text capture is =
    let found = some_instrument (add_lines 1 (lines text) no_capture) capture is in
    let adds = all_lines 1 (lines text) no_capture capture found.same in
    record {
      brings = record { instruments = adds.instruments; a = adds.a; b = adds.b; s = adds.s; skipped = adds.skipped };
      first = instruments_first 1 (lines text) no_capture capture found.same;
      fit = whole_is_fit capture.instruments found.some (all_keep (λ (c : CaptureContent). AreFitSoFar c.instruments) line_keeps_fit 1 (lines text) no_capture capture found.same fit_at_first);
      names_differ = all_keep Named (λ n content old new depth. named_line n content old new) 1 (lines text) no_capture capture found.same named_at_first;
    }
