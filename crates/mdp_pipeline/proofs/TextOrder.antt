-- The order of the text: it keeps the records of each feed in theirs, and it is the order by line where no two lines
-- bear the same number.
use Rattle.std.proofs.Common.{◌≡◌, ℕ, ◌+◌, ◌<◌, ◌≤◌, Bool, true, false, cond, List, [], ◌∷◌, ◌++◌, length, map, Option, Some, None, Ok, refl, sym, ap, ◌∙◌, subst, arith}
use Rattle.std.specs.Prelude.{◌↔◌, IfSome, nat_le}
use Rattle.std.specs.List.{AllByRecursion, filter, flat_map}
use Rattle.std.specs.Str.Lines.{lines}
use Rattle.std.proofs.lemmas.Bool.Decides.{nat_tests}
use Rattle.std.proofs.lemmas.List.{map-append}
use Rattle.std.proofs.lemmas.List.Elements.{filter-append}
use Rattle.mdp_templates.specs.declared.feed.Feed.{Feed}
use Rattle.mdp_templates.specs.declared.feed.Feed.TheVariants as feeds
use Rattle.mdp_arbiter.specs.Channel.{ListedChannel}
use Rattle.mdp_arbiter.specs.declared.arbiter.Standing.{Standing}
use Rattle.mdp_capture.specs.Capture.{CaptureContent, capture_of}
use Rattle.mdp_capture.specs.Line.{LineContent, Blank, Listing, Packet, Closing, Skipped, line_of}
use Rattle.mdp_capture.specs.Lines.{Brings, NumberedLine, numbered_lines, received_in, records_on}
use Rattle.mdp_capture.specs.Record.{RecordContent, Received, Datagram, Close}
use Rattle.mdp_capture.proofs.Bringing.{holds_its_lines, line_at, lines_from, number_at}
use Rattle.mdp_pipeline.specs.Merge.{Arrival, FeedRecords, arrival_on, arrivals, first_of_lines, head_line, in_order, is_first, records_of}
use Rattle.mdp_pipeline.specs.TextOrder.{arrivals_in, arrivals_of_line, records_from}
use Rattle.mdp_pipeline.specs.Reading.{is_on}
use Rattle.mdp_pipeline.specs.Merging.{Tagged, IsByLine, IsInOrder, IsInTextOrder}
use Rattle.mdp_pipeline.specs.Output.{BeginsInTextOrder, PrintsInTextOrder}
use Rattle.mdp_pipeline.specs.Running.{BeginsAll, PrintsAll}
use Rattle.mdp_pipeline.proofs.Heads.{next_is_a, next_is_b, next_is_s}
use Rattle.mdp_pipeline.proofs.Merges.{KeepsFeeds, begins_in_order, prints_in_order}

-- ---- the records of one feed

of_line : (feed : Feed) (n : ℕ) (content : LineContent) → filter (is_on feed) (arrivals_of_line (line_at n content)) ≡ arrivals feed (records_on feed (line_at n content))
of_line feed n Blank = refl
of_line feed n (Listing instrument) = refl
of_line feed n (Skipped skip) = refl
of_line feeds.A n (Packet feeds.A bytes) = refl
of_line feeds.A n (Packet feeds.B bytes) = refl
of_line feeds.A n (Packet feeds.S bytes) = refl
of_line feeds.B n (Packet feeds.A bytes) = refl
of_line feeds.B n (Packet feeds.B bytes) = refl
of_line feeds.B n (Packet feeds.S bytes) = refl
of_line feeds.S n (Packet feeds.A bytes) = refl
of_line feeds.S n (Packet feeds.B bytes) = refl
of_line feeds.S n (Packet feeds.S bytes) = refl
of_line feeds.A n Closing = refl
of_line feeds.B n Closing = refl
of_line feeds.S n Closing = refl

of_feed : (feed : Feed) (numbered : List NumberedLine) → filter (is_on feed) (arrivals_in numbered) ≡ arrivals feed (flat_map (records_on feed) numbered)
of_feed feed [] = refl
of_feed feed (line ∷ rest) =
    let here = arrivals feed (records_on feed line) in
    filter-append (is_on feed) (arrivals_of_line line) (arrivals_in rest)
    ∙ ap (λ (t : List Arrival). t ++ filter (is_on feed) (arrivals_in rest)) (of_line feed line.number line.content)
    ∙ ap (λ (t : List Arrival). here ++ t) (of_feed feed rest)
    ∙ sym (map-append (arrival_on feed) (records_on feed line) (flat_map (records_on feed) rest))

pub text_keeps : (numbered : List NumberedLine) → KeepsFeeds (arrivals_in numbered) (records_from numbered)
text_keeps numbered = record { a = of_feed feeds.A numbered; b = of_feed feeds.B numbered; s = of_feed feeds.S numbered }

-- ---- a run in the order of the text

pub prints_in_text_order : (channel : ListedChannel) (numbered : List NumberedLine) (text : List ℕ) (standing : Standing)
    → PrintsAll channel (arrivals_in numbered) text standing → PrintsInTextOrder channel numbered text standing
prints_in_text_order channel numbered text standing all =
    prints_in_order channel (arrivals_in numbered) (records_from numbered) text standing (text_keeps numbered) all

pub begins_in_text_order : (channel : ListedChannel) (numbered : List NumberedLine) (start taken : List ℕ)
    → BeginsAll channel (arrivals_in numbered) start taken → BeginsInTextOrder channel numbered start taken
begins_in_text_order channel numbered start taken all =
    begins_in_order channel (arrivals_in numbered) (records_from numbered) start taken (text_keeps numbered) all

-- ---- a line in front of others

-- where there is such a line, it comes behind line n
abbrev ComesAfter : ℕ → Option ℕ → Type 0
ComesAfter n found = IfSome found (λ (m : ℕ). n < m)

goes_before : (n : ℕ) (found : Option ℕ) → ComesAfter n found → is_first (Some n) found ≡ true
goes_before n None after = refl
goes_before n (Some m) after =
    let below : n < m = after in
    let first : nat_le n m ≡ true = grind (arith, nat_tests, below) in
    first

waits_for : (n : ℕ) (found : Option ℕ) → ComesAfter n found → is_first found (Some n) ≡ false
waits_for n None after = refl
waits_for n (Some m) after =
    let below : n < m = after in
    let second : nat_le m n ≡ false = grind (arith, nat_tests, below) in
    second

a_leads : (n : ℕ) (b s : Option ℕ) → ComesAfter n b → ComesAfter n s → first_of_lines (Some n) b s ≡ feeds.A
a_leads n b s after_b after_s =
    ap (λ (t : Bool). cond t (cond (is_first (Some n) s) feeds.A feeds.S) (cond (is_first b s) feeds.B feeds.S)) (goes_before n b after_b)
    ∙ ap (λ (t : Bool). cond t feeds.A feeds.S) (goes_before n s after_s)

b_leads : (n : ℕ) (a s : Option ℕ) → ComesAfter n a → ComesAfter n s → first_of_lines a (Some n) s ≡ feeds.B
b_leads n a s after_a after_s =
    ap (λ (t : Bool). cond t (cond (is_first a s) feeds.A feeds.S) (cond (is_first (Some n) s) feeds.B feeds.S)) (waits_for n a after_a)
    ∙ ap (λ (t : Bool). cond t feeds.B feeds.S) (goes_before n s after_s)

abbrev AllAfter : ℕ → List NumberedLine → Type 0
AllAfter n numbered = AllByRecursion (λ (line : NumberedLine). n < line.number) numbered

-- the first record of each feed comes from one of the lines
head_after : (n : ℕ) (feed : Feed) (numbered : List NumberedLine) → AllAfter n numbered → ComesAfter n (head_line (flat_map (records_on feed) numbered))
head_after n feed [] after = tt
head_after n feed (line ∷ rest) after = of_received (received_in feed line.content) (head_after n feed rest after.1)
  where
    of_received : (all : List Received) → ComesAfter n (head_line (flat_map (records_on feed) rest))
        → ComesAfter n (head_line (map (λ (received : Received). record { line = line.number; received = received }) all ++ flat_map (records_on feed) rest))
    of_received [] later = later
    of_received (received ∷ more) later = after.0

line_first : (n : ℕ) (content : LineContent) (rest : List NumberedLine) → AllAfter n rest
    → in_order (records_from (line_at n content ∷ rest)) ≡ arrivals_of_line (line_at n content) ++ in_order (records_from rest)
line_first n Blank rest after = refl
line_first n (Listing instrument) rest after = refl
line_first n (Skipped skip) rest after = refl
line_first n (Packet feeds.A bytes) rest after =
    let others = records_from rest in
    next_is_a (record { line = n; received = Datagram bytes }) others.a others.b others.s
    (a_leads n (head_line others.b) (head_line others.s) (head_after n feeds.B rest after) (head_after n feeds.S rest after))
line_first n (Packet feeds.B bytes) rest after =
    let others = records_from rest in
    next_is_b others.a (record { line = n; received = Datagram bytes }) others.b others.s
    (b_leads n (head_line others.a) (head_line others.s) (head_after n feeds.A rest after) (head_after n feeds.S rest after))
line_first n (Packet feeds.S bytes) rest after =
    let others = records_from rest in
    next_is_s others.a others.b (record { line = n; received = Datagram bytes }) others.s
    (waits_for n (head_line others.a) (head_after n feeds.A rest after)) (waits_for n (head_line others.b) (head_after n feeds.B rest after))
line_first n Closing rest after =
    let others = records_from rest in
    next_is_s others.a others.b (record { line = n; received = Close }) others.s
    (waits_for n (head_line others.a) (head_after n feeds.A rest after)) (waits_for n (head_line others.b) (head_after n feeds.B rest after))

-- ---- all lines of a text

numbers_rise : (n place : ℕ) (texts : List (List ℕ)) → n < place → place + length texts ≤ 4294967296 → AllAfter n (lines_from place texts)
numbers_rise n place [] below few = tt
numbers_rise n place (text ∷ rest) below few =
    (omega (arith, below, few), numbers_rise n (place + 1) rest (omega (arith, below)) (omega (arith, few)))

by_line_from : (place : ℕ) (texts : List (List ℕ)) → place + length texts ≤ 4294967296 → in_order (records_from (lines_from place texts)) ≡ arrivals_in (lines_from place texts)
by_line_from place [] few = refl
by_line_from place (text ∷ rest) few =
    let n = number_at place in
    let here : n < place + 1 = omega arith in
    line_first n (line_of text) (lines_from (place + 1) rest) (numbers_rise n (place + 1) rest here (omega (arith, few)))
    ∙ ap (λ (t : List Arrival). arrivals_of_line (line_at n (line_of text)) ++ t) (by_line_from (place + 1) rest (omega (arith, few)))

pub by_line_is_text_order : (text : List ℕ) → length (lines text) ≤ 4294967295 → in_order (records_from (numbered_lines text)) ≡ arrivals_in (numbered_lines text)
by_line_is_text_order text few = by_line_from 1 (lines text) (omega (arith, few))

-- ---- a capture

records_brought : (numbered : List NumberedLine) (capture : CaptureContent) → Brings numbered capture → records_of capture ≡ records_from numbered
records_brought numbered capture brings =
    let there = records_from numbered in
    let make : List RecordContent → List RecordContent → List RecordContent → FeedRecords = λ a b s. record { a = a; b = b; s = s } in
    ap (λ (v : List RecordContent). make v capture.b capture.s) brings.a
    ∙ (ap (λ (v : List RecordContent). make there.a v capture.s) brings.b
    ∙ ap (λ (v : List RecordContent). make there.a there.b v) brings.s)

pub captured : (text : List ℕ) (capture : CaptureContent) → capture_of text ≡ Ok capture → records_of capture ≡ records_from (numbered_lines text)
captured text capture is = records_brought (numbered_lines text) capture (holds_its_lines text capture is).brings

pub merges_alike : (text : List ℕ) (capture : CaptureContent) (merge : List Tagged) → capture_of text ≡ Ok capture → length (lines text) ≤ 4294967295
    → IsByLine (records_of capture) merge ↔ IsInTextOrder (numbered_lines text) merge
merges_alike text capture merge is few =
    let same : in_order (records_of capture) ≡ arrivals_in (numbered_lines text) = ap in_order (captured text capture is) ∙ by_line_is_text_order text few in
    (subst (λ (order : List Arrival). IsInOrder order merge) same, subst (λ (order : List Arrival). IsInOrder order merge) (sym same))
