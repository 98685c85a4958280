-- The messages of a packet whose entries all lie in one list: what stays of them where it grows.
use Rattle.std.proofs.Common.{◌≡◌, ◌+◌, ◌≤◌, ◌<◌, ℕ, zero, suc, List, [], ◌∷◌, ◌++◌, length, take, drop, Some, Bool, get_or, refl, sym, ap, subst, ◌∙◌, arith, length-append, length-drop}
use Rattle.std.specs.Prelude.{slice_get}
use Rattle.std.specs.List.{AllZip}
use Rattle.std.proofs.lemmas.List.{drop-append-le, take-append-le}
use Rattle.std.proofs.Math.Seq.{drop-append_seam, take-length}
use Rattle.mdp_sbe.specs.Framing.{Parts, BeginsMessage, AreMessages}
use Rattle.mdp_sbe.proofs.Framings.{AreMessages-push}
use Rattle.mdp_templates.specs.declared.entry.Entry.{Entry}
use Rattle.mdp_templates.specs.declared.spans.Span.{Span}
use Rattle.mdp_templates.specs.Packet.{MessageContent}
use Rattle.mdp_templates.specs.Spans.{message_at, messages_at, AreWithin, entries_in, Adds, AddsMessage}

abbrev pub span_of : ℕ → ℕ → Bool → Span
span_of start count end = record { start = start; count = count; end = end }

-- a message whose entries lie in the list stays as it is where the list grows
pub entries-grown : (old more : List Entry) (start count : ℕ) → start + count ≤ length old → take count (drop start (old ++ more)) ≡ take count (drop start old)
entries-grown old more start count within =
    let begins : start ≤ length old = omega (arith, within) in
    let ends : count ≤ length (drop start old) = omega (arith, within, length-drop start old) in
    ap (take count) (drop-append-le start old more begins) ∙ take-append-le count (drop start old) more ends

pub message-grown : (old more : List Entry) (s : Span) → s.start + s.count ≤ length old → message_at (old ++ more) s ≡ message_at old s
message-grown old more s within = ap (λ (es : List Entry). record { entries = es; end = s.end }) (entries-grown old more s.start s.count within)

pub messages-grown : (old more : List Entry) (spans : List Span) → AreWithin (length old) spans → messages_at (old ++ more) spans ≡ messages_at old spans
messages-grown old more [] within = refl
messages-grown old more (s ∷ spans) within =
    ap (λ (m : MessageContent). m ∷ messages_at (old ++ more) spans) (message-grown old more s (within 0 s (omega arith)))
    ∙ ap (λ (ms : List MessageContent). message_at old s ∷ ms) (messages-grown old more spans (λ k d under. within (suc k) d (omega (arith, under))))

-- the entries that a list grew by lie behind the old ones
pub message-behind : (old more : List Entry) (end : Bool) → message_at (old ++ more) (span_of (length old) (length more) end) ≡ record { entries = more; end = end }
message-behind old more end =
    ap (λ (es : List Entry). record { entries = es; end = end }) (ap (take (length more)) (drop-append_seam old more) ∙ take-length more)

pub messages-push : (entries : List Entry) (spans : List Span) (s : Span) → messages_at entries (spans ++ s ∷ []) ≡ messages_at entries spans ++ message_at entries s ∷ []
messages-push entries [] s = refl
messages-push entries (t ∷ spans) s = ap (λ (ms : List MessageContent). message_at entries t ∷ ms) (messages-push entries spans s)

pub within-push : (old new : ℕ) (spans : List Span) (s : Span) → old ≤ new → AreWithin old spans → s.start + s.count ≤ new → AreWithin new (spans ++ s ∷ [])
within-push old new [] s grows within last zero d under = last
within-push old new [] s grows within last (suc k) d under = let no : ⊥ = omega (arith, under) in absurd no
within-push old new (t ∷ spans) s grows within last zero d under = let first = within 0 d (omega arith) in omega (arith, grows, first)
within-push old new (t ∷ spans) s grows within last (suc k) d under = within-push old new spans s grows (λ i e here. within (suc i) e (omega (arith, here))) last k d (omega (arith, under))

-- one message more of entries that the list grew by
pub messages-more : (old more : List Entry) (spans : List Span) (end : Bool) → AreWithin (length old) spans → messages_at (old ++ more) (spans ++ span_of (length old) (length more) end ∷ []) ≡ messages_at old spans ++ record { entries = more; end = end } ∷ []
messages-more old more spans end within =
    messages-push (old ++ more) spans (span_of (length old) (length more) end)
    ∙ ap (λ (ms : List MessageContent). ms ++ message_at (old ++ more) (span_of (length old) (length more) end) ∷ []) (messages-grown old more spans within)
    ∙ ap (λ (m : MessageContent). messages_at old spans ++ m ∷ []) (message-behind old more end)

-- the message at a place
pub message-there : (entries : List Entry) (spans : List Span) (n : ℕ) (d : Span) → n < length spans → slice_get (messages_at entries spans) n ≡ Some (message_at entries (get_or spans n d))
message-there entries [] n d under = let no : ⊥ = omega (arith, under) in absurd no
message-there entries (s ∷ spans) zero d under = refl
message-there entries (s ∷ spans) (suc n) d under = message-there entries spans n d (omega (arith, under))

pub as_many_spans : (entries : List Entry) (spans : List Span) → length (messages_at entries spans) ≡ length spans
as_many_spans entries [] = refl
as_many_spans entries (s ∷ spans) = ap suc (as_many_spans entries spans)

-- what stands at a place is the first from there on
from_there : {X : Type 0} (xs : List X) (n : ℕ) (x : X) → slice_get xs n ≡ Some x → drop n xs ≡ x ∷ drop (suc n) xs
from_there [] n x here = absurd cc
from_there (y ∷ xs) zero x here = let same : y ≡ x = cc in ap (λ z. z ∷ xs) same
from_there (y ∷ xs) (suc n) x here = from_there xs n x here

pub left_from : {X : Type 0} (xs : List X) (n : ℕ) (x : X) → slice_get xs n ≡ Some x → drop n xs ≡ x ∷ drop (n + 1) xs
left_from xs n x here = let next : suc n ≡ n + 1 = omega arith in subst (λ (k : ℕ). drop n xs ≡ x ∷ drop k xs) next (from_there xs n x here)

-- ---- reading

-- the messages read so far, and one more
pub messages-read : (IsValue : Parts → MessageContent → Type 0) (rest : List ℕ) (old new : List Entry) (spans : List Span) (s : Span) (here : List ℕ) (message : Parts) (after : List ℕ) → AreWithin (length old) spans → AreMessages IsValue rest (messages_at old spans) here → BeginsMessage here message after → AddsMessage (IsValue message) old new s → AreMessages IsValue rest (messages_at new (spans ++ s ∷ [])) after
messages-read IsValue rest old new spans s here message after within so_far begins adds =
    let same : messages_at new (spans ++ s ∷ []) ≡ messages_at old spans ++ message_at new s ∷ [] =
    messages-push new spans s
    ∙ ap (λ (ms : List MessageContent). ms ++ message_at new s ∷ []) (ap (λ (es : List Entry). messages_at es spans) adds.grown ∙ messages-grown old adds.more spans within) in
    subst (λ (ms : List MessageContent). AreMessages IsValue rest ms after) (sym same)
    (AreMessages-push IsValue rest (messages_at old spans) here message (message_at new s) after so_far begins adds.value)

pub within-read : (IsValue : MessageContent → Type 0) (old new : List Entry) (spans : List Span) (s : Span) → AreWithin (length old) spans → AddsMessage IsValue old new s → AreWithin (length new) (spans ++ s ∷ [])
within-read IsValue old new spans s within adds =
    within-push (length old) (length new) spans s (omega (arith, ap length adds.grown, length-append old adds.more)) within adds.within

entries_in-push : (spans : List Span) (s : Span) → entries_in (spans ++ s ∷ []) ≡ entries_in spans + s.count
entries_in-push [] s = omega arith
entries_in-push (t ∷ spans) s = omega (arith, entries_in-push spans s)

-- all entries are those of the messages so far, with one message more too
pub counted-read : (old new : ℕ) (spans : List Span) (s : Span) → old ≡ entries_in spans → new ≡ old + s.count → new ≡ entries_in (spans ++ s ∷ [])
counted-read old new spans s counted grown = omega (arith, counted, grown, entries_in-push spans s)

-- ---- entries

-- as many entries as texts
pub as_many : {A B : Type 0} (R : A → B → Type 0) (xs : List A) (ys : List B) → AllZip R xs ys → length ys ≡ length xs
as_many R [] [] zipped = refl
as_many R [] (y ∷ ys) zipped = absurd zipped
as_many R (x ∷ xs) [] zipped = absurd zipped
as_many R (x ∷ xs) (y ∷ ys) zipped = ap suc (as_many R xs ys zipped.1)

-- what an empty list grew by is all of it
pub adds_to_none : {E : Type 0} (IsMore : List E → Type 0) (old new : List E) → old ≡ [] → Adds IsMore old new → IsMore new
adds_to_none {E} IsMore old new none adds = subst IsMore (sym (adds.grown ∙ ap (λ (es : List E). es ++ adds.more) none)) adds.is
