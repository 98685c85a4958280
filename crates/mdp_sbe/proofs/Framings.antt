-- Messages at the front of a text, and the law that a framing has one answer.
use Rattle.std.proofs.Common.{◌≡◌, ◌≢◌, ◌⊎◌, ℕ, zero, suc, ◌+◌, ◌<◌, ◌≤◌, List, [], ◌∷◌, ◌++◌, take, drop, length, sym, ap, subst, ◌∙◌, arith, refl, inl, inr}
use Rattle.std.proofs.lemmas.Bool.{cases_lt}
use Rattle.std.proofs.lemmas.List.{length-take, length-drop, length-append, take-append-drop, take_at, drop_at}
use Rattle.mdp_sbe.specs.Number.{number_at}
use Rattle.mdp_sbe.specs.Answer.{HasOneAnswer}
use Rattle.mdp_sbe.specs.Answer.HasOneAnswer.{is_good, is_refused}
use Rattle.mdp_sbe.specs.Framing.{IsHeader, IsMessage, Parts, parts_of, BeginsMessage, IsUnframed, AreMessages, IsRefusedHere, AreRefused, IsFramed}
use Rattle.mdp_sbe.specs.Framing.IsRefusedHere.{unframed, in_message}
use Rattle.mdp_sbe.specs.declared.header.Header.{Header}
use Rattle.mdp_sbe.specs.declared.refusal.Refusal.{Refusal}
use Rattle.mdp_sbe.specs.declared.refusal.Refusal.TheVariants as refusals
use Rattle.mdp_sbe.proofs.Numbers.{number_at-append, number_at-take}

-- ---- a message cut off the front

-- the front of a text that its size states, and what follows it
pub record IsFront (rest front after : List ℕ) (size : ℕ) : Type 0 where
  pub stated : size ≡ number_at 0 2 rest
  pub long : 10 ≤ size
  pub inside : size ≤ length rest
  pub front_is : front ≡ take size rest
  pub after_is : after ≡ drop size rest

-- a number of the message's header may be read before or after the cut
pub number_at-front : (rest front after : List ℕ) (size offset bytes : ℕ) → IsFront rest front after size → offset + bytes ≤ 10 → number_at offset bytes front ≡ number_at offset bytes rest
number_at-front rest front after size offset bytes is below = ap (number_at offset bytes) is.front_is ∙ number_at-take offset bytes size rest (omega (arith, is.long)) is.inside

pub is_message : (rest front after : List ℕ) (size : ℕ) → IsFront rest front after size → number_at 6 2 front ≡ 1 → IsMessage front
is_message rest front after size is schema =
    let as_long : length front ≡ size = ap length is.front_is ∙ omega (arith, length-take size rest, is.inside) in
    record { long = omega (arith, is.long); size = number_at-front rest front after size 0 2 is (omega arith) ∙ sym is.stated ∙ sym as_long; schema = schema }

pub begins_message : (rest front after : List ℕ) (size : ℕ) (message : Parts) → IsFront rest front after size → IsMessage front → message ≡ parts_of front → BeginsMessage rest message after
begins_message rest front after size message is good lent =
    let cut : rest ≡ take size rest ++ drop size rest = sym (take-append-drop size rest) in
    record { text = front; whole = cut ∙ ap (λ (t : List ℕ). t ++ drop size rest) (sym is.front_is) ∙ ap (λ (t : List ℕ). front ++ t) (sym is.after_is); is = good; lent = lent }

-- ---- messages so far

pub AreMessages-push : {V : Type 0} (IsValue : Parts → V → Type 0) (rest : List ℕ) (vs : List V) (here : List ℕ) (message : Parts) (v : V) (after : List ℕ) → AreMessages IsValue rest vs here → BeginsMessage here message after → IsValue message v → AreMessages IsValue rest (vs ++ v ∷ []) after
AreMessages-push IsValue rest [] here message v after so_far begins value = (message, after, subst (λ (t : List ℕ). BeginsMessage t message after) (sym so_far) begins, value, refl)
AreMessages-push IsValue rest (w ∷ vs) here message v after so_far begins value =
    (so_far.0, so_far.1, so_far.2, so_far.3, AreMessages-push IsValue so_far.1 vs here message v after so_far.4 begins value)

-- ---- one framing

-- two lists of one length at the front of one list are one
pub same_front : (a b x y : List ℕ) → length a ≡ length b → a ++ x ≡ b ++ y → (a ≡ b) × (x ≡ y)
same_front a b x y as_long e = (
  sym (take_at a x (length a) refl) ∙ ap (take (length a)) e ∙ take_at b y (length a) (sym as_long),
  sym (drop_at a x (length a) refl) ∙ ap (drop (length a)) e ∙ drop_at b y (length a) (sym as_long),
)

-- the size leads
size_leads : (text after : List ℕ) → IsMessage text → number_at 0 2 (text ++ after) ≡ length text
size_leads text after is = number_at-append 0 2 text after (omega (arith, is.long)) ∙ is.size

same_message : (text other after next : List ℕ) → IsMessage text → IsMessage other → text ++ after ≡ other ++ next → (text ≡ other) × (after ≡ next)
same_message text other after next is is' e = same_front text other after next (sym (size_leads text after is) ∙ ap (number_at 0 2) e ∙ size_leads other next is') e

-- a text begins with one message at most
begins_one : (rest : List ℕ) (message other : Parts) (after next : List ℕ) → BeginsMessage rest message after → BeginsMessage rest other next → (message ≡ other) × (after ≡ next)
begins_one rest message other after next a b =
    let same = same_message a.text b.text after next a.is b.is (sym a.whole ∙ b.whole) in
    (a.lent ∙ ap parts_of same.0 ∙ sym b.lent, same.1)

framed_or_not : (text after : List ℕ) (r : Refusal) → IsMessage text → IsUnframed (text ++ after) r → ⊥
framed_or_not text after refusals.SizeCut is bad = omega (arith, bad, length-append text after, is.long)
framed_or_not text after refusals.SizeSmall is bad = omega (arith, bad.1, size_leads text after is, is.long)
framed_or_not text after refusals.SizePast is bad = omega (arith, bad.2, size_leads text after is, length-append text after)
framed_or_not text after refusals.Schema is bad = bad.2 (number_at-append 6 2 text after (omega (arith, is.long)) ∙ is.schema)
framed_or_not text after _ is bad = bad

begins_or_not : (rest : List ℕ) (message : Parts) (after : List ℕ) (r : Refusal) → BeginsMessage rest message after → IsUnframed rest r → ⊥
begins_or_not rest message after r begins bad = framed_or_not begins.text after r begins.is (subst (λ (t : List ℕ). IsUnframed t r) begins.whole bad)

begins_some : (message : Parts) (after : List ℕ) → BeginsMessage [] message after → ⊥
begins_some message after begins = omega (arith, begins.is.long, ap length begins.whole, length-append begins.text after)

unframed_some : (r : Refusal) → IsUnframed [] r → ⊥
unframed_some refusals.SizeCut bad = omega (arith, bad)
unframed_some refusals.SizeSmall bad = omega (arith, bad.0)
unframed_some refusals.SizePast bad = omega (arith, bad.0)
unframed_some refusals.Schema bad = omega (arith, bad.0, bad.1)
unframed_some _ bad = bad

-- the four conditions exclude each other
abbrev Excludes : List ℕ → Refusal → Type 0
Excludes rest r = (s : Refusal) → IsUnframed rest s → s ≡ r

only_cut : (rest : List ℕ) → IsUnframed rest refusals.SizeCut → Excludes rest refusals.SizeCut
only_cut rest is refusals.SizeCut bad = refl
only_cut rest is refusals.SizeSmall bad = absurd (omega (arith, is, bad.0))
only_cut rest is refusals.SizePast bad = absurd (omega (arith, is, bad.0))
only_cut rest is refusals.Schema bad = absurd (omega (arith, is, bad.0, bad.1))
only_cut rest is _ bad = absurd bad

only_small : (rest : List ℕ) → IsUnframed rest refusals.SizeSmall → Excludes rest refusals.SizeSmall
only_small rest is refusals.SizeCut bad = absurd (omega (arith, is.0, bad))
only_small rest is refusals.SizeSmall bad = refl
only_small rest is refusals.SizePast bad = absurd (omega (arith, is.1, bad.1))
only_small rest is refusals.Schema bad = absurd (omega (arith, is.1, bad.0))
only_small rest is _ bad = absurd bad

only_past : (rest : List ℕ) → IsUnframed rest refusals.SizePast → Excludes rest refusals.SizePast
only_past rest is refusals.SizeCut bad = absurd (omega (arith, is.0, bad))
only_past rest is refusals.SizeSmall bad = absurd (omega (arith, is.1, bad.1))
only_past rest is refusals.SizePast bad = refl
only_past rest is refusals.Schema bad = absurd (omega (arith, is.2, bad.1))
only_past rest is _ bad = absurd bad

only_schema : (rest : List ℕ) → IsUnframed rest refusals.Schema → Excludes rest refusals.Schema
only_schema rest is refusals.SizeCut bad = absurd (omega (arith, is.0, is.1, bad))
only_schema rest is refusals.SizeSmall bad = absurd (omega (arith, is.0, bad.1))
only_schema rest is refusals.SizePast bad = absurd (omega (arith, is.1, bad.2))
only_schema rest is refusals.Schema bad = refl
only_schema rest is _ bad = absurd bad

-- ---- each text that should be messages has one answer

pub same_or_not : (a b : ℕ) → (a ≡ b) ⊎ (a ≢ b)
same_or_not a b =
    elim (cases_lt a b) [
      | inl below ↦ inr (λ e. omega (arith, below, e))
      | inr above ↦ elim (cases_lt b a) [ inl less ↦ inr (λ e. omega (arith, less, e)) | inr most ↦ inl (omega (arith, above, most)) ]
    ]

-- where a text that isn't empty stands: it begins a message, or it is refused
pub data Front (rest : List ℕ) : Type 0 where
  begun : (message : Parts) (after : List ℕ) → BeginsMessage rest message after → length after < length rest → Front rest
  bad : (r : Refusal) → IsUnframed rest r → Excludes rest r → Front rest

front_with_size : (rest : List ℕ) → 10 ≤ number_at 0 2 rest → number_at 0 2 rest ≤ length rest → Front rest
front_with_size rest long inside =
    let size : ℕ = number_at 0 2 rest in
    let is : IsFront rest (take size rest) (drop size rest) size = record { stated = refl; long = long; inside = inside; front_is = refl; after_is = refl } in
    elim (same_or_not (number_at 6 2 rest) 1) [
      | inr other ↦ bad refusals.Schema (long, inside, other) (only_schema rest (long, inside, other))
      | inl schema ↦
          let good : IsMessage (take size rest) = is_message rest (take size rest) (drop size rest) size is (number_at-front rest (take size rest) (drop size rest) size 6 2 is (omega arith) ∙ schema) in
          begun (parts_of (take size rest)) (drop size rest) (begins_message rest (take size rest) (drop size rest) size (parts_of (take size rest)) is good refl) (omega (arith, length-drop size rest, long, inside))
    ]

front_of : (rest : List ℕ) → 0 < length rest → Front rest
front_of rest some =
    elim (cases_lt (length rest) 2) [
      | inl one ↦ let cut : length rest ≡ 1 = omega (arith, one, some) in bad refusals.SizeCut cut (only_cut rest cut)
      | inr two ↦ elim (cases_lt (number_at 0 2 rest) 10) [
        | inl small ↦ bad refusals.SizeSmall (two, small) (only_small rest (two, small))
        | inr long ↦ elim (cases_lt (length rest) (number_at 0 2 rest)) [
          | inl past ↦ bad refusals.SizePast (two, long, past) (only_past rest (two, long, past))
          | inr inside ↦ front_with_size rest long inside
        ]
      ]
    ]

-- what one message has: a value or a refusal
abbrev pub Decides : {V : Type 0} → (Parts → V → Type 0) → (Parts → Refusal → Type 0) → Type 0
Decides IsValue IsRefused = (message : Parts) → HasOneAnswer (IsValue message) (IsRefused message)

-- the messages up to the end have one answer
abbrev Messages : {V : Type 0} → (Parts → V → Type 0) → (Parts → Refusal → Type 0) → List ℕ → Type 0
Messages {V} IsValue IsRefused rest = HasOneAnswer (λ (vs : List V). AreMessages IsValue rest vs []) (AreRefused IsValue IsRefused rest)

no_message : {V : Type 0} (IsValue : Parts → V → Type 0) (vs : List V) → AreMessages IsValue [] vs [] → vs ≡ []
no_message IsValue [] good = refl
no_message IsValue (v ∷ vs) good = absurd (begins_some good.0 good.1 good.2)

no_fault : {V : Type 0} (IsValue : Parts → V → Type 0) (IsRefused : Parts → Refusal → Type 0) (vs : List V) (here : List ℕ) (r : Refusal) → AreMessages IsValue [] vs here → IsRefusedHere IsRefused here r → ⊥
no_fault IsValue IsRefused [] here r good (unframed fault) = unframed_some r (subst (λ (t : List ℕ). IsUnframed t r) (sym good) fault)
no_fault IsValue IsRefused [] here r good (in_message message after begins fault) = begins_some message after (subst (λ (t : List ℕ). BeginsMessage t message after) (sym good) begins)
no_fault IsValue IsRefused (v ∷ vs) here r good fault = begins_some good.0 good.1 good.2

empty_text : {V : Type 0} (IsValue : Parts → V → Type 0) (IsRefused : Parts → Refusal → Type 0) → Messages IsValue IsRefused []
empty_text IsValue IsRefused = is_good [] refl (no_message IsValue) (λ r refused. no_fault IsValue IsRefused refused.values refused.here r refused.good refused.fault)

-- where no message begins
bad_values : {V : Type 0} (IsValue : Parts → V → Type 0) (rest : List ℕ) (r : Refusal) (vs : List V) → IsUnframed rest r → AreMessages IsValue rest vs [] → ⊥
bad_values IsValue rest r [] faulty good = unframed_some r (subst (λ (t : List ℕ). IsUnframed t r) good faulty)
bad_values IsValue rest r (v ∷ vs) faulty good = begins_or_not rest good.0 good.1 r good.2 faulty

bad_faults : {V : Type 0} (IsValue : Parts → V → Type 0) (IsRefused : Parts → Refusal → Type 0) (rest : List ℕ) (r s : Refusal) (vs : List V) (here : List ℕ) → IsUnframed rest r → Excludes rest r → AreMessages IsValue rest vs here → IsRefusedHere IsRefused here s → s ≡ r
bad_faults IsValue IsRefused rest r s [] here faulty only good (unframed fault) = only s (subst (λ (t : List ℕ). IsUnframed t s) (sym good) fault)
bad_faults IsValue IsRefused rest r s [] here faulty only good (in_message message after begins fault) = absurd (begins_or_not here message after r begins (subst (λ (t : List ℕ). IsUnframed t r) good faulty))
bad_faults IsValue IsRefused rest r s (v ∷ vs) here faulty only good fault = absurd (begins_or_not rest good.0 good.1 r good.2 faulty)

-- where a message begins that is refused
fault_values : {V : Type 0} (IsValue : Parts → V → Type 0) (rest : List ℕ) (message : Parts) (after : List ℕ) (vs : List V) → BeginsMessage rest message after → ((v : V) → IsValue message v → ⊥) → AreMessages IsValue rest vs [] → ⊥
fault_values IsValue rest message after [] begins none good = begins_some message after (subst (λ (t : List ℕ). BeginsMessage t message after) good begins)
fault_values IsValue rest message after (v ∷ vs) begins none good =
    let same = begins_one rest good.0 message good.1 after good.2 begins in
    none v (subst (λ (m : Parts). IsValue m v) same.0 good.3)

fault_faults : {V : Type 0} (IsValue : Parts → V → Type 0) (IsRefused : Parts → Refusal → Type 0) (rest : List ℕ) (message : Parts) (after : List ℕ) (r s : Refusal) (vs : List V) (here : List ℕ) → BeginsMessage rest message after → ((v : V) → IsValue message v → ⊥) → ((t : Refusal) → IsRefused message t → t ≡ r) → AreMessages IsValue rest vs here → IsRefusedHere IsRefused here s → s ≡ r
fault_faults IsValue IsRefused rest message after r s [] here begins none only good (unframed fault) = absurd (begins_or_not here message after s (subst (λ (t : List ℕ). BeginsMessage t message after) good begins) fault)
fault_faults IsValue IsRefused rest message after r s [] here begins none only good (in_message other next starts fault) =
    let same = begins_one here other message next after starts (subst (λ (t : List ℕ). BeginsMessage t message after) good begins) in
    only s (subst (λ (m : Parts). IsRefused m s) same.0 fault)
fault_faults IsValue IsRefused rest message after r s (v ∷ vs) here begins none only good fault =
    let same = begins_one rest good.0 message good.1 after good.2 begins in
    absurd (none v (subst (λ (m : Parts). IsValue m v) same.0 good.3))

-- where a message of a value begins
more_values : {V : Type 0} (IsValue : Parts → V → Type 0) (rest : List ℕ) (message : Parts) (after : List ℕ) (v : V) (vs ws : List V) → BeginsMessage rest message after → ((w : V) → IsValue message w → w ≡ v) → ((us : List V) → AreMessages IsValue after us [] → us ≡ vs) → AreMessages IsValue rest ws [] → ws ≡ v ∷ vs
more_values IsValue rest message after v vs [] begins only others good = absurd (begins_some message after (subst (λ (t : List ℕ). BeginsMessage t message after) good begins))
more_values IsValue rest message after v vs (w ∷ ws) begins only others good =
    let same = begins_one rest good.0 message good.1 after good.2 begins in
    let first : w ≡ v = only w (subst (λ (m : Parts). IsValue m w) same.0 good.3) in
    let second : ws ≡ vs = others ws (subst (λ (t : List ℕ). AreMessages IsValue t ws []) same.1 good.4) in
    cc (first, second)

-- a fault of a text that begins with a good message is a fault of what follows
later_fault : {V : Type 0} (IsValue : Parts → V → Type 0) (IsRefused : Parts → Refusal → Type 0) (rest : List ℕ) (message : Parts) (after : List ℕ) (s : Refusal) (vs : List V) (here : List ℕ) → BeginsMessage rest message after → ((r : Refusal) → IsRefused message r → ⊥) → AreMessages IsValue rest vs here → IsRefusedHere IsRefused here s → AreRefused IsValue IsRefused after s
later_fault IsValue IsRefused rest message after s [] here begins sound good (unframed fault) = absurd (begins_or_not here message after s (subst (λ (t : List ℕ). BeginsMessage t message after) good begins) fault)
later_fault IsValue IsRefused rest message after s [] here begins sound good (in_message other next starts fault) =
    let same = begins_one here other message next after starts (subst (λ (t : List ℕ). BeginsMessage t message after) good begins) in
    absurd (sound s (subst (λ (m : Parts). IsRefused m s) same.0 fault))
later_fault IsValue IsRefused rest message after s (v ∷ vs) here begins sound good fault =
    let same = begins_one rest good.0 message good.1 after good.2 begins in
    record { values = vs; here = here; good = subst (λ (t : List ℕ). AreMessages IsValue t vs here) same.1 good.4; fault = fault }

with_others : {V : Type 0} (IsValue : Parts → V → Type 0) (IsRefused : Parts → Refusal → Type 0) (rest : List ℕ) (message : Parts) (after : List ℕ) (v : V) → BeginsMessage rest message after → IsValue message v → ((w : V) → IsValue message w → w ≡ v) → ((r : Refusal) → IsRefused message r → ⊥) → Messages IsValue IsRefused after → Messages IsValue IsRefused rest
with_others IsValue IsRefused rest message after v begins value only sound (is_good vs good one none) =
    is_good (v ∷ vs) (message, after, begins, value, good) (λ ws. more_values IsValue rest message after v vs ws begins only one) (λ s refused. none s (later_fault IsValue IsRefused rest message after s refused.values refused.here begins sound refused.good refused.fault))
with_others {V} IsValue IsRefused rest message after v begins value only sound (is_refused r refused one none) =
    is_refused r
    (record { values = v ∷ refused.values; here = refused.here; good = (message, after, begins, value, refused.good); fault = refused.fault })
    (λ s other. one s (later_fault IsValue IsRefused rest message after s other.values other.here begins sound other.good other.fault))
    (λ ws good. no_tail ws good)
  where
    no_tail : (ws : List V) → AreMessages IsValue rest ws [] → ⊥
    no_tail [] good = begins_some message after (subst (λ (t : List ℕ). BeginsMessage t message after) good begins)
    no_tail (w ∷ ws) good =
        let same = begins_one rest good.0 message good.1 after good.2 begins in
        none ws (subst (λ (t : List ℕ). AreMessages IsValue t ws []) same.1 good.4)

with_message : {V : Type 0} (IsValue : Parts → V → Type 0) (IsRefused : Parts → Refusal → Type 0) (rest : List ℕ) (message : Parts) (after : List ℕ) → BeginsMessage rest message after → HasOneAnswer (IsValue message) (IsRefused message) → Messages IsValue IsRefused after → Messages IsValue IsRefused rest
with_message IsValue IsRefused rest message after begins (is_good v value only sound) others = with_others IsValue IsRefused rest message after v begins value only sound others
with_message {V} IsValue IsRefused rest message after begins (is_refused r fault only none) others =
    is_refused r
    (record { values = []; here = rest; good = refl; fault = in_message message after begins fault })
    (λ s refused. fault_faults IsValue IsRefused rest message after r s refused.values refused.here begins none only refused.good refused.fault)
    (λ vs. fault_values IsValue rest message after vs begins none)

with_front : {V : Type 0} (IsValue : Parts → V → Type 0) (IsRefused : Parts → Refusal → Type 0) (rest : List ℕ) → Decides IsValue IsRefused → Front rest → ((after : List ℕ) → length after < length rest → Messages IsValue IsRefused after) → Messages IsValue IsRefused rest
with_front IsValue IsRefused rest decides (begun message after begins less) others = with_message IsValue IsRefused rest message after begins (decides message) (others after less)
with_front IsValue IsRefused rest decides (bad r fault only) others =
    is_refused r
    (record { values = []; here = rest; good = refl; fault = unframed fault })
    (λ s refused. bad_faults IsValue IsRefused rest r s refused.values refused.here fault only refused.good refused.fault)
    (λ vs. bad_values IsValue rest r vs fault)

-- `most` bounds the length of the text
messages_below : {V : Type 0} (IsValue : Parts → V → Type 0) (IsRefused : Parts → Refusal → Type 0) (most : ℕ) (rest : List ℕ) → Decides IsValue IsRefused → length rest < most → Messages IsValue IsRefused rest
messages_below IsValue IsRefused zero rest decides below = absurd (omega arith)
messages_below IsValue IsRefused (suc most) [] decides below = empty_text IsValue IsRefused
messages_below IsValue IsRefused (suc most) (b ∷ rest) decides below =
    with_front IsValue IsRefused (b ∷ rest) decides (front_of (b ∷ rest) (omega arith)) (λ after less. messages_below IsValue IsRefused most after decides (omega (arith, less, below)))

-- Where each message has one answer, so has each text that should be messages.
pub one_answer_of_messages : {V : Type 0} (IsValue : Parts → V → Type 0) (IsRefused : Parts → Refusal → Type 0) (rest : List ℕ) → Decides IsValue IsRefused → HasOneAnswer (λ (vs : List V). AreMessages IsValue rest vs []) (AreRefused IsValue IsRefused rest)
one_answer_of_messages IsValue IsRefused rest decides = messages_below IsValue IsRefused (suc (length rest)) rest decides (omega arith)

-- ---- the header, and a whole framing

pub one_header : (text : List ℕ) (header other : Header) → IsHeader text header → IsHeader text other → header ≡ other
one_header text header other a b =
    let number : header.number ≡ other.number = a.number ∙ sym b.number in
    let time : header.time ≡ other.time = a.time ∙ sym b.time in
    let make : ℕ → ℕ → Header = λ n t. record { number = n; time = t } in
    ap (λ (n : ℕ). make n header.time) number ∙ ap (λ (t : ℕ). make other.number t) time

one_list : (rest : List ℕ) (messages others : List Parts) → AreMessages (λ (m : Parts) (is : Parts). m ≡ is) rest messages [] → AreMessages (λ (m : Parts) (is : Parts). m ≡ is) rest others [] → messages ≡ others
one_list rest [] [] a b = refl
one_list rest [] (o ∷ others) a b = absurd (begins_some b.0 b.1 (subst (λ (t : List ℕ). BeginsMessage t b.0 b.1) a b.2))
one_list rest (m ∷ messages) [] a b = absurd (begins_some a.0 a.1 (subst (λ (t : List ℕ). BeginsMessage t a.0 a.1) b a.2))
one_list rest (m ∷ messages) (o ∷ others) a b =
    let same = begins_one rest a.0 b.0 a.1 b.1 a.2 b.2 in
    let first : m ≡ o = sym a.3 ∙ same.0 ∙ b.3 in
    let second : messages ≡ others = one_list b.1 messages others (subst (λ (t : List ℕ). AreMessages (λ (m : Parts) (is : Parts). m ≡ is) t messages []) same.1 a.4) b.4 in
    cc (first, second)

pub one_framing : (text : List ℕ) (header other : Header) (messages others : List Parts) → IsFramed text header messages → IsFramed text other others → (header ≡ other) × (messages ≡ others)
one_framing text header other messages others a b = (one_header text header other a.begins b.begins, one_list (drop 12 text) messages others a.follow b.follow)
