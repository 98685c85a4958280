-- Snapshots' sides: what is found at a position, what is gathered, and that a side is one or none.
use Rattle.std.proofs.Common.{◌≡◌, ◌≢◌, ◌⊎◌, ℕ, zero, suc, ◌+◌, ◌<◌, ◌≤◌, List, [], ◌∷◌, ◌++◌, take, length, get_or, Option, Some, None, Result, Ok, Err, true, false, refl, sym, ap, subst, ◌∙◌, arith, inl, inr}
use Rattle.std.specs.Prelude.{slice_get, slice_set, slice_index, ◌==◌, nat_lt, ⊤}
use Rattle.std.specs.Option.{option_map, option_to_list}
use Rattle.std.proofs.Math.Seq.{take-suc}
use Rattle.std.proofs.lemmas.Bool.{cases_lt, cases_eq, cases_Bool}
use Rattle.std.proofs.lemmas.Bool.Decides.{nat_tests}
use Rattle.mdp_sbe.specs.declared.refusal.Refusal.{Refusal}
use Rattle.mdp_sbe.specs.declared.refusal.Refusal.TheVariants as refusals
use Rattle.mdp_templates.specs.Entry.{kind_of, level_of, depth_of, quote_of}
use Rattle.std.proofs.lemmas.Option.{slice_get_past, slice_get_within, slice_get-get_or}
use Rattle.std.proofs.lemmas.List.{length-append}
use Rattle.std.proofs.lemmas.List.Elements.{filter_map-append}
use Rattle.mdp_templates.specs.declared.entry.Level.{Level}
use Rattle.mdp_templates.specs.declared.entry.Kind.{Kind}
use Rattle.mdp_templates.specs.declared.entry.Kind.TheVariants as kinds
use Rattle.mdp_templates.specs.declared.quote.Quote.{Quote}
use Rattle.mdp_templates.specs.declared.side.Found.{Found}
use Rattle.mdp_templates.specs.declared.side.Found.TheVariants.{Nothing, One, Many}
use Rattle.mdp_sbe.specs.Number.{int32_at, int64_at}
use Rattle.mdp_templates.specs.Answer.{◌>>=◌}
use Rattle.mdp_templates.specs.Layout.{AreEntries}
use Rattle.mdp_templates.specs.Recovery.{IsSide, level_at, levels_at, same_kind, quote_in, quote_by}
use Rattle.mdp_templates.specs.Side.{found_of, found_and, Notes, AreFound, AreAllShallow, AreShallow, IsGathered}

-- ---- what is found

found_of-push : (levels : List Level) (level : Option Level) → found_of (levels ++ option_to_list level) ≡ found_and (found_of levels) level
found_of-push [] None = refl
found_of-push [] (Some x) = refl
found_of-push (a ∷ []) None = refl
found_of-push (a ∷ []) (Some x) = refl
found_of-push (a ∷ b ∷ levels) None = refl
found_of-push (a ∷ b ∷ levels) (Some x) = refl

levels_at-one : (kind : Kind) (position : ℕ) (quote : Option Quote) (level : Option Level) → level_at kind position quote ≡ level → levels_at kind position (quote ∷ []) ≡ option_to_list level
levels_at-one kind position quote None e = rw e refl
levels_at-one kind position quote (Some x) e = rw e refl

-- one entry more
found_more : (kind : Kind) (position n : ℕ) (quotes : List (Option Quote)) (d : Option Quote) (found : Found) → n < length quotes → found ≡ found_of (levels_at kind position (take n quotes)) → found_and found (level_at kind position (get_or quotes n d)) ≡ found_of (levels_at kind position (take (n + 1) quotes))
found_more kind position n quotes d found below so_far =
    let here : Option Level = level_at kind position (get_or quotes n d) in
    let front : List Level = levels_at kind position (take n quotes) in
    let next : n + 1 ≡ suc n = omega arith in
    let more : levels_at kind position (take (n + 1) quotes) ≡ front ++ option_to_list here =
    ap (λ (k : ℕ). levels_at kind position (take k quotes)) next
    ∙ ap (levels_at kind position) (take-suc quotes n d below)
    ∙ filter_map-append (level_at kind position) (take n quotes) (get_or quotes n d ∷ [])
    ∙ ap (λ (xs : List Level). front ++ xs) (levels_at-one kind position (get_or quotes n d) here refl) in
    ap (λ (f : Found). found_and f here) so_far ∙ sym (found_of-push front here) ∙ ap found_of (sym more)

-- ---- what is noted

set_here : (xs : List Found) (n : ℕ) (x : Found) → n < length xs → slice_get (slice_set xs n x) n ≡ Some x
set_here [] n x inside = absurd (omega arith)
set_here (a ∷ xs) zero x inside = refl
set_here (a ∷ xs) (suc n) x inside = set_here xs n x (omega (arith, inside))

set_apart : (xs : List Found) (n k : ℕ) (x : Found) → k ≢ n → slice_get (slice_set xs n x) k ≡ slice_get xs k
set_apart [] n k x apart = refl
set_apart (a ∷ xs) zero zero x apart = absurd (apart refl)
set_apart (a ∷ xs) zero (suc k) x apart = refl
set_apart (a ∷ xs) (suc n) zero x apart = refl
set_apart (a ∷ xs) (suc n) (suc k) x apart = set_apart xs n k x (λ same. apart (ap suc same))

-- a place to which no level comes
not_added : (o : Option Found) (level : Option Level) → level ≡ None → o ≡ option_map (λ found. found_and found level) o
not_added None level none = refl
not_added (Some found) level none = rw none refl

pub other_side : (kind : Kind) (quote : Quote) (k : ℕ) → same_kind quote.kind kind ≡ false → level_at kind (k + 1) (Some quote) ≡ None
other_side kind quote k other = rw other refl

pub nowhere : (kind : Kind) (quote : Quote) (k : ℕ) → (quote.position ≡ k + 1 → ⊥) → level_at kind (k + 1) (Some quote) ≡ None
nowhere kind quote k apart = elim (cases_Bool (same_kind quote.kind kind)) [
  | inl same ↦ let away : (quote.position == k + 1) ≡ false = grind (arith, nat_tests, apart) in rw (same, away) refl
  | inr other ↦ other_side kind quote k other
]

-- an entry of this side
pub notes_here : (kind : Kind) (quote : Quote) (found : List Found) (place : ℕ) (before : Found) → same_kind quote.kind kind ≡ true → quote.position ≡ place + 1
    → slice_get found place ≡ Some before → Notes kind (Some quote) found (slice_set found place (found_and before (Some quote.level)))
notes_here kind quote found place before same here was = λ k. elim (cases_eq k place) [
  | inl at ↦
      let there : (quote.position == place + 1) ≡ true = grind (arith, nat_tests, here) in
      rw (at, was, same, there) (set_here found place (found_and before (Some quote.level)) (slice_get_within found place before was))
  | inr apart ↦
      set_apart found place k (found_and before (Some quote.level)) apart
      ∙ not_added (slice_get found k) (level_at kind (k + 1) (Some quote)) (nowhere kind quote k (λ e. apart (omega (arith, e, here))))
]

-- an entry of another side, or at no position of this list
pub notes_nothing : (kind : Kind) (quote : Option Quote) (found : List Found) → ((k : ℕ) → k < length found → level_at kind (k + 1) quote ≡ None) → Notes kind quote found found
notes_nothing kind quote found none = λ k. elim (cases_lt k (length found)) [
  | inl inside ↦ not_added (slice_get found k) (level_at kind (k + 1) quote) (none k inside)
  | inr past ↦ rw (slice_get_past found k past) refl
]

-- one entry more is noted
pub notes_more : (kind : Kind) (n : ℕ) (quotes : List (Option Quote)) (d : Option Quote) (old new : List Found) → n < length quotes → length new ≡ length old
    → Notes kind (get_or quotes n d) old new → AreFound kind (take n quotes) old → AreFound kind (take (n + 1) quotes) new
notes_more kind n quotes d old new below same notes so_far = λ k inside.
    let level : Option Level = level_at kind (k + 1) (get_or quotes n d) in
    notes k ∙ ap (option_map (λ found. found_and found level)) (so_far k (omega (arith, inside, same)))
    ∙ ap (λ (found : Found). Some found) (found_more kind (k + 1) n quotes d (found_of (levels_at kind (k + 1) (take n quotes))) below refl)

pub found_at : (kind : Kind) (quotes : List (Option Quote)) (found : List Found) (k : ℕ) (one : Found) → AreFound kind quotes found → k < length found
    → get_or found k Nothing ≡ one → found_of (levels_at kind (k + 1) quotes) ≡ one
found_at kind quotes found k one are below is =
    let some : Some (get_or found k Nothing) ≡ Some (found_of (levels_at kind (k + 1) quotes)) = sym (slice_get-get_or found k Nothing below) ∙ are k below in
    let same : get_or found k Nothing ≡ found_of (levels_at kind (k + 1) quotes) = cc in
    sym same ∙ is

-- ---- what is gathered

found_nothing : (levels : List Level) → found_of levels ≡ Nothing → levels ≡ []
found_nothing [] e = refl
found_nothing (a ∷ []) e = absurd cc
found_nothing (a ∷ b ∷ levels) e = absurd cc

found_one : (levels : List Level) (level : Level) → found_of levels ≡ One level → levels ≡ level ∷ []
found_one [] level e = absurd cc
found_one (a ∷ []) level e = let same : a ≡ level = cc in ap (λ (x : Level). x ∷ []) same
found_one (a ∷ b ∷ levels) level e = absurd cc

found_many : (levels : List Level) (o : Option Level) → found_of levels ≡ Many → levels ≡ option_to_list o → ⊥
found_many levels None e is = let same : found_of levels ≡ Nothing = ap found_of is in cc
found_many levels (Some x) e is = let same : found_of levels ≡ One x = ap found_of is in cc

nothing_there : (o : Option Level) → [] ≡ option_to_list o → o ≡ None
nothing_there None e = refl
nothing_there (Some x) e = absurd cc

one_there : (o : Option Level) (level : Level) → level ∷ [] ≡ option_to_list o → o ≡ Some level
one_there None level e = absurd cc
one_there (Some x) level e = let same : level ≡ x = cc in ap (λ (y : Level). Some y) (sym same)

pub gathered_none : (kind : Kind) (quotes : List (Option Quote)) → IsGathered kind quotes 0 []
gathered_none kind quotes = record { within = omega arith; so_far = λ k below. absurd (omega arith) }

pub gathered_nothing : (kind : Kind) (quotes : List (Option Quote)) (n : ℕ) (side : List Level) → IsGathered kind quotes n side → found_of (levels_at kind (n + 1) quotes) ≡ Nothing → IsGathered kind quotes (n + 1) side
gathered_nothing kind quotes n side is found =
    record {
      within = omega (arith, is.within);
      so_far = λ k below. elim (cases_lt k n) [
        | inl less ↦ is.so_far k less
        | inr most ↦
            let same : k ≡ n = omega (arith, below, most) in
            rw same (found_nothing (levels_at kind (n + 1) quotes) found ∙ ap option_to_list (sym (slice_get_past side n is.within)))
      ];
    }

slice_get-push : (side : List Level) (level : Level) → slice_get (side ++ level ∷ []) (length side) ≡ Some level
slice_get-push [] level = refl
slice_get-push (a ∷ side) level = slice_get-push side level

slice_get-front : (side : List Level) (level : Level) (k : ℕ) → k < length side → slice_get (side ++ level ∷ []) k ≡ slice_get side k
slice_get-front [] level k below = absurd (omega arith)
slice_get-front (a ∷ side) level zero below = refl
slice_get-front (a ∷ side) level (suc k) below = slice_get-front side level k (omega arith)

pub gathered_one : (kind : Kind) (quotes : List (Option Quote)) (n : ℕ) (side : List Level) (level : Level) → IsGathered kind quotes n side → length side ≡ n → found_of (levels_at kind (n + 1) quotes) ≡ One level → IsGathered kind quotes (n + 1) (side ++ level ∷ [])
gathered_one kind quotes n side level is full found =
    record {
      within = omega (arith, length-append side (level ∷ []), full);
      so_far = λ k below. elim (cases_lt k n) [
        | inl less ↦ is.so_far k less ∙ ap option_to_list (sym (slice_get-front side level k (omega (arith, less, full))))
        | inr most ↦
            let same : k ≡ length side = omega (arith, below, most, full) in
            let here : levels_at kind (length side + 1) quotes ≡ level ∷ [] = rw full (found_one (levels_at kind (n + 1) quotes) level found) in
            rw same (here ∙ ap option_to_list (sym (slice_get-push side level)))
      ];
    }

-- a level behind a position where there is none
pub gapped : (kind : Kind) (quotes : List (Option Quote)) (n : ℕ) (side : List Level) (level : Level) → IsGathered kind quotes n side → length side ≢ n → found_of (levels_at kind (n + 1) quotes) ≡ One level → (other : List Level) → IsSide kind quotes other → ⊥
gapped kind quotes n side level is short found other whole =
    let less : length side < n = omega (arith, is.within, short) in
    let none : slice_get other (length side) ≡ None = nothing_there (slice_get other (length side)) (ap option_to_list (sym (slice_get_past side (length side) (omega arith))) ∙ sym (is.so_far (length side) less) ∙ whole (length side)) in
    let some : slice_get other n ≡ Some level = one_there (slice_get other n) level (sym (found_one (levels_at kind (n + 1) quotes) level found) ∙ whole n) in
    past other (length side) none (omega (arith, slice_get_within other n level some, less))
  where
    past : (xs : List Level) (k : ℕ) → slice_get xs k ≡ None → k < length xs → ⊥
    past [] k none below = omega arith
    past (x ∷ xs) zero none below = cc
    past (x ∷ xs) (suc k) none below = past xs k none (omega arith)

pub crowded : (kind : Kind) (quotes : List (Option Quote)) (n : ℕ) → found_of (levels_at kind (n + 1) quotes) ≡ Many → (other : List Level) → IsSide kind quotes other → ⊥
crowded kind quotes n found other whole = found_many (levels_at kind (n + 1) quotes) (slice_get other n) found (whole n)

pub gathered_all : (kind : Kind) (quotes : List (Option Quote)) (depth : ℕ) (side : List Level) → AreShallow kind depth quotes → IsGathered kind quotes depth side → IsSide kind quotes side
gathered_all kind quotes depth side shallow is =
    λ k. elim (cases_lt k depth) [
      | inl less ↦ is.so_far k less
      | inr most ↦ shallow k most ∙ ap option_to_list (sym (slice_get_past side k (omega (arith, is.within, most))))
    ]

-- ---- a side is one or none

one_side_from : (side other : List Level) → ((k : ℕ) → option_to_list (slice_get side k) ≡ option_to_list (slice_get other k)) → side ≡ other
one_side_from [] [] same = refl
one_side_from [] (b ∷ other) same = absurd (let e : [] ≡ b ∷ [] = same 0 in cc)
one_side_from (a ∷ side) [] same = absurd (let e : a ∷ [] ≡ [] = same 0 in cc)
one_side_from (a ∷ side) (b ∷ other) same =
    let first : a ∷ [] ≡ b ∷ [] = same 0 in
    let others = one_side_from side other (λ k. same (suc k)) in
    cc (first, others)

pub one_side : (kind : Kind) (quotes : List (Option Quote)) (side other : List Level) → IsSide kind quotes side → IsSide kind quotes other → side ≡ other
one_side kind quotes side other a b = one_side_from side other (λ k. sym (a k) ∙ b k)

abbrev pub SideOrNone : Kind → List (Option Quote) → Type 0
SideOrNone kind quotes = ((side : List Level) × IsSide kind quotes side) ⊎ ((side : List Level) → IsSide kind quotes side → ⊥)

-- one position more, with what is gathered behind it
with_found : (kind : Kind) (quotes : List (Option Quote)) (n : ℕ) (side : List Level) (found : Found) → IsGathered kind quotes n side → found_of (levels_at kind (n + 1) quotes) ≡ found → ((more : List Level) → IsGathered kind quotes (n + 1) more → SideOrNone kind quotes) → SideOrNone kind quotes
with_found kind quotes n side Nothing is e go_on = go_on side (gathered_nothing kind quotes n side is e)
with_found kind quotes n side (One level) is e go_on =
    elim (cases_lt (length side) n) [
      | inl less ↦ inr (gapped kind quotes n side level is (λ full. omega (arith, less, full)) e)
      | inr most ↦ go_on (side ++ level ∷ []) (gathered_one kind quotes n side level is (omega (arith, is.within, most)) e)
    ]
with_found kind quotes n side Many is e go_on = inr (crowded kind quotes n e)

side_from : (kind : Kind) (quotes : List (Option Quote)) (left n : ℕ) (side : List Level) → AreShallow kind (n + left) quotes → IsGathered kind quotes n side → SideOrNone kind quotes
side_from kind quotes zero n side shallow is =
    let same : n + 0 ≡ n = omega arith in
    inl (side, gathered_all kind quotes n side (subst (λ (d : ℕ). AreShallow kind d quotes) same shallow) is)
side_from kind quotes (suc left) n side shallow is =
    let same : n + suc left ≡ n + 1 + left = omega arith in
    let deeper : AreShallow kind (n + 1 + left) quotes = subst (λ (d : ℕ). AreShallow kind d quotes) same shallow in
    with_found kind quotes n side (found_of (levels_at kind (n + 1) quotes)) is refl (λ more. side_from kind quotes left (n + 1) more deeper)

pub side_or_none : (kind : Kind) (quotes : List (Option Quote)) (depth : ℕ) → AreShallow kind depth quotes → SideOrNone kind quotes
side_or_none kind quotes depth shallow =
    let whole : depth ≡ 0 + depth = omega arith in
    side_from kind quotes depth 0 [] (subst (λ (d : ℕ). AreShallow kind d quotes) whole shallow) (gathered_none kind quotes)

-- ---- good entries stand inside the depth of their side

bound_of : (kind : Kind) (n position : ℕ) → level_of kind n ≡ Ok position → (position ≡ n) × (position ≤ depth_of kind)
bound_of kind n position e =
    let bad : Result ℕ Refusal = Err refusals.Level in
    let good : Result ℕ Refusal = Ok n in
    elim (cases_Bool (n == 0)) [
      | inl is_zero ↦ absurd (let same : bad ≡ Ok position = rw is_zero at e in cc)
      | inr some ↦ elim (cases_Bool (nat_lt (depth_of kind) n)) [
        | inl past ↦ absurd (let same : bad ≡ Ok position = rw (some, past) at e in cc)
        | inr inside ↦
            let same : good ≡ Ok position = rw (some, inside) at e in
            let number : position ≡ n = cc in
            (number, grind (arith, nat_tests, number, inside))
      ]
    ]

same_kind_is : (kind other : Kind) → same_kind kind other ≡ true → kind ≡ other
same_kind_is kinds.Bid kinds.Bid e = refl
same_kind_is kinds.Bid kinds.Offer e = absurd cc
same_kind_is kinds.Bid kinds.ImpliedBid e = absurd cc
same_kind_is kinds.Bid kinds.ImpliedOffer e = absurd cc
same_kind_is kinds.Offer kinds.Bid e = absurd cc
same_kind_is kinds.Offer kinds.Offer e = refl
same_kind_is kinds.Offer kinds.ImpliedBid e = absurd cc
same_kind_is kinds.Offer kinds.ImpliedOffer e = absurd cc
same_kind_is kinds.ImpliedBid kinds.Bid e = absurd cc
same_kind_is kinds.ImpliedBid kinds.Offer e = absurd cc
same_kind_is kinds.ImpliedBid kinds.ImpliedBid e = refl
same_kind_is kinds.ImpliedBid kinds.ImpliedOffer e = absurd cc
same_kind_is kinds.ImpliedOffer kinds.Bid e = absurd cc
same_kind_is kinds.ImpliedOffer kinds.Offer e = absurd cc
same_kind_is kinds.ImpliedOffer kinds.ImpliedBid e = absurd cc
same_kind_is kinds.ImpliedOffer kinds.ImpliedOffer e = refl

-- a quote that stands inside its side
abbrev StandsInside : Option Quote → Type 0
StandsInside None = ⊤
StandsInside (Some quote) = quote.position ≤ depth_of quote.kind

not_past : (kind : Kind) (k : ℕ) (quote : Option Quote) → depth_of kind ≤ k → StandsInside quote → level_at kind (k + 1) quote ≡ None
not_past kind k None past inside = refl
not_past kind k (Some quote) past inside =
    elim (cases_Bool (same_kind quote.kind kind)) [
      | inr other ↦ rw other refl
      | inl same ↦
          let kind_is : quote.kind ≡ kind = same_kind_is quote.kind kind same in
          let deep : depth_of quote.kind ≤ k = rw kind_is past in
          let away : (quote.position == k + 1) ≡ false = grind (arith, nat_tests, inside, deep) in
          rw (same, away) refl
    ]

inside_of : (quote : Option Quote) (text : List ℕ) → quote_in text ≡ Ok quote → StandsInside quote
unfolding quote_in
inside_of None text e = tt
inside_of (Some quote) text e = of_kind (kind_of (slice_index text 21)) quote text e
  where
    of_level : (kind : Kind) (quote : Quote) (position : ℕ) (level : Result Level Refusal) → position ≤ depth_of kind → (level >>= (λ l. Ok (Some (record { kind = kind; position = position; level = l })))) ≡ Ok (Some quote) → quote.position ≤ depth_of quote.kind
    of_level kind quote position (Ok l) fits e =
        let same : quote ≡ record { kind = kind; position = position; level = l } = cc in
        rw same fits
    of_level kind quote position (Err r) fits e = absurd cc

    of_position : (kind : Kind) (quote : Quote) (n : ℕ) (position : Result ℕ Refusal) (level : Result Level Refusal) → level_of kind n ≡ position → (position >>= (λ p. level >>= (λ l. Ok (Some (record { kind = kind; position = p; level = l }))))) ≡ Ok (Some quote) → quote.position ≤ depth_of quote.kind
    of_position kind quote n (Ok p) level is e = of_level kind quote p level (bound_of kind n p is).1 e
    of_position kind quote n (Err r) level is e = absurd cc

    of_kind : (kind : Result Kind Refusal) (quote : Quote) (text : List ℕ) → quote_by kind text ≡ Ok (Some quote) → quote.position ≤ depth_of quote.kind
    of_kind (Ok kind) quote text e = of_position kind quote (slice_index text 16) (level_of kind (slice_index text 16)) (quote_of (int64_at 0 text) (int32_at 8 text)) refl e
    of_kind (Err r) quote text e = absurd cc

-- the quotes of good entries stand inside the depth of each side
pub are_shallow : (kind : Kind) (texts : List (List ℕ)) (quotes : List (Option Quote)) → AreEntries quote_in texts quotes → AreShallow kind (depth_of kind) quotes
are_shallow kind [] [] good = λ k past. refl
are_shallow kind [] (q ∷ quotes) good = absurd good
are_shallow kind (t ∷ texts) [] good = λ k past. refl
are_shallow kind (t ∷ texts) (q ∷ quotes) good = λ k past.
    let here : level_at kind (k + 1) q ≡ None = not_past kind k q past (inside_of q t good.0) in
    rw here (are_shallow kind texts quotes good.1 k past)

pub are_all_shallow : (texts : List (List ℕ)) (quotes : List (Option Quote)) → AreEntries quote_in texts quotes → AreAllShallow quotes
are_all_shallow texts quotes good = record {
  bids = are_shallow kinds.Bid texts quotes good;
  offers = are_shallow kinds.Offer texts quotes good;
  implied_bids = are_shallow kinds.ImpliedBid texts quotes good;
  implied_offers = are_shallow kinds.ImpliedOffer texts quotes good;
}
