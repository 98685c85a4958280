-- Sides in order, merged, are what entering their levels makes.
use Rattle.std.proofs.Common.{◌≡◌, ◌<◌, ◌≤◌, ◌+◌, ◌++◌, ℕ, zero, suc, ℤ, pos, List, [], ◌∷◌, Bool, true, false, map, take, drop, length, refl, sym, ap, ◌∙◌, inl, inr, subst, arith}
use Rattle.std.specs.Prelude.{slice_get, slice_index_or, ◌&&◌, if◌then◌else◌}
use Rattle.std.specs.Ordering.{int_eq}
use Rattle.std.proofs.lemmas.List.Sums.{prefix_len_is}
use Rattle.mdp_templates.specs.declared.entry.Level.{Level}
use Rattle.mdp_books.specs.declared.book.Sides.{Sides}
use Rattle.mdp_quotes.specs.declared.total.Total.{Total}
use Rattle.mdp_quotes.specs.declared.total.Way.{Way}
use Rattle.mdp_quotes.specs.declared.total.Way.TheVariants.{Falling, Rising}
use Rattle.mdp_quotes.specs.Order.{is_ahead}
use Rattle.mdp_quotes.specs.Entering.{total_of, with, with_level, with_levels}
use Rattle.mdp_quotes.specs.Computed.{consolidated_side}
use Rattle.mdp_quotes.specs.Consolidation.{quotes_of}
use Rattle.mdp_quotes.specs.Quotes.{Quotes}
use Rattle.mdp_quotes.specs.Merged.{ahead_of, are_ordered, is_at_price, merged, merged_quotes, total_with}
use Rattle.mdp_quotes.proofs.Prices.{true_or_false, same_or_not, ahead_trans}
use Rattle.mdp_quotes.proofs.Computing.{entered_is}

-- ---- a price that leads levels

-- a price is better than those of all these levels
abbrev LeadsLevels : Way → ℤ → List Level → Type 0
LeadsLevels way p [] = Unit {0}
LeadsLevels way p (x ∷ xs) = (is_ahead way p x.price ≡ true) × LeadsLevels way p xs

-- each level leads those behind it
abbrev AreLed : Way → List Level → Type 0
AreLed way [] = Unit {0}
AreLed way (x ∷ xs) = LeadsLevels way x.price xs × AreLed way xs

both : (a b : Bool) → (a && b) ≡ true → (a ≡ true) × (b ≡ true)
both true b e = (refl, e)
both false b e = absurd (cc)

leads_on : (way : Way) (p q : ℤ) (xs : List Level) → is_ahead way p q ≡ true → LeadsLevels way q xs → LeadsLevels way p xs
leads_on way p q [] ahead leads = tt
leads_on way p q (x ∷ xs) ahead leads = (ahead_trans way p q x.price ahead leads.0, leads_on way p q xs ahead leads.1)

led : (way : Way) (xs : List Level) → are_ordered way xs ≡ true → AreLed way xs
led way [] order = tt
led way (x ∷ []) order = (tt, tt)
led way (x ∷ y ∷ xs) order =
    let two = both (is_ahead way x.price y.price) (are_ordered way (y ∷ xs)) order in
    let more = led way (y ∷ xs) two.1 in
    ((two.0, leads_on way x.price y.price xs two.0 more.0), more)

-- ---- entering behind a total that leads

enters_behind : (way : Way) (x : Level) (t : Total) (ts : List Total) → is_ahead way t.price x.price ≡ true → with_level way x (t ∷ ts) ≡ t ∷ with_level way x ts
enters_behind way x t ts ahead = rw ahead refl

all_behind : (way : Way) (xs : List Level) (t : Total) (ts : List Total) → LeadsLevels way t.price xs → with_levels way xs (t ∷ ts) ≡ t ∷ with_levels way xs ts
all_behind way [] t ts leads = refl
all_behind way (x ∷ xs) t ts leads = ap (with_levels way xs) (enters_behind way x t ts leads.0) ∙ all_behind way xs t (with_level way x ts) leads.1

-- levels in order are their own totals
one_by_one : (way : Way) (xs : List Level) → AreLed way xs → with_levels way xs [] ≡ map total_of xs
one_by_one way [] order = refl
one_by_one way (x ∷ xs) order = all_behind way xs (total_of x) [] order.0 ∙ ap (λ (ts : List Total). total_of x ∷ ts) (one_by_one way xs order.1)

-- ---- a merge from the front

-- the merge where so many direct levels come before the first implied one
abbrev merged_at : Way → ℕ → Level → List Level → List Level → List Total
merged_at way n x direct xs =
    (map total_of (take n direct) ++ total_with x (slice_get direct n) ∷ [])
    ++ merged way (drop (if is_at_price x (slice_get direct n) then suc n else n) direct) xs

past_one : (way : Way) (n : ℕ) (d x : Level) (ds xs : List Level) → merged_at way (suc n) x (d ∷ ds) xs ≡ total_of d ∷ merged_at way n x ds xs
past_one way n d x ds xs = elim (true_or_false (is_at_price x (slice_get ds n))) [ inl y ↦ rw y refl | inr z ↦ rw z refl ]

-- a direct level that is better than the first implied one is the first total
pub merges_past : (way : Way) (d x : Level) (ds xs : List Level) → is_ahead way d.price x.price ≡ true → merged way (d ∷ ds) (x ∷ xs) ≡ total_of d ∷ merged way ds (x ∷ xs)
merges_past way d x ds xs ahead =
    let more : ahead_of way x (d ∷ ds) ≡ 1 + ahead_of way x ds = rw ahead refl in
    let next : ahead_of way x (d ∷ ds) ≡ suc (ahead_of way x ds) = omega (arith, more) in
    ap (λ n. merged_at way n x (d ∷ ds) xs) next ∙ past_one way (ahead_of way x ds) d x ds xs

-- one of its price is added to it
pub merges_with : (way : Way) (d x : Level) (ds xs : List Level) → is_ahead way d.price x.price ≡ false → int_eq d.price x.price ≡ true → merged way (d ∷ ds) (x ∷ xs) ≡ with x (total_of d) ∷ merged way ds xs
merges_with way d x ds xs behind same = rw (behind, same) refl

-- and before one behind it, it stands alone
pub merges_before : (way : Way) (d x : Level) (ds xs : List Level) → is_ahead way d.price x.price ≡ false → int_eq d.price x.price ≡ false → merged way (d ∷ ds) (x ∷ xs) ≡ total_of x ∷ merged way (d ∷ ds) xs
merges_before way d x ds xs behind other = rw (behind, other) refl

-- ---- the merge is what entering makes

entered_merged : (way : Way) (implied direct : List Level) → AreLed way implied → AreLed way direct → with_levels way implied (map total_of direct) ≡ merged way direct implied
entered_merged way [] direct led_implied led_direct = refl
entered_merged way (x ∷ xs) [] led_implied led_direct =
    all_behind way xs (total_of x) [] led_implied.0 ∙ ap (λ (ts : List Total). total_of x ∷ ts) (entered_merged way xs [] led_implied.1 tt)
entered_merged way (x ∷ xs) (d ∷ ds) led_implied led_direct = elim (true_or_false (is_ahead way d.price x.price)) [
  | inl ahead ↦
      ap (with_levels way xs) (enters_behind way x (total_of d) (map total_of ds) ahead)
      ∙ all_behind way xs (total_of d) (with_level way x (map total_of ds)) (leads_on way d.price x.price xs ahead led_implied.0)
      ∙ ap (λ (ts : List Total). total_of d ∷ ts) (entered_merged way (x ∷ xs) ds led_implied led_direct.1)
      ∙ sym (merges_past way d x ds xs ahead)
  | inr behind ↦ elim (same_or_not d.price x.price) [
    | inl same ↦
        let here : with_level way x (total_of d ∷ map total_of ds) ≡ with x (total_of d) ∷ map total_of ds = rw (behind, same.0) refl in
        let leads : LeadsLevels way d.price xs = subst (λ (p : ℤ). LeadsLevels way p xs) (sym same.1) led_implied.0 in
        ap (with_levels way xs) here
        ∙ all_behind way xs (with x (total_of d)) (map total_of ds) leads
        ∙ ap (λ (ts : List Total). with x (total_of d) ∷ ts) (entered_merged way xs ds led_implied.1 led_direct.1)
        ∙ sym (merges_with way d x ds xs behind same.0)
    | inr other ↦
        let here : with_level way x (total_of d ∷ map total_of ds) ≡ total_of x ∷ total_of d ∷ map total_of ds = rw (behind, other.0) refl in
        ap (with_levels way xs) here
        ∙ all_behind way xs (total_of x) (map total_of (d ∷ ds)) led_implied.0
        ∙ ap (λ (ts : List Total). total_of x ∷ ts) (entered_merged way xs (d ∷ ds) led_implied.1 led_direct)
        ∙ sym (merges_before way d x ds xs behind other.0)
  ]
]

-- sides in order are consolidated by merging them
pub merged_is : (way : Way) (direct implied : List Level) → are_ordered way direct ≡ true → are_ordered way implied ≡ true → consolidated_side way (direct ++ implied) ≡ merged way direct implied
merged_is way direct implied order_direct order_implied =
    sym (entered_is way direct implied)
    ∙ ap (with_levels way implied) (one_by_one way direct (led way direct order_direct))
    ∙ entered_merged way implied direct (led way implied order_implied) (led way direct order_direct)

abbrev make_quotes : List Total → List Total → Quotes
make_quotes bids offers = record { bids = bids; offers = offers }

pub quotes_merged :
    (sides : Sides) → are_ordered Falling sides.bids.levels ≡ true → are_ordered Falling sides.implied_bids.levels ≡ true
    → are_ordered Rising sides.offers.levels ≡ true → are_ordered Rising sides.implied_offers.levels ≡ true
    → quotes_of sides ≡ merged_quotes sides
quotes_merged sides bids implied_bids offers implied_offers =
    ap (λ ts. make_quotes ts (consolidated_side Rising (sides.offers.levels ++ sides.implied_offers.levels))) (merged_is Falling sides.bids.levels sides.implied_bids.levels bids implied_bids)
    ∙ ap (make_quotes (merged Falling sides.bids.levels sides.implied_bids.levels)) (merged_is Rising sides.offers.levels sides.implied_offers.levels offers implied_offers)

-- ---- the order, level by level

-- one level is in order
pub ordered_end : (way : Way) (xs : List Level) (n : ℕ) → length xs ≤ suc n → are_ordered way (drop n xs) ≡ true
ordered_end way [] zero short = refl
ordered_end way [] (suc n) short = refl
ordered_end way (x ∷ []) zero short = refl
ordered_end way (x ∷ y ∷ xs) zero short = absurd (omega arith)
ordered_end way (x ∷ xs) (suc n) short = ordered_end way xs n (omega arith)

-- ---- how many levels are better

abbrev pub zero_level : Level
zero_level = record { price = pos 0; size = pos 0 }

pub ahead_is :
    (way : Way) (x : Level) (ds : List Level) (at : ℕ) → at ≤ length ds
    → ((k : ℕ) (d : Level) → k < at → is_ahead way (slice_index_or ds k d).price x.price ≡ true)
    → (at < length ds → is_ahead way (slice_index_or ds at zero_level).price x.price ≡ false) → at ≡ ahead_of way x ds
ahead_is way x ds at within before none =
    sym (prefix_len_is (λ (y : Level). is_ahead way y.price x.price) ds at zero_level within (λ k below. before k zero_level below) none)
