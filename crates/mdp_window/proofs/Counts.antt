-- How many items are held.
use Rattle.std.proofs.Common.{◌≡◌, ℕ, zero, suc, ◌+◌, ◌≤◌, ◌<◌, Bool, true, false, cond, eqb, List, [], ◌∷◌, length, refl, arith, inl, inr, ap, sym, ◌∙◌}
use Rattle.std.proofs.lemmas.Grind.{common_steps}
use Rattle.std.proofs.lemmas.Bool.Decides.{eqb_tells, leb_tells}
use Rattle.std.proofs.lemmas.Map.{lookup-none}
use Rattle.std.proofs.lemmas.Map.Entries.{none_past_head}
use Rattle.std.proofs.lemmas.Map.Keys.{IsDistinct-from_sorted, sorted_tail}
use Rattle.std.specs.Prelude.{Option, Some, None}
use Rattle.std.specs.Cmp.{nat_cmp_total, eq_by_cmp_equiv}
use Rattle.std.specs.List.Sorted.{IsStrictlySortedBy}
use Rattle.std.specs.Map.{keys_of}
use Rattle.std.specs.Ordering.{nat_cmp, is_eq}
use Rattle.std.specs.FinMap.{FinMap, get, contains_key, from_entries, get-empty, get-insert}
use Rattle.mdp_window.specs.Window.{count_held}
use Rattle.mdp_window.proofs.Lookups.{get-tree, is_eq-nat_cmp}

same_number : (n : ℕ) → eqb n n ≡ true
same_number n = grind (arith, common_steps)

unlike : (k n : ℕ) → k < n → eqb k n ≡ false
unlike k n below = grind (arith, common_steps, below)

module _ {T : Type 0} where
  -- ---- of any finite map

  pub count_same : (old new : FinMap nat_cmp T) (first n : ℕ) → ((k : ℕ) → first ≤ k → k < first + n → get new k ≡ get old k)
      → count_held new first n ≡ count_held old first n
  count_same old new first zero same = refl
  count_same old new first (suc n) same =
      let here : get new (first + n) ≡ get old (first + n) = same (first + n) (omega arith) (omega arith) in
      let before = count_same old new first n (λ k from below. same k from (omega (arith, below))) in
      rw (here, before) refl

  count_none : (held : FinMap nat_cmp T) (first n : ℕ) → ((k : ℕ) → k < first + n → get held k ≡ None) → count_held held first n ≡ 0
  count_none held first zero none = refl
  count_none held first (suc n) none =
      rw (none (first + n) (omega arith), count_none held first n (λ k below. none k (omega (arith, below)))) refl

  -- the first number, and then those behind it
  pub count_front : (held : FinMap nat_cmp T) (first n : ℕ) → count_held held first (suc n) ≡ cond (contains_key held first) 1 0 + count_held held (first + 1) n
  count_front held first zero = let place : first + 0 ≡ first = omega arith in rw place (omega arith)
  count_front held first (suc n) =
      let place : first + suc n ≡ first + 1 + n = omega arith in
      let before = count_front held first n in
      rw place (omega (arith, before))

  -- numbers of which none is held count nothing
  pub count_past : (held : FinMap nat_cmp T) (first few many : ℕ) → few ≤ many → ((k : ℕ) → first + few ≤ k → get held k ≡ None)
      → count_held held first many ≡ count_held held first few
  count_past held first few zero within none = let same : 0 ≡ few = omega (arith, within) in ap (count_held held first) same
  count_past held first few (suc many) within none = elim (leb_tells few many) [
    | inl less ↦
        let last : get held (first + many) ≡ None = none (first + many) (omega (arith, less.1)) in
        rw last (omega (arith, count_past held first few many less.1 none))
    | inr all ↦ let same : suc many ≡ few = omega (arith, within, all.1) in ap (count_held held first) same
  ]

  -- one more is held among the numbers
  pub count_more : (old new : FinMap nat_cmp T) (first n number : ℕ) (item : T) → first ≤ number → number < first + n → get old number ≡ None
      → ((k : ℕ) → first ≤ k → get new k ≡ cond (eqb k number) (Some item) (get old k)) → count_held new first n ≡ count_held old first n + 1
  count_more old new first zero number item from below absent also = absurd (omega (arith, from, below))
  count_more old new first (suc n) number item from below absent also =
      let last : get new (first + n) ≡ cond (eqb (first + n) number) (Some item) (get old (first + n)) = also (first + n) (omega arith) in
      elim (eqb_tells (first + n) number) [
        | inl here ↦
            let others : (k : ℕ) → first ≤ k → k < first + n → get new k ≡ get old k =
            λ k least under. also k least ∙ ap (λ b. cond b (Some item) (get old k)) (unlike k number (omega (arith, under, here.1))) in
            let now : get new (first + n) ≡ Some item = last ∙ ap (λ b. cond b (Some item) (get old (first + n))) here.0 in
            let gone : get old (first + n) ≡ None = ap (get old) here.1 ∙ absent in
            rw (now, gone, count_same old new first n others) (omega arith)
        | inr apart ↦
            let other : get new (first + n) ≡ get old (first + n) = last ∙ ap (λ b. cond b (Some item) (get old (first + n))) apart.0 in
            let under : number < first + n = omega (arith, below, apart.1) in
            rw other (omega (arith, count_more old new first n number item from under absent also))
      ]

  -- ---- of a tree's items

  abbrev map_of : List (ℕ × T) → FinMap nat_cmp T
  map_of es = from_entries {R = nat_cmp} es

  item_at : (e : ℕ × T) (es : List (ℕ × T)) (k : ℕ) → get (map_of (e ∷ es)) k ≡ cond (eqb k e.0) (Some e.1) (get (map_of es) k)
  item_at e es k = get-insert nat_cmp_total (map_of es) e.0 e.1 k ∙ ap (λ b. cond b (Some e.1) (get (map_of es) k)) (is_eq-nat_cmp k e.0)

  item_here : (e : ℕ × T) (es : List (ℕ × T)) → get (map_of (e ∷ es)) e.0 ≡ Some e.1
  item_here e es = item_at e es e.0 ∙ ap (λ b. cond b (Some e.1) (get (map_of es) e.0)) (same_number e.0)

  absent_after : (e : ℕ × T) (es : List (ℕ × T)) → IsStrictlySortedBy nat_cmp (keys_of (e ∷ es)) → get (map_of es) e.0 ≡ None
  absent_after e es sorted =
      let distinct = IsDistinct-from_sorted nat_cmp (keys_of (e ∷ es)) sorted in
      let here : is_eq (nat_cmp e.0 e.0) ≡ true = is_eq-nat_cmp e.0 e.0 ∙ same_number e.0 in
      get-tree es e.0 ∙ lookup-none _ es (none_past_head (eq_by_cmp_equiv nat_cmp_total) e.0 e es distinct here)

  case_absent : (b : Bool) (item : T) (x : Option T) → cond b (Some item) x ≡ None → x ≡ None
  case_absent true item x none = absurd (let both : Some item ≡ None = none in cc)
  case_absent false item x none = none

  absent_too : (e : ℕ × T) (es : List (ℕ × T)) (k : ℕ) → get (map_of (e ∷ es)) k ≡ None → get (map_of es) k ≡ None
  absent_too e es k none = case_absent (eqb k e.0) e.1 (get (map_of es) k) (sym (item_at e es k) ∙ none)

  not_absent : (e : ℕ × T) (es : List (ℕ × T)) → get (map_of (e ∷ es)) e.0 ≡ None → ⊥
  not_absent e es none = let both : Some e.1 ≡ None = sym (item_here e es) ∙ none in cc

  -- a tree has as many items as are held, where all its keys lie among the numbers
  pub count_items : (es : List (ℕ × T)) (first n : ℕ) → IsStrictlySortedBy nat_cmp (keys_of es) → ((k : ℕ) → k < first → get (map_of es) k ≡ None)
      → ((k : ℕ) → first + n ≤ k → get (map_of es) k ≡ None) → length es ≡ count_held (map_of es) first n
  count_items [] first n sorted below past = sym (count_none (map_of []) first n (λ k _. get-empty nat_cmp k))
  count_items (e ∷ es) first n sorted below past =
      let from : first ≤ e.0 = elim (leb_tells first e.0) [ inl up ↦ up.1 | inr less ↦ absurd (not_absent e es (below e.0 less.1)) ] in
      let under : e.0 < first + n = elim (leb_tells (first + n) e.0) [ inl far ↦ absurd (not_absent e es (past e.0 far.1)) | inr less ↦ less.1 ] in
      let rest : length es ≡ count_held (map_of es) first n =
      count_items es first n (sorted_tail nat_cmp e.0 (keys_of es) sorted) (λ k less. absent_too e es k (below k less)) (λ k far. absent_too e es k (past k far)) in
      let more : count_held (map_of (e ∷ es)) first n ≡ count_held (map_of es) first n + 1 =
      count_more (map_of es) (map_of (e ∷ es)) first n e.0 e.1 from under (absent_after e es sorted) (λ k _. item_at e es k) in
      omega (arith, rest, more)
