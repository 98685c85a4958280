-- How many of a ring's places hold an item.
use Rattle.std.proofs.Common.{◌≡◌, ℕ, zero, suc, ◌+◌, ◌-◌, ◌≤◌, ◌<◌, Bool, true, false, cond, ltb, List, [], ◌∷◌, ◌++◌, length, length-append, length-drop, get_or, refl, arith, inl, inr, ap, sym, ◌∙◌}
use Rattle.std.proofs.lemmas.Bool.{false≢true, lt-ltb, le-ltb}
use Rattle.std.proofs.lemmas.Bool.Decides.{leb_tells}
use Rattle.std.specs.Prelude.{Option, Some, None, IsSome, is_some, slice_get, slice_set}
use Rattle.std.specs.Option.{option_flatten}
use Rattle.std.specs.Ordering.{nat_cmp}
use Rattle.std.specs.FinMap.{FinMap, get}
use Rattle.circular_buffer.specs.Buffer.{keep_last}
use Rattle.mdp_window.specs.Ring.{count_filled, held_from}
use Rattle.mdp_window.specs.Window.{HoldsFrom, count_held}
use Rattle.mdp_window.proofs.Counts.{count_front, count_same}
use Rattle.mdp_window.proofs.Lookups.{case_from}
use Rattle.mdp_window.proofs.Places.{first_place, held_at, next_place}

pub bit_most : (b : Bool) → cond b 1 0 ≤ 1
bit_most true = omega arith
bit_most false = omega arith

pub kept_most : {X : Type 0} (n : ℕ) (xs : List X) → length (keep_last n xs) ≤ n
kept_most n xs = omega (arith, length-drop (length xs - n) xs)

module _ {T : Type 0} where
  one_more : (place : Option T) (places : List (Option T)) → count_filled (place ∷ places) ≡ cond (is_some place) 1 0 + count_filled places
  one_more None places = omega arith
  one_more (Some item) places = omega arith

  -- as many places hold an item as numbers do
  pub count_places : (places : List (Option T)) (first : ℕ) → count_filled places ≡ count_held (held_from first places) first (length places)
  count_places [] first = refl
  count_places (place ∷ places) first =
      let held = held_from first (place ∷ places) in
      let here : get (held_from first (place ∷ places)) first ≡ place = held_at first (place ∷ places) first (omega arith) ∙ first_place place places first first refl in
      let rest : count_held (held_from first (place ∷ places)) (first + 1) (length places) ≡ count_held (held_from (first + 1) places) (first + 1) (length places) =
      count_same (held_from (first + 1) places) (held_from first (place ∷ places)) (first + 1) (length places) (λ k from below.
      held_at first (place ∷ places) k (omega (arith, from)) ∙ next_place place places first k (omega (arith, from)) ∙ sym (held_at (first + 1) places k from)) in
      let front : count_held (held_from first (place ∷ places)) first (suc (length places))
      ≡ cond (is_some place) 1 0 + count_held (held_from first (place ∷ places)) (first + 1) (length places) =
      count_front held first (length places) ∙ ap (λ o. cond (is_some o) 1 0 + count_held held (first + 1) (length places)) here in
      omega (arith, one_more place places, count_places places (first + 1), front, rest)

  -- no more than there are places
  pub filled_most : (places : List (Option T)) → count_filled places ≤ length places
  filled_most [] = omega arith
  filled_most (None ∷ places) = omega (arith, filled_most places)
  filled_most (Some item ∷ places) = omega (arith, filled_most places)

  -- an empty place is filled
  pub count_set : (places : List (Option T)) (index : ℕ) (item : T) → index < length places → get_or places index None ≡ None
      → count_filled (slice_set places index (Some item)) ≡ count_filled places + 1
  count_set [] index item within none = absurd (omega (arith, within))
  count_set (None ∷ places) zero item within none = omega arith
  count_set (Some other ∷ places) zero item within none = absurd (let both : Some other ≡ None = none in cc)
  count_set (None ∷ places) (suc index) item within none = count_set places index item (omega (arith, within)) none
  count_set (Some other ∷ places) (suc index) item within none = omega (arith, count_set places index item (omega (arith, within)) none)

  count_behind : (places : List (Option T)) → count_filled (places ++ None ∷ []) ≡ count_filled places
  count_behind [] = refl
  count_behind (None ∷ places) = count_behind places
  count_behind (Some item ∷ places) = ap suc (count_behind places)

  -- the first place falls out of a full ring
  count_turned : (n : ℕ) (places : List (Option T)) → n ≡ length places
      → count_filled (keep_last n (places ++ None ∷ [])) + cond (is_some (option_flatten (slice_get (places ++ None ∷ []) 0))) 1 0 ≡ count_filled places
  count_turned n [] full = rw full refl
  count_turned n (place ∷ places) full =
      let one : length ((place ∷ places) ++ None ∷ []) - n ≡ 1 = omega (arith, full, length-append places (None ∷ [])) in
      rw one (omega (arith, count_behind places, one_more place places))

  -- an empty place is put behind the others
  pub count_pushed : (n : ℕ) (places : List (Option T)) (out : Option (Option T)) → length places ≤ n
      → out ≡ cond (ltb (length places) n) None (slice_get (places ++ None ∷ []) 0)
      → cond (is_some (option_flatten out)) 1 0 + count_filled (keep_last n (places ++ None ∷ [])) ≡ count_filled places
  count_pushed n places out most is = elim (leb_tells n (length places)) [
    | inl full ↦
        let same : n ≡ length places = omega (arith, most, full.1) in
        let none : out ≡ slice_get (places ++ None ∷ []) 0 = is ∙ ap (λ b. cond b None (slice_get (places ++ None ∷ []) 0)) (le-ltb (length places) n full.1) in
        rw none (omega (arith, count_turned n places same))
    | inr less ↦
        let all : length (places ++ None ∷ []) - n ≡ 0 = omega (arith, less.1, length-append places (None ∷ [])) in
        let none : out ≡ None = is ∙ ap (λ b. cond b None (slice_get (places ++ None ∷ []) 0)) (lt-ltb (length places) n less.1) in
        rw (none, all) (omega (arith, count_behind places))
  ]

  -- an item stands at the first place
  pub one_filled : (places : List (Option T)) → IsSome (get_or places 0 None) → 1 ≤ count_filled places
  one_filled [] some = absurd (false≢true some)
  one_filled (None ∷ places) some = absurd (false≢true some)
  one_filled (Some item ∷ places) some = omega arith

  -- and falls out
  pub count_taken : (n : ℕ) (places : List (Option T)) → n ≡ length places → IsSome (get_or places 0 None)
      → count_filled (keep_last n (places ++ None ∷ [])) + 1 ≡ count_filled places
  count_taken n [] full some = absurd (false≢true some)
  count_taken n (None ∷ places) full some = absurd (false≢true some)
  count_taken n (Some item ∷ places) full some = count_turned n (Some item ∷ places) full

  -- an item is put under a number of which none was held
  pub count_put : (number first : ℕ) (item : T) (places : List (Option T)) (old : FinMap nat_cmp T) → first ≤ number → number < first + length places
      → HoldsFrom first old (held_from first places) → get old number ≡ None
      → count_filled (slice_set places (number - first) (Some item)) ≡ count_filled places + 1
  count_put number first item places old from within holds none =
      let empty : get_or places (number - first) None ≡ None = sym (held_at first places number from) ∙ case_from number first _ _ (holds number) none in
      count_set places (number - first) item (omega (arith, within, from)) empty
