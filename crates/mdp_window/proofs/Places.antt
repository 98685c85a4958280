-- What a ring of places holds at each number.
use Rattle.std.proofs.Common.{◌≡◌, ℕ, suc, cond, List, [], ◌∷◌, ◌++◌, length, get_or, replicate, refl, sym, ap, ◌∙◌, Bool, true, false, ltb, eqb, ◌<◌, ◌≤◌, ◌+◌, ◌-◌, ◌≢◌, ◌⊎◌, min, max, arith, inl, inr, length-append, length-drop, length-set}
use Rattle.std.proofs.lemmas.Grind.{common_steps, get_or_tail, get_or-set_at}
use Rattle.std.proofs.lemmas.Bool.{le-ltb, false≢true}
use Rattle.std.proofs.lemmas.List.{length-replicate, get_or-drop, get_or_past, get_or-replicate, get_or_append_left, get_or-append_right, get_or-set_other}
use Rattle.std.proofs.lemmas.Bool.Decides.{leb_tells}
use Rattle.std.proofs.lemmas.Option.{unwrap_or-slice_get}
use Rattle.std.specs.Prelude.{Option, Some, None, IsSome, IsTrue, is_some, unwrap_or, slice_set, slice_get, ◌↔◌}
use Rattle.std.specs.Option.{option_flatten}
use Rattle.std.specs.Ordering.{nat_cmp, is_eq}
use Rattle.std.specs.Cmp.{nat_cmp_total}
use Rattle.std.specs.FinMap.{FinMap, get, empty, get-empty, get-insert, same_map, nat_cmp-IsAntisymmetric}
use Rattle.circular_buffer.specs.Buffer.{keep_last}
use Rattle.mdp_window.specs.Ring.{held_from}
use Rattle.mdp_window.specs.Window.{View, IsInRange, HoldsFrom, HoldsAlso, Puts, Takes, DropsBelow}
use Rattle.mdp_window.specs.declared.window.Put.TheVariants.{Kept}
use Rattle.mdp_window.proofs.Lookups.{is_eq-nat_cmp, range_also, range_from, case_from, case_also}

module _ {X : Type 0} where
  length-kept : (n count : ℕ) (xs : List X) (x : X) → length xs ≡ n → length (keep_last n (xs ++ replicate count x)) ≡ n
  length-kept n count xs x full = omega (arith, length-append xs (replicate count x), length-replicate count x, length-drop (length (xs ++ replicate count x) - n) (xs ++ replicate count x))

  length-none : (n : ℕ) (x : X) → length (keep_last n ([] ++ replicate n x)) ≡ n
  length-none n x = omega (arith, length-replicate n x, length-drop (length (replicate n x) - n) (replicate n x))

  replicate_at : (count k : ℕ) (x : X) → get_or (replicate count x) k x ≡ x
  replicate_at count k x = elim (leb_tells (suc k) count) [
    | inl p ↦ get_or-replicate count k x x p.1
    | inr p ↦ get_or_past (replicate count x) k x (omega (arith, length-replicate count x, p.1))
  ]

  append_at : (count k : ℕ) (xs : List X) (x : X) → get_or (xs ++ replicate count x) k x ≡ get_or xs k x
  append_at count k xs x = elim (leb_tells (suc k) (length xs)) [
    | inl p ↦ get_or_append_left xs (replicate count x) x k p.1
    | inr p ↦ get_or-append_right xs (replicate count x) (length xs) k x refl (omega (arith, p.1)) ∙ replicate_at count (k - length xs) x
        ∙ sym (get_or_past xs k x (omega (arith, p.1)))
  ]

  none_kept : (n k : ℕ) (x : X) → get_or (keep_last n ([] ++ replicate n x)) k x ≡ x
  none_kept n k x = let m : ℕ = length (replicate n x) - n in get_or-drop m (replicate n x) k x ∙ replicate_at n (m + k) x

  -- a full ring moves on by as many places as are put behind it
  pub kept_at : (n count k : ℕ) (xs : List X) (x : X) → length xs ≡ n → get_or (keep_last n (xs ++ replicate count x)) k x ≡ get_or xs (count + k) x
  kept_at n count k xs x full =
      let m = length (xs ++ replicate count x) - n in
      let at : m ≡ count = omega (arith, length-append xs (replicate count x), length-replicate count x) in
      get_or-drop m (xs ++ replicate count x) k x ∙ append_at count (m + k) xs x ∙ ap (λ j. get_or xs (j + k) x) at

same_or_past : (k old new n count : ℕ) → old ≤ new → count ≡ min (new - old) n → new ≤ k → (count + (k - new) ≡ k - old) ⊎ ((n ≤ count + (k - new)) × (n ≤ k - old))
same_or_past k old new n count up steps above = elim (leb_tells (new - old) n) [
  | inl p ↦ inl (omega (arith, p.1))
  | inr p ↦ inr (omega (arith, p.1), omega (arith, p.1))
]

module _ {T : Type 0} where
  case_none : (b : Bool) (x : Option T) → None ≡ x → None ≡ cond b None x
  case_none true x e = refl
  case_none false x e = e

  pub next_place : (place : Option T) (places : List (Option T)) (first k : ℕ) → first < k → get_or (place ∷ places) (k - first) None ≡ get_or places (k - (first + 1)) None
  next_place place places first k above = let at : k - first - 1 ≡ k - (first + 1) = omega arith in
      get_or_tail place places (k - first) None (omega arith) ∙ ap (λ j. get_or places j None) at

  case_empty : (k first : ℕ) (x y z : Option T) → x ≡ cond (ltb k (first + 1)) None y → (k ≡ first → z ≡ None) → (first < k → z ≡ y) → x ≡ cond (ltb k first) None z
  case_empty k first x y z e at above = grind (arith, common_steps)

  case_item : (k first : ℕ) (item : T) (w x y z : Option T) → w ≡ cond (is_eq (nat_cmp k first)) (Some item) x → x ≡ cond (ltb k (first + 1)) None y
      → (k ≡ first → z ≡ Some item) → (first < k → z ≡ y) → w ≡ cond (ltb k first) None z
  case_item k first item w x y z f e at above = grind (arith, common_steps, is_eq-nat_cmp k first)

  pub first_place : (place : Option T) (places : List (Option T)) (first k : ℕ) → k ≡ first → get_or (place ∷ places) (k - first) None ≡ place
  first_place place places first k is = let at : k - first ≡ 0 = omega arith in ap (λ j. get_or (place ∷ places) j None) at

  -- what is held at a number stands at its place
  pub get-held_from : (first : ℕ) (places : List (Option T)) (k : ℕ) → get (held_from first places) k ≡ cond (ltb k first) None (get_or places (k - first) None)
  unfolding held_from
  get-held_from first [] k = get-empty nat_cmp k ∙ case_none (ltb k first) None refl
  get-held_from first (None ∷ places) k =
      case_empty k first _ _ _ (get-held_from (first + 1) places k) (first_place None places first k) (next_place None places first k)
  get-held_from first (Some item ∷ places) k =
      case_item k first item _ _ _ _ (get-insert nat_cmp_total (held_from (first + 1) places) first item k) (get-held_from (first + 1) places k) (first_place (Some item) places first k) (next_place (Some item) places first k)

  case_at : (k first : ℕ) (x y : Option T) → x ≡ cond (ltb k first) None y → first ≤ k → x ≡ y
  case_at k first x y e from = grind (arith, common_steps)

  -- what is held at a number from the first on
  pub held_at : (first : ℕ) (places : List (Option T)) (k : ℕ) → first ≤ k → get (held_from first places) k ≡ get_or places (k - first) None
  held_at first places k from = case_at k first _ _ (get-held_from first places k) from

  -- the first number's item stands at the first place
  pub held_first : (first : ℕ) (places : List (Option T)) → get (held_from first places) first ≡ get_or places 0 None
  held_first first places = let at : first - first ≡ 0 = omega arith in held_at first places first (omega arith) ∙ ap (λ k. get_or places k None) at

  -- what a look at a place tells
  pub tells_held : (first number : ℕ) (places : List (Option T)) (seen : Option (Option T)) (answer : Bool) → first ≤ number → seen ≡ slice_get places (number - first)
      → is_some (unwrap_or seen None) ≡ answer → (IsTrue answer) ↔ (IsSome (get (held_from first places) number))
  tells_held first number places seen answer from is told =
      let same : is_some (get (held_from first places) number) ≡ answer =
      ap is_some (held_at first places number from ∙ sym (unwrap_or-slice_get places (number - first) None) ∙ ap (λ o. unwrap_or o None) (sym is)) ∙ told in
      (λ yes. same ∙ yes, λ held. sym same ∙ held)

  case_moved : (k old new : ℕ) (w x y z : Option T) → w ≡ cond (ltb k new) None x → z ≡ cond (ltb k old) None y → old ≤ new → (new ≤ k → x ≡ y) → w ≡ cond (ltb k new) None z
  case_moved k old new w x y z e f up same = grind (arith, common_steps)

  -- two places that are one, or both past the end
  same_place : (places : List (Option T)) (i j : ℕ) → (i ≡ j) ⊎ ((length places ≤ i) × (length places ≤ j)) → get_or places i None ≡ get_or places j None
  same_place places i j (inl same) = ap (λ k. get_or places k None) same
  same_place places i j (inr past) = get_or_past places i None past.0 ∙ sym (get_or_past places j None past.1)

  -- as many empty places behind the others as the first number goes up, but no more than there are places
  holds_moved : (old new n count : ℕ) (places : List (Option T)) → length places ≡ n → old ≤ new → count ≡ min (new - old) n
      → HoldsFrom new (held_from old places) (held_from new (keep_last n (places ++ replicate count None)))
  holds_moved old new n count places full up steps k =
      case_moved k old new _ _ _ _ (get-held_from new _ k) (get-held_from old places k) up (λ above. kept_at n count (k - new) places None full ∙ same_place places (count + (k - new)) (k - old) (rw full (same_or_past k old new n count up steps above)))

  case_filled : (k first number : ℕ) (item : T) (w x y z : Option T) → w ≡ cond (ltb k first) None x → z ≡ cond (ltb k first) None y
      → (k ≡ number → x ≡ Some item) → (k ≢ number → first ≤ k → x ≡ y) → first ≤ number → w ≡ cond (ltb k first) None (cond (eqb k number) (Some item) z)
  case_filled k first number item w x y z e f at other from = grind (arith, common_steps)

  -- a place is filled
  pub holds_filled : (first number index : ℕ) (item : T) (places : List (Option T)) → index ≡ number - first → first ≤ number → index < length places
      → HoldsAlso first number item (held_from first places) (held_from first (slice_set places index (Some item)))
  holds_filled first number index item places at from within k =
      case_filled k first number item _ _ _ _ (get-held_from first _ k) (get-held_from first places k)
      (λ is. get_or-set_at places index (k - first) (Some item) None (omega (arith, at, is)) within)
      (λ other above. get_or-set_other places index (k - first) (Some item) None (λ is. other (omega (arith, at, is, above, from)))) from

  -- nothing is held at a number or a later one
  abbrev pub HoldsNoneFrom : ℕ → FinMap nat_cmp T → Type 0
  HoldsNoneFrom end held = (k : ℕ) → end ≤ k → get held k ≡ None

  -- a ring's places as a window
  abbrev pub ring_view : ℕ → ℕ → List (Option T) → View T
  ring_view first room places = record { first = first; room = room; held = held_from first places }

  -- what is so of a ring of this first number, end, room and places
  abbrev pub IsRing : ℕ → ℕ → ℕ → List (Option T) → Type 0
  IsRing first end room places = (length places ≡ room) × IsInRange (ring_view first room places) × HoldsNoneFrom end (held_from first places)

  -- empty places hold nothing
  pub held_none : (first n : ℕ) → held_from first (keep_last n ([] ++ replicate n None)) ≡ empty {K = ℕ} {X = T} {R = nat_cmp}
  held_none first n = same_map nat_cmp_total nat_cmp-IsAntisymmetric _ _ (λ k.
      get-held_from first (keep_last n ([] ++ replicate n None)) k
      ∙ sym (case_none (ltb k first) _ (sym (none_kept n (k - first) None)))
      ∙ sym (get-empty nat_cmp k))

  -- a ring that was just made
  pub ring_new : (room : ℕ) → 1 ≤ room → room ≤ 65536 → IsRing 1 1 room (keep_last room ([] ++ replicate room None))
  ring_new room least most = rw (held_none 1 room) (
    length-none room None,
    record {
      first_least = omega arith;
      first_most = omega arith;
      room_least = least;
      room_most = most;
      none_below = λ k below. get-empty nat_cmp k;
      none_past = λ k past. get-empty nat_cmp k;
      none_larger = λ k larger. get-empty nat_cmp k;
    },
    λ k past. get-empty nat_cmp k,
  )

  -- where none is told to be held, none is
  pub none_held : (answer : Bool) (held : Option T) → (IsTrue answer) ↔ (IsSome held) → answer ≡ false → held ≡ None
  none_held answer None told not_so = refl
  none_held answer (Some item) told not_so = absurd (false≢true (sym not_so ∙ told.1 refl))

  -- what is held has a packet's number
  pub held_within : (v : View T) (number : ℕ) → IsInRange v → IsSome (get v.held number) → number ≤ 4294967295
  held_within v number range some = elim (leb_tells number 4294967295) [
    | inl p ↦ p.1
    | inr p ↦ absurd (false≢true (ap is_some (sym (range.none_larger number p.1)) ∙ some))
  ]

  -- a full ring gives up its first place
  pub gives_up : (n : ℕ) (places : List (Option T)) → length places ≡ n → 0 < n → option_flatten (cond (ltb (length places) n) None (slice_get (places ++ None ∷ []) 0)) ≡ get_or places 0 None
  gives_up n [] full some = absurd (omega (arith, full))
  gives_up n (None ∷ places) full some = rw (le-ltb (suc (length places)) n (omega (arith, full))) refl
  gives_up n (Some item ∷ places) full some = rw (le-ltb (suc (length places)) n (omega (arith, full))) refl

  -- the item at the first number is taken
  pub takes_first : (old new : View T) (taken : Option T) → IsSome (get old.held old.first) → taken ≡ get old.held old.first → new.first ≡ old.first + 1 → new.room ≡ old.room → HoldsFrom new.first old.held new.held → Takes old new taken
  takes_first old new None some is first room held = absurd (false≢true (ap is_some is ∙ some))
  takes_first old new (Some item) some is first room held = (sym is, first, room, held)

  -- what is held from a number on ends where all that was held did
  none_from : (first end : ℕ) (old new : FinMap nat_cmp T) → HoldsFrom first old new → HoldsNoneFrom end old → HoldsNoneFrom end new
  none_from first end old new from none k past = case_from k first _ _ (from k) (none k past)

  case_none_held : (k first : ℕ) (w x z : Option T) → w ≡ cond (ltb k first) None x → x ≡ None → (first ≤ k → z ≡ None) → w ≡ cond (ltb k first) None z
  case_none_held k first w x z e empty none = grind (arith, common_steps)

  -- places that hold nothing from one first number on hold nothing from another
  holds_none : (old new end : ℕ) (places : List (Option T)) → end ≤ old → old ≤ new → HoldsNoneFrom end (held_from old places)
      → HoldsFrom new (held_from old places) (held_from new places)
  holds_none old new end places past up none k =
      let at : old + (k - new) - old ≡ k - new = omega arith in
      let empty : get_or places (k - new) None ≡ None =
      ap (λ j. get_or places j None) (sym at) ∙ sym (held_at old places (old + (k - new)) (omega arith)) ∙ none (old + (k - new)) (omega (arith, past)) in
      case_none_held k new _ _ _ (get-held_from new places k) empty (λ above. none k (omega (arith, above, up, past)))

  -- a ring moves up, where its places do or hold nothing
  moves : (old new end room : ℕ) (places after : List (Option T)) → IsRing old end room places → old < new → new ≤ 4294967296 → length after ≡ room
      → HoldsFrom new (held_from old places) (held_from new after)
      → IsRing new end room after × DropsBelow new (ring_view old room places) (ring_view new room after)
  moves old new end room places after ring up most full holds = (
    (
      full,
      range_from (ring_view old room places) (ring_view new room after) refl (omega (arith, up)) most holds ring.1,
      none_from new end (held_from old places) (held_from new after) holds ring.2,
    ),
    (omega (arith, up), refl, holds),
  )

  -- a ring moves up by empty places
  pub moves_up : (old new end room count : ℕ) (places : List (Option T)) → IsRing old end room places → old < new → new ≤ 4294967296
      → count ≡ min (new - old) room → let after : List (Option T) = keep_last room (places ++ replicate count None) in
      IsRing new end room after × DropsBelow new (ring_view old room places) (ring_view new room after)
  moves_up old new end room count places ring up most steps =
      moves old new end room places _ ring up most (length-kept room count places None ring.0)
      (holds_moved old new room count places ring.0 (omega (arith, up)) steps)

  -- a ring that holds nothing moves up as it is
  pub moves_empty : (old new end room : ℕ) (places : List (Option T)) → IsRing old end room places → old < new → new ≤ 4294967296 → end ≤ old
      → IsRing new end room places × DropsBelow new (ring_view old room places) (ring_view new room places)
  moves_empty old new end room places ring up most past =
      moves old new end room places places ring up most ring.0 (holds_none old new end places past (omega (arith, up)) ring.2)

  case_both : (k first number : ℕ) (item : T) (w x y : Option T) → w ≡ cond (ltb k first) None (cond (eqb k number) (Some item) x) → x ≡ cond (ltb k first) None y
      → w ≡ cond (ltb k first) None (cond (eqb k number) (Some item) y)
  case_both k first number item w x y e f = grind (arith, common_steps)

  -- all below a number is dropped, and then an item is held too
  pub holds_both : (first number : ℕ) (item : T) (old between new : FinMap nat_cmp T) → HoldsFrom first old between → HoldsAlso first number item between new → HoldsAlso first number item old new
  holds_both first number item old between new from also k = case_both k first number item _ _ _ (also k) (from k)

  -- one item more is held, and what was held ended before
  none_also : (first end number : ℕ) (item : T) (old new : FinMap nat_cmp T) → HoldsAlso first number item old new → HoldsNoneFrom end old
      → HoldsNoneFrom (max end (number + 1)) new
  none_also first end number item old new also none k past = case_also k first number item _ _ (also k) (omega (arith, past)) (none k (omega (arith, past)))

  -- the ring moves up as far as it has to, and the item's place is filled
  pub puts_kept : (number up first end room : ℕ) (item : T) (places : List (Option T)) (old between : View T) → IsInRange old → old.first ≤ number
      → number ≤ 4294967295 → get old.held number ≡ None → up ≡ number + 1 - old.room → DropsBelow up old between → ring_view first room places ≡ between
      → IsRing first end room places → let after : List (Option T) = slice_set places (number - first) (Some item) in
      IsRing first (max end (number + 1)) room after × Puts false number item old (ring_view first room after) Kept
  puts_kept number up first end room item places old between range from most none is_up drops is ring =
      let e : first ≡ max old.first up = ap (λ v. v.first) is ∙ drops.0 in
      let same : room ≡ old.room = ap (λ v. v.room) is ∙ drops.1 in
      let least = range.room_least in
      let full = ring.0 in
      let moved : HoldsFrom first old.held (held_from first places) = rw (← is) at drops.2 in
      let after : List (Option T) = slice_set places (number - first) (Some item) in
      let filled : HoldsAlso first number item (held_from first places) (held_from first after) =
      holds_filled first number (number - first) item places refl (omega (arith, e, is_up, least, from)) (omega (arith, e, is_up, least, from, full, same)) in
      let at : first ≡ max old.first (number + 1 - old.room) = omega (arith, e, is_up) in
      let also = holds_both first number item old.held (held_from first places) _ moved filled in (
        (
          length-set places (number - first) (Some item) ∙ full,
          range_also old (ring_view first room after) number item same from most at also range,
          none_also first end number item (held_from first places) (held_from first after) filled ring.2,
        ),
        (from, none, at, same, also),
      )
