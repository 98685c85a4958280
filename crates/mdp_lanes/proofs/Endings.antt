-- Lists of items in which no item but the last is an end, and how many ends they have.
use Rattle.std.proofs.Common.{◌≡◌, ℕ, ◌+◌, ◌≤◌, Bool, true, false, true≢false, not, ◌||◌, ◌&&◌, cond, List, [], ◌∷◌, ◌++◌, sym, refl, ap, ◌∙◌, arith}
use Rattle.std.specs.List.{list_any, count_by}
use Rattle.std.proofs.lemmas.List.Sums.{sum_by-cons, sum_by_push}
use Rattle.mdp_templates.specs.declared.feed.Feed.{Feed}
use Rattle.mdp_templates.specs.declared.feed.Feed.TheVariants.{A, B, S}
use Rattle.mdp_lanes.specs.Items.{items_of, ends_taken, ends_last, EndsLast}

module _ {I : Type 0} (is_end : I → Bool) where
  -- a front of such a list is such a list
  pub front_ends_last : (xs ys : List I) → EndsLast is_end (xs ++ ys) → EndsLast is_end xs
  front_ends_last [] ys e = refl
  front_ends_last (x ∷ []) ys e = refl
  front_ends_last (x ∷ y ∷ xs) ys e =
      elim (is_end x) as (λ b. (not b && ends_last is_end (y ∷ xs ++ ys)) ≡ true → (not b && ends_last is_end (y ∷ xs)) ≡ true)
      [ true ↦ λ d. d | false ↦ λ d. front_ends_last (y ∷ xs) ys d ] e

  -- an item may come behind items that are no ends
  pub longer_ends_last : (xs : List I) (x : I) → list_any is_end xs ≡ false → EndsLast is_end (xs ++ x ∷ [])
  longer_ends_last [] x e = refl
  longer_ends_last (y ∷ []) x e =
      elim (is_end y) as (λ b. (b || false) ≡ false → (not b && true) ≡ true) [ true ↦ λ d. absurd (true≢false d) | false ↦ λ d. refl ] e
  longer_ends_last (y ∷ z ∷ xs) x e =
      elim (is_end y) as (λ b. (b || list_any is_end (z ∷ xs)) ≡ false → (not b && ends_last is_end (z ∷ xs ++ x ∷ [])) ≡ true)
      [ true ↦ λ d. absurd (true≢false d) | false ↦ λ d. longer_ends_last (z ∷ xs) x d ] e

  -- behind items that are no ends, an item is the only one that may be an end
  pub longer_has_end : (xs : List I) (x : I) → list_any is_end xs ≡ false → list_any is_end (xs ++ x ∷ []) ≡ is_end x
  longer_has_end [] x e = elim (is_end x) as (λ b. (b || false) ≡ b) [ true ↦ refl | false ↦ refl ]
  longer_has_end (y ∷ xs) x e =
      elim (is_end y) as (λ b. (b || list_any is_end xs) ≡ false → (b || list_any is_end (xs ++ x ∷ [])) ≡ is_end x)
      [ true ↦ λ d. absurd (true≢false d) | false ↦ λ d. longer_has_end xs x d ] e

  pub ends_taken-append : (xs : List (Feed × I)) (m : Feed × I) → ends_taken is_end (xs ++ m ∷ []) ≡ ends_taken is_end xs + cond (is_end m.1) 1 0
  ends_taken-append xs m = sum_by_push (λ n. cond (is_end n.1) 1 0) xs m

  count-cons : (x : I) (xs : List I) → count_by is_end (x ∷ xs) ≡ cond (is_end x) 1 0 + count_by is_end xs
  count-cons x xs = sum_by-cons (λ y. cond (is_end y) 1 0) x xs

  -- what was taken has the ends of the three tags
  ends_by_tags : (ms : List (Feed × I))
      → ends_taken is_end ms ≡ count_by is_end (items_of A ms) + count_by is_end (items_of B ms) + count_by is_end (items_of S ms)
  ends_by_tags [] = refl
  ends_by_tags (m ∷ ms) =
      let count : Feed → Feed → ℕ = λ wanted tag. count_by is_end (items_of wanted ((tag, m.1) ∷ ms)) in
      let P : Feed → Type 0 = λ tag. cond (is_end m.1) 1 0 + ends_taken is_end ms ≡ count A tag + count B tag + count S tag in
      let rest = ends_by_tags ms in
      let each : (tag : Feed) → P tag = elim [
        | A ↦ omega (arith, rest, count-cons m.1 (items_of A ms))
        | B ↦ omega (arith, rest, count-cons m.1 (items_of B ms))
        | S ↦ omega (arith, rest, count-cons m.1 (items_of S ms))
      ] in sum_by-cons (λ n. cond (is_end n.1) 1 0) m ms ∙ each m.0

  one_end : (xs : List I) → EndsLast is_end xs → count_by is_end xs ≤ 1
  one_end [] e = omega arith
  one_end (x ∷ []) e = elim (is_end x) as (λ b. 0 + cond b 1 0 ≤ 1) [ true ↦ omega arith | false ↦ omega arith ]
  one_end (x ∷ y ∷ xs) e =
      let few : cond (is_end x) 1 0 + count_by is_end (y ∷ xs) ≤ 1 =
      elim (is_end x) as (λ b. (not b && ends_last is_end (y ∷ xs)) ≡ true → cond b 1 0 + count_by is_end (y ∷ xs) ≤ 1)
      [ true ↦ λ d. absurd (true≢false (sym d)) | false ↦ λ d. omega (arith, one_end (y ∷ xs) d) ] e in
      omega (arith, few, count-cons x (y ∷ xs))

  -- so three senders end three times at most
  pub three_ends : (ms : List (Feed × I)) → ((tag : Feed) → EndsLast is_end (items_of tag ms)) → ends_taken is_end ms ≤ 3
  three_ends ms e =
      let a = one_end (items_of A ms) (e A) in
      let b = one_end (items_of B ms) (e B) in
      let s = one_end (items_of S ms) (e S) in
      let all = ends_by_tags ms in omega arith

  -- and where they ended three times, each has ended
  pub each_ended : (ms : List (Feed × I)) → ((tag : Feed) → EndsLast is_end (items_of tag ms)) → ends_taken is_end ms ≡ 3
      → (tag : Feed) → count_by is_end (items_of tag ms) ≡ 1
  each_ended ms e three tag =
      let a = one_end (items_of A ms) (e A) in
      let b = one_end (items_of B ms) (e B) in
      let s = one_end (items_of S ms) (e S) in
      let all = ends_by_tags ms in
      let each : (t : Feed) → count_by is_end (items_of t ms) ≡ 1 = elim [ A ↦ omega arith | B ↦ omega arith | S ↦ omega arith ] in each tag

  -- nothing stands behind an end
  pub nothing_behind : (xs ys : List I) → count_by is_end xs ≡ 1 → EndsLast is_end (xs ++ ys) → xs ++ ys ≡ xs
  nothing_behind [] ys n e = absurd (omega arith)
  nothing_behind (x ∷ []) [] n e = refl
  nothing_behind (x ∷ []) (y ∷ ys) n e =
      elim (is_end x) as (λ b. 0 + cond b 1 0 ≡ 1 → (not b && ends_last is_end (y ∷ ys)) ≡ true → x ∷ y ∷ ys ≡ x ∷ [])
      [ true ↦ λ m d. absurd (true≢false (sym d)) | false ↦ λ m d. absurd (omega (arith, m)) ] n e
  nothing_behind (x ∷ z ∷ xs) ys n e =
      elim (is_end x) as (λ b. cond b 1 0 + count_by is_end (z ∷ xs) ≡ 1 → (not b && ends_last is_end (z ∷ xs ++ ys)) ≡ true
      → x ∷ z ∷ xs ++ ys ≡ x ∷ z ∷ xs) [
        | true ↦ λ m d. absurd (true≢false (sym d))
        | false ↦ λ m d. ap (λ (l : List I). x ∷ l) (nothing_behind (z ∷ xs) ys (omega (arith, m)) d)
      ] (sym (count-cons x (z ∷ xs)) ∙ n) e
