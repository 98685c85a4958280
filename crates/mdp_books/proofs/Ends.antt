-- Where the texts of levels end, and ends that are moved.
use Rattle.std.proofs.Common.{◌≡◌, ◌≤◌, ◌<◌, ◌+◌, ◌-◌, ℕ, zero, suc, List, [], ◌∷◌, ◌++◌, take, drop, length, map, get_or, set}
use Rattle.std.proofs.Common.{refl, sym, ap, ◌∙◌, subst, arith, length-append, length-take-le, length-drop}
use Rattle.std.specs.List.{All, refill}
use Rattle.std.proofs.lemmas.List.{append_assoc, take-append-drop, take_at, drop_at, get_or-drop, drop-drop, drop-set-lt, take_more_set}
use Rattle.std.proofs.lemmas.List.{at_drop_more, at_drop_all}
use Rattle.std.proofs.lemmas.List.Folds.{map_fixed}
use Rattle.mdp_templates.specs.declared.entry.Level.{Level}
use Rattle.mdp_books.specs.Levels.{quote_text, levels_text, ends_from}

abbrev text : Level → List ℕ
text x = quote_text x.price x.size

abbrev pub measure : Level → ℕ
measure x = length (quote_text x.price x.size)

-- where the text of the level at a place begins: behind the texts before it
abbrev pub begins : ℕ → List Level → ℕ
begins at xs = length (levels_text (take at xs))

-- where an end is once it was moved
abbrev pub moved : ℕ → ℕ → ℕ → ℕ
moved less more end = end - less + more

-- each level has an end
pub count_from : (start : ℕ) (xs : List Level) → length (ends_from start xs) ≡ length xs
count_from start [] = refl
count_from start (x ∷ xs) = ap suc (count_from (start + measure x) xs)

-- those before a place and those from it on are the ends of the levels there
pub take-ends : (at start : ℕ) (xs : List Level) → take at (ends_from start xs) ≡ ends_from start (take at xs)
take-ends zero start xs = refl
take-ends (suc at) start [] = refl
take-ends (suc at) start (x ∷ xs) = ap (λ es. (start + measure x) ∷ es) (take-ends at (start + measure x) xs)

pub drop-ends : (at start there : ℕ) (xs : List Level) → there ≡ start + begins at xs
    → drop at (ends_from start xs) ≡ ends_from there (drop at xs)
drop-ends zero start there xs is = let same : start ≡ there = omega (arith, is) in ap (λ n. ends_from n xs) same
drop-ends (suc at) start there [] is = refl
drop-ends (suc at) start there (x ∷ xs) is =
    drop-ends at (start + measure x) there xs (omega (arith, is, length-append (text x) (levels_text (take at xs))))

pub append-ends : (start there : ℕ) (xs ys : List Level) → there ≡ start + length (levels_text xs)
    → ends_from start (xs ++ ys) ≡ ends_from start xs ++ ends_from there ys
append-ends start there [] ys is = let same : start ≡ there = omega (arith, is) in ap (λ n. ends_from n ys) same
append-ends start there (x ∷ xs) ys is =
    let more = length-append (text x) (levels_text xs) in
    ap (λ es. (start + measure x) ∷ es) (append-ends (start + measure x) there xs ys (omega (arith, is, more)))

-- where a level ends, the next one begins
pub end_at : (at start d : ℕ) (xs : List Level) → at < length xs → get_or (ends_from start xs) at d ≡ start + begins (suc at) xs
end_at at start d [] inside = absurd (omega arith)
end_at zero start d (x ∷ xs) inside = omega (arith, length-append (text x) [])
end_at (suc at) start d (x ∷ xs) inside =
    omega (arith, end_at at (start + measure x) d xs (omega arith), length-append (text x) (levels_text (take (suc at) xs)))

-- ends that are moved are those of the levels from another place on
pub move-ends : (less more start there : ℕ) (xs : List Level) → less ≤ start → there ≡ moved less more start
    → map (moved less more) (ends_from start xs) ≡ ends_from there xs
move-ends less more start there [] low is = refl
move-ends less more start there (x ∷ xs) low is =
    let end : moved less more (start + measure x) ≡ there + measure x = omega (arith, is) in
    ap (λ n. n ∷ map (moved less more) (ends_from (start + measure x) xs)) end
    ∙ ap (λ es. (there + measure x) ∷ es) (move-ends less more (start + measure x) (there + measure x) xs (omega arith) (sym end))

-- an end from a place on, of a text with room for 440 bytes
pub record IsEndBehind (first end : ℕ) : Type 0 where
  pub low : first ≤ end
  pub high : end ≤ 440

-- The ends from a place on gave way to these, which may be moved.
pub record CanMove (at less more : ℕ) (ends : List ℕ) : Type 0 where
  pub inside : at ≤ length ends
  pub enough : All (λ end. less ≤ end) (drop at ends)
  pub room : All (λ end. end + more < 65536) (drop at ends)

module _ (at less more : ℕ) (ends rest changed : List ℕ) (inside : at ≤ length ends) (is : changed ≡ take at ends ++ rest) where
  behind_is : drop at changed ≡ rest
  behind_is = ap (drop at) is ∙ drop_at (take at ends) rest at (length-take-le at ends inside)

  pub can_move : (first : ℕ) → All (IsEndBehind first) rest → less ≤ first → more ≤ 44 → CanMove at less more changed
  can_move first bounds low short = record {
    inside = omega (arith, ap length is, length-append (take at ends) rest, length-take-le at ends inside);
    enough = rw behind_is (λ k d h. let b = bounds k d h in omega (arith, b.low));
    room = rw behind_is (λ k d h. let b = bounds k d h in omega (arith, b.high));
  }

  pub moved_behind : (new : List ℕ) → new ≡ take at changed ++ map (moved less more) (drop at changed)
      → new ≡ take at ends ++ map (moved less more) rest
  moved_behind new moves =
      moves ∙ ap (λ es. take at es ++ map (moved less more) (drop at changed)) is
      ∙ ap (λ es. es ++ map (moved less more) (drop at changed)) (take_at (take at ends) rest at (length-take-le at ends inside))
      ∙ ap (λ es. take at ends ++ map (moved less more) es) behind_is

-- what holds of the ends that were to be moved holds of the next one, as long as those from it on are as they were
pub next_is : (P : ℕ → Type 0) (from n : ℕ) (now lent old : List ℕ) → All P (drop from old) → from ≤ n → n < length lent
    → drop n now ≡ drop n lent → lent ≡ old → P (get_or now n 0)
next_is P from n now lent old all order inside left same =
    let there : from + (n - from) ≡ n + 0 = omega arith in
    let here : n + 0 ≡ n = omega arith in
    let place : get_or (drop from old) (n - from) 0 ≡ get_or now n 0 =
    get_or-drop from old (n - from) 0 ∙ ap (λ k. get_or old k 0) there ∙ sym (get_or-drop n old 0 0)
    ∙ ap (λ es. get_or es 0 0) (sym (left ∙ ap (drop n) same)) ∙ get_or-drop n now 0 0 ∙ ap (λ k. get_or now k 0) here in
    subst P place (all (n - from) 0 (omega (arith, length-drop from old, ap length same)))

pub left_behind : (n e : ℕ) (now lent : List ℕ) → drop n now ≡ drop n lent → drop (n + 1) (set now n e) ≡ drop (n + 1) lent
left_behind n e now lent left = drop-set-lt (n + 1) now n e (omega arith) ∙ sym (drop-drop 1 n now) ∙ ap (drop 1) left ∙ drop-drop 1 n lent

module _ (less more : ℕ) where
  -- what is there once the ends from a place on are moved
  abbrev pub move_from : ℕ → List ℕ → List ℕ
  move_from n es = take n es ++ map (moved less more) (drop n es)

  pub one_moved : (n : ℕ) (es : List ℕ) → n < length es → move_from (n + 1) (set es n (moved less more (get_or es n 0))) ≡ move_from n es
  one_moved n es inside =
      let e = moved less more (get_or es n 0) in
      ap (λ ys. ys ++ map (moved less more) (drop (n + 1) (set es n e))) (take_more_set es n e inside)
      ∙ ap (λ ys. (take n es ++ e ∷ []) ++ map (moved less more) ys) (drop-set-lt (n + 1) es n e (omega arith))
      ∙ append_assoc (take n es) (e ∷ []) (map (moved less more) (drop (n + 1) es))
      ∙ sym (at_drop_more (λ ys. take n es ++ map (moved less more) ys) es n 0 inside)

  -- a list that is written back whole, and of which nothing is left to be moved
  pub none_left : (n size : ℕ) (old now : List ℕ) → length now ≡ size → size ≤ n → refill size old now ≡ move_from n now
  none_left n size old now same past =
      take_at now (drop (length now) old) size same ∙ sym (take-append-drop n now)
      ∙ at_drop_all (λ es. take n now ++ es) now n (omega (arith, same, past))
      ∙ sym (at_drop_all (λ es. take n now ++ map (moved less more) es) now n (omega (arith, same, past)))

  -- by as much down as up
  pub all_stay : (from : ℕ) (es : List ℕ) → less ≡ more → All (λ end. less ≤ end) (drop from es) → es ≡ move_from from es
  all_stay from es same low =
      let fixed = map_fixed (moved less more) (drop from es) (λ k d h. omega (arith, same, low k d h)) in
      sym (ap (λ ys. take from es ++ ys) fixed ∙ take-append-drop from es)
