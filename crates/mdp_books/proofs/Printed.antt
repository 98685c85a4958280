-- Levels with their text and its ends, and what is so again after some levels gave way to others.
use Rattle.std.proofs.Common.{◌≡◌, ◌≤◌, ◌<◌, ◌+◌, ◌-◌, ◌*◌, ℕ, zero, suc, List, [], ◌∷◌, ◌++◌, take, drop, length, map, get_or}
use Rattle.std.proofs.Common.{refl, sym, ap, ◌∙◌, arith, append-nil, length-append, length-take-le, length-drop}
use Rattle.std.specs.Prelude.{slice_set}
use Rattle.std.specs.List.{All, splice, sum_by}
use Rattle.std.proofs.Math.Seq.{drop-append_seam, take-append_seam}
use Rattle.std.proofs.lemmas.List.{take-take, take-append-drop, drop_all, drop-take, get_or-drop}
use Rattle.std.proofs.lemmas.List.Sums.{sum_by-take-drop, sum_by-cons}
use Rattle.std.proofs.lemmas.List.Concat.{length-flat_map}
use Rattle.std.proofs.lemmas.List.Elements.{All-append, All-cons, All-take, All-drop}
use Rattle.std.proofs.lemmas.Grind.{flat_map-append}
use Rattle.mdp_templates.specs.declared.entry.Level.{Level}
use Rattle.mdp_books.specs.Levels.{quote_text, levels_text, ends_from, ArePrinted}
use Rattle.mdp_books.proofs.Ends.{measure, begins, moved, count_from, take-ends, drop-ends, append-ends, end_at, move-ends, IsEndBehind}

abbrev text : Level → List ℕ
text x = quote_text x.price x.size

abbrev IsShort : Level → Type 0
IsShort x = length (quote_text x.price x.size) ≤ 44

-- an item in the place of another stands between those before and those behind
pub set_between : {A : Type 0} (xs : List A) (at : ℕ) (x : A) → at < length xs → slice_set xs at x ≡ take at xs ++ (x ∷ drop (suc at) xs)
set_between [] at x inside = absurd (omega arith)
set_between (y ∷ xs) zero x inside = refl
set_between (y ∷ xs) (suc at) x inside = ap (λ ys. y ∷ ys) (set_between xs at x (omega arith))

-- behind the last nothing is left
pub none_behind : {A : Type 0} (count all : ℕ) (xs : List A) → all ≡ length xs → take count xs ≡ take count xs ++ ([] ++ drop all xs)
none_behind count all xs last = sym (ap (λ ys. take count xs ++ ([] ++ ys)) (drop_all all xs (omega (arith, last))) ∙ append-nil (take count xs))

pub one_is_short : (x : Level) → length (quote_text x.price x.size) ≤ 44 → All (λ (y : Level). length (quote_text y.price y.size) ≤ 44) (x ∷ [])
one_is_short x short = All-cons IsShort x [] short (λ k d inside. absurd (omega arith))

-- what was put in front of nothing is a level's text, and short
pub record IsTextOf (x : Level) (text : List ℕ) : Type 0 where
  pub says : text ≡ quote_text x.price x.size ++ []
  pub only : text ≡ quote_text x.price x.size
  pub short : length (quote_text x.price x.size) ≤ 44

pub put_alone : (x : Level) (start put : List ℕ) → start ≡ [] → put ≡ quote_text x.price x.size ++ start → length put ≤ 44 + length start → IsTextOf x put
put_alone x start put nothing is most =
    let says : put ≡ quote_text x.price x.size ++ [] = is ∙ ap (λ ys. quote_text x.price x.size ++ ys) nothing in
    let only : put ≡ quote_text x.price x.size = says ∙ append-nil (quote_text x.price x.size) in
    record {
      says = says;
      only = only;
      short = omega (arith, ap length only, ap length nothing, most);
    }

pub none_is_long : All (λ (y : Level). length (quote_text y.price y.size) ≤ 44) []
none_is_long k d inside = absurd (omega arith)

-- short texts are together at most 44 bytes a level
at_most : (xs : List Level) → All IsShort xs → sum_by measure xs ≤ 44 * length xs
at_most [] short = omega arith
at_most (x ∷ xs) short = omega (arith, sum_by-cons measure x xs, short zero x (omega arith), at_most xs (λ k d h. short (suc k) d (omega arith)))

halves : (at : ℕ) (xs : List Level) → levels_text xs ≡ levels_text (take at xs) ++ levels_text (drop at xs)
halves at xs = ap levels_text (sym (take-append-drop at xs)) ∙ flat_map-append text (take at xs) (drop at xs)

-- the text of the first levels is the front of the whole
front_text : (at : ℕ) (xs : List Level) → take (length (levels_text (take at xs))) (levels_text xs) ≡ levels_text (take at xs)
front_text at xs = ap (take (length (levels_text (take at xs)))) (halves at xs) ∙ take-append_seam (levels_text (take at xs)) (levels_text (drop at xs))

-- and that of the others is what stands behind it
back_text : (at : ℕ) (xs : List Level) → drop (length (levels_text (take at xs))) (levels_text xs) ≡ levels_text (drop at xs)
back_text at xs = ap (drop (length (levels_text (take at xs)))) (halves at xs) ∙ drop-append_seam (levels_text (take at xs)) (levels_text (drop at xs))

-- two places within a text, in order
pub record AreWithin (from to : ℕ) (text : List ℕ) : Type 0 where
  pub order : from ≤ to
  pub inside : to ≤ length text

-- The levels from i on and below j gave way to these, and their text to the text of these, and the ends behind moved along.
pub record GaveWay (i j less more : ℕ) (xs new next : List Level) (ends moves text piece final : List ℕ) : Type 0 where
  pub levels : next ≡ take i xs ++ (new ++ drop j xs)
  pub gone : begins i xs + less ≡ begins j xs
  pub come : more ≡ length piece
  pub ended : moves ≡ take i ends ++ (ends_from (begins i xs) new ++ map (moved less more) (drop j ends))
  pub bytes : final ≡ splice text (begins i xs) (begins j xs) piece
  pub says : piece ≡ levels_text new
  pub short : All (λ x. length (quote_text x.price x.size) ≤ 44) new

module _ {capacity : ℕ} {xs : List Level} {ends text : List ℕ} (is : ArePrinted capacity xs ends text) where
  pub count_of_ends : length ends ≡ length xs
  count_of_ends = ap length is.ended ∙ count_from 0 xs

  pub within : (i j : ℕ) → i ≤ j → j ≤ length xs → AreWithin (begins i xs) (begins j xs) text
  within i j order inside =
      let first = length-flat_map (λ x. quote_text x.price x.size) (take i xs) in
      let last = length-flat_map (λ x. quote_text x.price x.size) (take j xs) in
      let whole = ap length is.written ∙ length-flat_map (λ x. quote_text x.price x.size) xs in
      record {
        order = omega (arith, first, last, sum_by-take-drop measure (take j xs) i, ap (sum_by measure) (take-take i j xs order));
        inside = omega (arith, last, whole, sum_by-take-drop measure xs j);
      }

  -- no level begins beyond the text's room
  pub is_low : (at : ℕ) → at ≤ length xs → begins at xs ≤ 440
  is_low at inside =
      let size = length-flat_map (λ x. quote_text x.price x.size) (take at xs) in
      let most = at_most (take at xs) (All-take IsShort at xs is.short) in
      omega (arith, size, most, length-take-le at xs inside, is.small, is.few)

  -- the text has room for so many more levels' texts in the place of those that go
  pub has_room : (i j count : ℕ) (piece : List ℕ) → i ≤ j → j ≤ length xs → length piece ≤ 44 * count
      → i + count + (length xs - j) ≤ capacity → length text + length piece ≤ 440 + (begins j xs - begins i xs)
  has_room i j count piece order inside few left =
      let first = length-flat_map (λ x. quote_text x.price x.size) (take i xs) in
      let last = length-flat_map (λ x. quote_text x.price x.size) (take j xs) in
      let whole = ap length is.written ∙ length-flat_map (λ x. quote_text x.price x.size) xs in
      let before = at_most (take i xs) (All-take IsShort i xs is.short) in
      let behind = at_most (drop j xs) (All-drop IsShort j xs is.short) in
      let ordered = within i j order inside in
      let parts = sum_by-take-drop measure xs j in
      let sizes = length-take-le i xs (omega arith) in
      omega (arith, first, last, whole, before, behind, ordered.order, parts, sizes, length-drop j xs, few, left, is.small)

  pub end_is : (at d : ℕ) → at < length xs → get_or ends at d ≡ begins (at + 1) xs
  end_is at d inside =
      let next : suc at ≡ at + 1 = omega arith in
      ap (λ es. get_or es at d) is.ended ∙ end_at at 0 d xs inside ∙ omega (arith, ap (λ n. begins n xs) next)

  pub ends_behind : (first at : ℕ) → first ≤ at + 1 → All (IsEndBehind (begins first xs)) (drop at ends)
  ends_behind first at order k d inside =
      let there : at + k < length xs = omega (arith, length-drop at ends, inside, count_of_ends) in
      let end = get_or-drop at ends k d ∙ end_is (at + k) d there in
      let bounds = within first (at + k + 1) (omega arith) (omega arith) in
      record {
        low = omega (arith, end, bounds.order);
        high = omega (arith, end, is_low (at + k + 1) (omega arith));
      }

  -- the text of the levels from one place on and below another
  pub part_is : (from to : ℕ) → from ≤ to → to ≤ length xs
      → take (begins to xs - begins from xs) (drop (begins from xs) text) ≡ levels_text (take (to - from) (drop from xs))
  part_is from to order inside =
      let ys = drop from xs in
      let count = to - from in
      let all : from + count ≡ to = omega arith in
      let part : take count ys ≡ drop from (take to xs) = sym (drop-take from count xs) ∙ ap (λ n. drop from (take n xs)) all in
      let both = ap length (halves from (take to xs)) in
      let sizes = length-append (levels_text (take from (take to xs))) (levels_text (drop from (take to xs))) in
      let front = ap (λ zs. length (levels_text zs)) (take-take from to xs order) in
      let size : begins to xs - begins from xs ≡ length (levels_text (take count ys)) =
      omega (arith, both, sizes, front, ap (λ zs. length (levels_text zs)) part) in
      let behind : drop (begins from xs) text ≡ levels_text ys = ap (drop (begins from xs)) is.written ∙ back_text from xs in
      ap (λ n. take n (drop (begins from xs) text)) size ∙ ap (take (length (levels_text (take count ys)))) behind ∙ front_text count ys

  -- after levels gave way to others the ends and the text are again those of the levels
  pub printed_again : {i j less more : ℕ} {new next : List Level} {moves piece final : List ℕ}
      → GaveWay i j less more xs new next ends moves text piece final → i ≤ j → j ≤ length xs → i + length new + (length xs - j) ≤ capacity
      → ArePrinted capacity next moves final
  printed_again {i} {j} {less} {more} {new} {next} {moves} {piece} {final} edit order inside left =
      let kept = take i xs ++ (new ++ drop j xs) in
      let start = begins i xs in
      let there = start + length (levels_text new) in
      let front : take start text ≡ levels_text (take i xs) = ap (take start) is.written ∙ front_text i xs in
      let back : drop (begins j xs) text ≡ levels_text (drop j xs) = ap (drop (begins j xs)) is.written ∙ back_text j xs in
      let whole : levels_text kept ≡ levels_text (take i xs) ++ (levels_text new ++ levels_text (drop j xs)) =
      flat_map-append (λ x. quote_text x.price x.size) (take i xs) (new ++ drop j xs)
      ∙ ap (λ ys. levels_text (take i xs) ++ ys) (flat_map-append (λ x. quote_text x.price x.size) new (drop j xs)) in
      let to : there ≡ moved less more (begins j xs) = omega (arith, edit.gone, edit.come, ap length edit.says) in
      let low : less ≤ begins j xs = omega (arith, edit.gone) in
      let above : take i ends ≡ ends_from 0 (take i xs) = ap (take i) is.ended ∙ take-ends i 0 xs in
      let behind : map (moved less more) (drop j ends) ≡ ends_from there (drop j xs) =
      ap (λ es. map (moved less more) (drop j es)) is.ended ∙ ap (map (moved less more)) (drop-ends j 0 (begins j xs) xs (omega arith))
      ∙ move-ends less more (begins j xs) there (drop j xs) low to in
      let sizes = length-append (take i xs) (new ++ drop j xs) in
      let before = length-take-le i xs (omega arith) in
      let others = All-append IsShort new (drop j xs) edit.short (All-drop IsShort j xs is.short) in
      record {
        small = is.small;
        few = omega (arith, ap length edit.levels, sizes, length-append new (drop j xs), before, length-drop j xs, left);
        ended = edit.ended ∙ ap (λ es. es ++ (ends_from start new ++ map (moved less more) (drop j ends))) above
            ∙ ap (λ es. ends_from 0 (take i xs) ++ (ends_from start new ++ es)) behind
            ∙ ap (λ es. ends_from 0 (take i xs) ++ es) (sym (append-ends start there new (drop j xs) refl))
            ∙ sym (append-ends 0 start (take i xs) (new ++ drop j xs) (omega arith)) ∙ ap (ends_from 0) (sym edit.levels);
        short = rw edit.levels (All-append IsShort (take i xs) (new ++ drop j xs) (All-take IsShort i xs is.short) others);
        written = edit.bytes ∙ ap (λ ys. ys ++ (piece ++ drop (begins j xs) text)) front
            ∙ ap (λ ys. levels_text (take i xs) ++ (ys ++ drop (begins j xs) text)) edit.says
            ∙ ap (λ ys. levels_text (take i xs) ++ (levels_text new ++ ys)) back ∙ sym whole ∙ ap levels_text (sym edit.levels);
      }
