-- The texts of merged totals, part by part.
use Rattle.std.proofs.Common.{◌≡◌, ℕ, ◌+◌, ◌-◌, ◌<◌, ◌≤◌, List, [], ◌∷◌, ◌++◌, take, drop, length, refl, sym, ap, ◌∙◌, append_assoc, append-nil, length-append, arith}
use Rattle.std.specs.Prelude.{Bool, true, false, suc, Option, Some, None, if◌then◌else◌, map, get_or, slice_get}
use Rattle.std.specs.Ordering.{int_eq}
use Rattle.std.proofs.Math.Seq.{drop-cons}
use Rattle.std.proofs.lemmas.List.{take_rest, drop_all, drop-drop}
use Rattle.std.proofs.lemmas.Grind.{flat_map-append}
use Rattle.mdp_templates.specs.declared.entry.Level.{Level}
use Rattle.mdp_quotes.specs.declared.total.Total.{Total}
use Rattle.mdp_quotes.specs.declared.total.Way.{Way}
use Rattle.mdp_quotes.specs.Entering.{total_of, with}
use Rattle.mdp_quotes.specs.Merged.{ahead_of, is_at_price, merged, passed_by, total_with, totals_to}
use Rattle.mdp_books.specs.Levels.{quote_text, levels_text}
use Rattle.mdp_print.specs.Texts.{totals_text}

-- levels print as their own totals do
pub printed_alone : (xs : List Level) → totals_text (map total_of xs) ≡ levels_text xs
printed_alone [] = refl
printed_alone (x ∷ xs) = ap (λ ys. quote_text x.price x.size ++ ys) (printed_alone xs)

pub texts_joined : (ts us : List Total) → totals_text (ts ++ us) ≡ totals_text ts ++ totals_text us
texts_joined ts us = flat_map-append (λ total. quote_text total.price total.size) ts us

-- the text up to an implied level
pub text_to :
    (way : Way) (x : Level) (direct : List Level) (t : Total) → t ≡ total_with x (slice_get direct (ahead_of way x direct))
    → totals_text (totals_to way x direct) ≡ levels_text (take (ahead_of way x direct) direct) ++ quote_text t.price t.size
text_to way x direct t is =
    texts_joined (map total_of (take (ahead_of way x direct) direct)) (total_with x (slice_get direct (ahead_of way x direct)) ∷ [])
    ∙ ap (λ ys. ys ++ totals_text (total_with x (slice_get direct (ahead_of way x direct)) ∷ [])) (printed_alone (take (ahead_of way x direct) direct))
    ∙ ap (λ (u : Total). levels_text (take (ahead_of way x direct) direct) ++ totals_text (u ∷ [])) (sym is)
    ∙ ap (λ ys. levels_text (take (ahead_of way x direct) direct) ++ ys) (append-nil (quote_text t.price t.size))

-- what is left of a merge at an implied level: the totals up to it, and what is left behind it
pub merged_on : (way : Way) (direct : List Level) (x : Level) (implied : List Level) → totals_text (merged way direct (x ∷ implied)) ≡ totals_text (totals_to way x direct) ++ totals_text (merged way (drop (passed_by way x direct) direct) implied)
merged_on way direct x implied = texts_joined (totals_to way x direct) (merged way (drop (passed_by way x direct) direct) implied)

-- after one more part what is there and what is left are still the whole
pub parts_on : (old new part left all : List ℕ) → new ≡ old ++ part → old ++ (part ++ left) ≡ all → new ++ left ≡ all
parts_on old new part left all more so_far = ap (λ ys. ys ++ left) more ∙ append_assoc old part left ∙ so_far

-- what is put up to an implied level, behind levels that were passed
pub put_is :
    (way : Way) (x : Level) (direct lent : List Level) (passed n : ℕ) (t : Total) (run : List ℕ) → lent ≡ direct
    → n ≡ ahead_of way x (take (length lent - passed) (drop passed lent))
    → t ≡ total_with x (slice_get (take (length lent - passed) (drop passed lent)) n)
    → run ≡ levels_text (take ((passed + n) - passed) (drop passed direct))
    → totals_text (totals_to way x (drop passed direct)) ≡ run ++ quote_text t.price t.size
put_is way x direct lent passed n t run same ahead total is =
    let rest : take (length lent - passed) (drop passed lent) ≡ drop passed direct = take_rest lent passed ∙ ap (drop passed) same in
    let so_many : n ≡ ahead_of way x (drop passed direct) = ahead ∙ ap (ahead_of way x) rest in
    let with_it : t ≡ total_with x (slice_get (drop passed direct) (ahead_of way x (drop passed direct))) =
    total ∙ ap (λ ys. total_with x (slice_get ys n)) rest ∙ ap (λ m. total_with x (slice_get (drop passed direct) m)) so_many in
    let counted : (passed + n) - passed ≡ n = omega arith in
    let before : run ≡ levels_text (take (ahead_of way x (drop passed direct)) (drop passed direct)) =
    is ∙ ap (λ m. levels_text (take m (drop passed direct))) (counted ∙ so_many) in
    text_to way x (drop passed direct) t with_it ∙ ap (λ ys. ys ++ quote_text t.price t.size) (sym before)

-- a level with none at its price stays alone
alone_if : (x y : Level) (n : ℕ) (same : Bool) → (if same then suc n else n) ≡ n → (if same then with x (total_of y) else total_of x) ≡ total_of x
alone_if x y n true none = absurd (omega (arith, none))
alone_if x y n false none = refl

alone_at : (x : Level) (n : ℕ) (beside : Option Level) → (if is_at_price x beside then suc n else n) ≡ n → total_with x beside ≡ total_of x
alone_at x n None none = refl
alone_at x n (Some y) none = alone_if x y n (int_eq y.price x.price) none

-- where no direct level is passed at its price, its total has its own text
pub put_alone :
    (way : Way) (x : Level) (ys : List Level) (ahead passed : ℕ) (t : Total) → ahead ≡ ahead_of way x ys → passed ≡ passed_by way x ys
    → t ≡ total_with x (slice_get ys ahead) → passed ≡ ahead → quote_text x.price x.size ≡ quote_text t.price t.size
put_alone way x ys ahead passed t first all is none =
    let same : t ≡ total_with x (slice_get ys (ahead_of way x ys)) = is ∙ ap (λ n. total_with x (slice_get ys n)) first in
    let only = alone_at x (ahead_of way x ys) (slice_get ys (ahead_of way x ys)) (sym all ∙ none ∙ first) in
    sym (ap (λ (u : Total). quote_text u.price u.size) (same ∙ only))

-- an implied level where it stands, and its text
pub record StandsAt (n : ℕ) (xs : List Level) (x : Level) : Type 0 where
  pub first : drop n xs ≡ x ∷ drop (n + 1) xs
  pub text : levels_text (take ((n + 1) - n) (drop n xs)) ≡ quote_text x.price x.size

pub stands_at : (n : ℕ) (lent xs : List Level) (d : Level) → lent ≡ xs → n < length lent → StandsAt n xs (get_or lent n d)
stands_at n lent xs d same inside =
    let x = get_or lent n d in
    let next : suc n ≡ n + 1 = omega arith in
    let one : (n + 1) - n ≡ 1 = omega arith in
    let first : drop n xs ≡ x ∷ drop (n + 1) xs = ap (drop n) (sym same) ∙ drop-cons lent n d inside ∙ ap (λ ys. x ∷ drop (suc n) ys) same ∙ ap (λ k. x ∷ drop k xs) next in
    record {
      first = first;
      text = ap (λ k. levels_text (take k (drop n xs))) one ∙ ap (λ ys. levels_text (take 1 ys)) first ∙ append-nil (quote_text x.price x.size);
    }

-- what is left of a merge at the implied level there: the totals up to it, and what is left behind it
pub left_at :
    (way : Way) (direct implied : List Level) (passed next n : ℕ) (x : Level) → StandsAt n implied x → next ≡ passed + passed_by way x (drop passed direct)
    → totals_text (merged way (drop passed direct) (drop n implied))
    ≡ totals_text (totals_to way x (drop passed direct)) ++ totals_text (merged way (drop next direct) (drop (n + 1) implied))
left_at way direct implied passed next n x at is =
    let rest = drop (n + 1) implied in
    let behind : drop (passed_by way x (drop passed direct)) (drop passed direct) ≡ drop next direct = drop-drop (passed_by way x (drop passed direct)) passed direct ∙ ap (λ k. drop k direct) (sym is) in
    ap (λ xs. totals_text (merged way (drop passed direct) xs)) at.first
    ∙ merged_on way (drop passed direct) x rest
    ∙ ap (λ ds. totals_text (totals_to way x (drop passed direct)) ++ totals_text (merged way ds rest)) behind

pub lengths_at :
    (way : Way) (direct implied : List Level) (passed next n : ℕ) (x : Level) → StandsAt n implied x → next ≡ passed + passed_by way x (drop passed direct)
    → length (totals_text (merged way (drop passed direct) (drop n implied)))
    ≡ length (totals_text (totals_to way x (drop passed direct))) + length (totals_text (merged way (drop next direct) (drop (n + 1) implied)))
lengths_at way direct implied passed next n x at is =
    ap length (left_at way direct implied passed next n x at is)
    ∙ length-append (totals_text (totals_to way x (drop passed direct))) (totals_text (merged way (drop next direct) (drop (n + 1) implied)))

-- what is put behind the last implied level
pub last_is :
    (way : Way) (direct implied : List Level) (passed n all : ℕ) (run : List ℕ) → length implied ≤ n → all ≡ length direct
    → run ≡ levels_text (take (all - passed) (drop passed direct)) → totals_text (merged way (drop passed direct) (drop n implied)) ≡ run
last_is way direct implied passed n all run ended every is =
    ap (λ xs. totals_text (merged way (drop passed direct) xs)) (drop_all n implied ended)
    ∙ printed_alone (drop passed direct)
    ∙ sym (is ∙ ap (λ m. levels_text (take (m - passed) (drop passed direct))) every ∙ ap levels_text (take_rest direct passed))
