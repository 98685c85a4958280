-- The pieces that a group's entries are.
use Rattle.std.proofs.Common.{◌≡◌, ℕ, zero, suc, ◌+◌, ◌*◌, ◌<◌, ◌≤◌, List, ◌++◌, take, drop, length, Some, refl, sym, ap, ◌∙◌, arith}
use Rattle.std.specs.Prelude.{slice_get, slice_index, All}
use Rattle.std.proofs.Math.Nat.{mul-le-mul_right}
use Rattle.std.specs.List.{concat}
use Rattle.std.proofs.lemmas.List.{drop-drop, length-drop, length-take-le, take-append-drop, append_assoc}
use Rattle.std.proofs.lemmas.List.Elements.{All-nil, All-cons, All-weaker}
use Rattle.mdp_sbe.specs.Group.{pieces, IsGroup}
use Rattle.mdp_sbe.specs.Number.{number_at}

pub length-pieces : (count size : ℕ) (bytes : List ℕ) → length (pieces count size bytes) ≡ count
unfolding pieces
length-pieces zero size bytes = refl
length-pieces (suc count) size bytes = ap suc (length-pieces count size (drop size bytes))

-- the n-th piece stands behind n pieces
pub slice_get-pieces : (count size n : ℕ) (bytes : List ℕ) → n < count → slice_get (pieces count size bytes) n ≡ Some (take size (drop (n * size) bytes))
unfolding pieces
slice_get-pieces zero size n bytes below = absurd (omega arith)
slice_get-pieces (suc count) size zero bytes below =
    let none : 0 ≡ 0 * size = omega arith in
    ap (λ (start : ℕ). Some (take size (drop start bytes))) none
slice_get-pieces (suc count) size (suc n) bytes below =
    let start : size + n * size ≡ suc n * size = omega arith in
    slice_get-pieces count size n (drop size bytes) (omega arith)
    ∙ ap (λ (rest : List ℕ). Some (take size rest)) (drop-drop (n * size) size bytes ∙ ap (λ (i : ℕ). drop i bytes) start)

-- a piece lies inside the bytes of all
pub piece_fits : (n count size bytes : ℕ) → n < count → count * size ≤ bytes → n * size + size ≤ bytes
piece_fits n count size bytes below fits =
    let so_far : (n + 1) * size ≤ count * size = mul-le-mul_right size (omega arith) in
    omega (arith, so_far)

-- the pieces and what stands behind them are the whole
pub concat-pieces : (count size : ℕ) (bytes : List ℕ) → bytes ≡ concat (pieces count size bytes) ++ drop (count * size) bytes
unfolding pieces
concat-pieces zero size bytes = let none : 0 * size ≡ 0 = omega arith in rw none refl
concat-pieces (suc count) size bytes =
    let others : List ℕ = concat (pieces count size (drop size bytes)) in
    let total : size + count * size ≡ suc count * size = omega arith in
    let behind : drop (count * size) (drop size bytes) ≡ drop (suc count * size) bytes = drop-drop (count * size) size bytes ∙ ap (λ (i : ℕ). drop i bytes) total in
    let rest : drop size bytes ≡ others ++ drop (suc count * size) bytes = concat-pieces count size (drop size bytes) ∙ ap (λ (b : List ℕ). others ++ b) behind in
    sym (take-append-drop size bytes) ∙ ap (λ (b : List ℕ). take size bytes ++ b) rest ∙ sym (append_assoc (take size bytes) others (drop (suc count * size) bytes))

abbrev IsPiece : ℕ → ℕ → List ℕ → Type 0
IsPiece size least entry = (length entry ≡ size) × (least ≤ length entry)

all_whole : (count size least : ℕ) (bytes : List ℕ) → (0 < count → least ≤ size) → count * size ≤ length bytes → All (IsPiece size least) (pieces count size bytes)
unfolding pieces
all_whole zero size least bytes wide fits = All-nil (IsPiece size least)
all_whole (suc count) size least bytes wide fits =
    let total : suc count * size ≡ size + count * size = omega arith in
    let front : length (take size bytes) ≡ size = length-take-le size bytes (omega (arith, total)) in
    let others : count * size ≤ length (drop size bytes) = simp length-drop (omega (arith, total)) in
    let least_fits : least ≤ size = wide (omega arith) in
    All-cons (IsPiece size least) (take size bytes) (pieces count size (drop size bytes)) (front, rw front least_fits) (all_whole count size least (drop size bytes) (λ _. least_fits) others)

-- the pieces that a dimension states are a group, where they fit
pub is_group : (rest : List ℕ) (least size count : ℕ) (bytes : List ℕ) → bytes ≡ drop 3 rest → 3 ≤ length rest → size ≡ number_at 0 2 rest → count ≡ slice_index rest 2 → (0 < count → least ≤ size) → count * size ≤ length bytes → IsGroup rest least (pieces count size bytes)
is_group rest least size count bytes behind long size_is count_is wide fits =
    record {
      after = drop (count * size) bytes;
      long = long;
      count = length-pieces count size bytes ∙ count_is;
      each = All-weaker (IsPiece size least) (IsPiece (number_at 0 2 rest) least) (λ entry whole. (whole.0 ∙ size_is, whole.1)) (pieces count size bytes) (all_whole count size least bytes wide fits);
      whole = sym behind ∙ concat-pieces count size bytes;
    }
