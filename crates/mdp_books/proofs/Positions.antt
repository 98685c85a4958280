-- What a side is after an action.
use Rattle.std.proofs.Common.{◌≡◌, ◌≢◌, ℕ, zero, suc, ◌+◌, ◌-◌, ◌<◌, ◌≤◌, min, List, [], ◌∷◌, ◌++◌, take, drop, length, Some, true, refl, sym, ap, ◌∙◌, arith}
use Rattle.std.specs.Prelude.{insert, remove, FitsSigned}
use Rattle.std.specs.Int.{w32}
use Rattle.std.proofs.lemmas.List.{length-take, length-append, take_all, drop_all}
use Rattle.std.proofs.lemmas.List.Elements.{All-append, All-cons, All-take, All-drop, All-push}
use Rattle.std.proofs.lemmas.List.Edits.{length-insert, length-remove}
use Rattle.std.proofs.lemmas.Bool.Decides.{nat_tests}
use Rattle.mdp_templates.specs.declared.entry.Level.{Level}
use Rattle.mdp_books.specs.Side.{SideContent, after_new, is_position, HaveSizes, IsSide}

-- what falls past the depth may go before the new level comes
insert_below : (i m : ℕ) (x : Level) (side : List Level) → i ≤ m → insert (take m side) i x ≡ take (suc m) (insert side i x)
insert_below zero m x side h = refl
insert_below (suc i) zero x side h = absurd (omega arith)
insert_below (suc i) (suc m) x [] h = refl
insert_below (suc i) (suc m) x (y ∷ side) h = ap (λ (s : List Level). y ∷ s) (insert_below i m x side (omega arith))

position : (last n : ℕ) → n ≢ 0 → n ≤ last → is_position last n ≡ true
position last n some most = grind (arith, nat_tests)

-- a side of this depth and these levels
abbrev pub side_of : ℕ → List Level → SideContent
side_of depth levels = record { depth = depth; levels = levels }

-- a new level comes in where the levels that stay leave room for it
pub new_is : (depth n : ℕ) (x : Level) (levels : List Level) → n ≢ 0 → n ≤ length levels + 1 → n ≤ depth → after_new n x (side_of depth levels) ≡ Some (side_of depth (insert (take (depth - 1) levels) (n - 1) x))
new_is depth n x levels some near deep =
    let one : suc (depth - 1) ≡ depth = omega arith in
    let same : insert (take (depth - 1) levels) (n - 1) x ≡ take depth (insert levels (n - 1) x) =
    insert_below (n - 1) (depth - 1) x levels (omega arith) ∙ ap (λ (m : ℕ). take m (insert levels (n - 1) x)) one in
    rw (position (min (length levels + 1) depth) n some (omega arith)) (ap (λ (xs : List Level). Some (side_of depth xs)) (sym same))

pub side_insert : (capacity depth n : ℕ) (x : Level) (levels : List Level) → FitsSigned w32 x.size → IsSide capacity (side_of depth levels) → n ≢ 0 → n ≤ length levels + 1 → n ≤ depth → IsSide capacity (side_of depth (insert (take (depth - 1) levels) (n - 1) x))
side_insert capacity depth n x levels size is some near deep =
    let kept = take (depth - 1) levels in
    let sizes : HaveSizes kept = All-take (λ (y : Level). FitsSigned w32 y.size) (depth - 1) levels is.sizes in
    record {
      few = omega (arith, length-insert kept (n - 1) x, length-take (depth - 1) levels);
      deep = is.deep;
      sizes = All-append (λ (y : Level). FitsSigned w32 y.size) (take (n - 1) kept) (x ∷ drop (n - 1) kept)
          (All-take (λ (y : Level). FitsSigned w32 y.size) (n - 1) kept sizes)
          (All-cons (λ (y : Level). FitsSigned w32 y.size) x (drop (n - 1) kept) size (All-drop (λ (y : Level). FitsSigned w32 y.size) (n - 1) kept sizes));
    }

pub side_remove : (capacity depth at : ℕ) (levels : List Level) → IsSide capacity (side_of depth levels) → at < length levels → IsSide capacity (side_of depth (remove levels at))
side_remove capacity depth at levels is inside = record {
  few = omega (arith, length-remove levels at inside, is.few);
  deep = is.deep;
  sizes = All-append (λ (y : Level). FitsSigned w32 y.size) (take at levels) (drop (suc at) levels)
      (All-take (λ (y : Level). FitsSigned w32 y.size) at levels is.sizes)
      (All-drop (λ (y : Level). FitsSigned w32 y.size) (suc at) levels is.sizes);
}

pub side_push : (capacity depth : ℕ) (levels : List Level) (x : Level) → FitsSigned w32 x.size → IsSide capacity (side_of depth levels) → length levels < depth → IsSide capacity (side_of depth (levels ++ x ∷ []))
side_push capacity depth levels x size is room = record {
  few = omega (arith, length-append levels (x ∷ []));
  deep = is.deep;
  sizes = All-push (λ (y : Level). FitsSigned w32 y.size) levels x is.sizes size;
}

-- a level that comes in where the levels end stands behind the last
pub insert_at_end : (n : ℕ) (levels : List Level) (x : Level) → n ≡ length levels → insert levels n x ≡ levels ++ x ∷ []
insert_at_end n levels x end =
    let front = take_all n levels (omega (arith, end)) in
    let behind = drop_all n levels (omega (arith, end)) in
    ap (λ ys. ys ++ (x ∷ drop n levels)) front ∙ ap (λ ys. levels ++ (x ∷ ys)) behind
