-- Which row goes next.
use Rattle.std.proofs.Common.{◌≡◌, ◌<◌, ℕ, ◌+◌, zero, suc, Bool, true, false, cond, List, [], ◌∷◌, length, set, drop, get_or, refl, sym, ap, ◌∙◌, subst, arith}
use Rattle.std.specs.Prelude.{Option, Some, None, nat_le, slice_get}
use Rattle.mdp_desks.specs.Reports.{Told}
use Rattle.mdp_reports.specs.Rounds.{by_slot, all_by_slot}
use Rattle.mdp_reports.specs.Contents.{slot_first}
use Rattle.mdp_reports.specs.Next.{Place, lesser, least_of, IsNext}

by_slot-nil : (xs : List Told) → by_slot xs [] ≡ xs
by_slot-nil [] = refl
by_slot-nil (x ∷ xs) = refl

-- the row at a place goes next, and what is left is by_slot behind it
pub record GoesNext (lists : List (List Told)) (n slot : ℕ) : Type 0 where
  pub told : Told
  pub rest : List Told
  pub there : slice_get lists n ≡ Some (told ∷ rest)
  pub slot_is : told.slot ≡ slot
  pub next : all_by_slot lists ≡ told ∷ all_by_slot (set lists n rest)

abbrev pub Found : ℕ → List (List Told) → Option Place → Type 0
Found first lists None = all_by_slot lists ≡ []
Found first lists (Some p) = (n : ℕ) × (p.0 ≡ first + n) × GoesNext lists n p.1

by_two : (first : ℕ) (xs : List Told) (rest : List (List Told)) (o : Option Place) → Found (first + 1) rest o → Found first (xs ∷ rest) (lesser first (slot_first xs) o)
by_two first [] rest None is = is
by_two first [] rest (Some p) is =
    let g = is.2 in
    (suc is.0, (let at : p.0 ≡ first + 1 + is.0 = is.1 in omega (arith, at)), record { told = g.told; rest = g.rest; there = g.there; slot_is = g.slot_is; next = g.next })
by_two first (x ∷ xs) rest None is = (
  0,
  omega arith,
  record {
    told = x;
    rest = xs;
    there = refl;
    slot_is = refl;
    next = ap (by_slot (x ∷ xs)) is ∙ ap (λ (l : List Told). x ∷ l) (sym (by_slot-nil xs) ∙ ap (by_slot xs) (sym is));
  },
)
by_two first (x ∷ xs) rest (Some p) is = by_order (nat_le x.slot p.1) refl
  where
    g : GoesNext rest is.0 p.1
    g = is.2

    by_order : (b : Bool) → nat_le x.slot p.1 ≡ b → Found first ((x ∷ xs) ∷ rest) (cond b (Some (first, x.slot)) (Some p))
    by_order true less = (
      0,
      omega arith,
      record {
        told = x;
        rest = xs;
        there = refl;
        slot_is = refl;
        next =
            ap (by_slot (x ∷ xs)) g.next
            ∙ ap (λ (c : Bool). cond c (x ∷ by_slot xs (g.told ∷ all_by_slot (set rest is.0 g.rest))) (g.told ∷ by_slot (x ∷ xs) (all_by_slot (set rest is.0 g.rest)))) (ap (nat_le x.slot) g.slot_is ∙ less)
            ∙ ap (λ (l : List Told). x ∷ by_slot xs l) (sym g.next);
      },
    )
    by_order false more = (
      suc is.0,
      (let at : p.0 ≡ first + 1 + is.0 = is.1 in omega (arith, at)),
      record {
        told = g.told;
        rest = g.rest;
        there = g.there;
        slot_is = g.slot_is;
        next =
            ap (by_slot (x ∷ xs)) g.next
            ∙ ap (λ (c : Bool). cond c (x ∷ by_slot xs (g.told ∷ all_by_slot (set rest is.0 g.rest))) (g.told ∷ by_slot (x ∷ xs) (all_by_slot (set rest is.0 g.rest)))) (ap (nat_le x.slot) g.slot_is ∙ more);
      },
    )

pub found : (first : ℕ) (lists : List (List Told)) → Found first lists (least_of first lists)
found first [] = refl
found first (xs ∷ rest) = by_two first xs rest (least_of (first + 1) rest) (found (first + 1) rest)

-- ---- from the back

pub from_back : (left : List (List Told)) (n : ℕ) (d : List Told) → n < length left → least_of n (drop n left) ≡ lesser n (slot_first (get_or left n d)) (least_of (n + 1) (drop (n + 1) left))
from_back left n d less = at_place n left n d less
  where
    at_place : (place : ℕ) (left : List (List Told)) (n : ℕ) (d : List Told) → n < length left → least_of place (drop n left) ≡ lesser place (slot_first (get_or left n d)) (least_of (place + 1) (drop (n + 1) left))
    at_place place [] n d less = absurd (omega (arith, less))
    at_place place (r ∷ left) zero d less = refl
    at_place place (r ∷ left) (suc n) d less =
        let same : suc n + 1 ≡ suc (n + 1) = omega arith in
        at_place place left n d (omega (arith, less))
        ∙ ap (λ (k : ℕ). lesser place (slot_first (get_or left n d)) (least_of (place + 1) (drop k (r ∷ left)))) (sym same)

pub none_behind : (left : List (List Told)) (n : ℕ) → n ≡ length left → None ≡ least_of n (drop n left)
none_behind left n is = at_place n left n is
  where
    at_place : (place : ℕ) (left : List (List Told)) (n : ℕ) → n ≡ length left → None ≡ least_of place (drop n left)
    at_place place [] zero is = refl
    at_place place [] (suc n) is = refl
    at_place place (r ∷ left) zero is = absurd (omega (arith, is))
    at_place place (r ∷ left) (suc n) is = at_place place left n (omega (arith, is))

-- ---- one row taken

pub row_under : (left : List (List Told)) (n : ℕ) (xs : List Told) → slice_get left n ≡ Some xs → n < length left
row_under [] n xs is = absurd cc
row_under (r ∷ left) zero xs is = omega arith
row_under (r ∷ left) (suc n) xs is = let less = row_under left n xs is in omega (arith, less)

row_at : (left : List (List Told)) (n : ℕ) (d xs : List Told) → slice_get left n ≡ Some xs → get_or left n d ≡ xs
row_at [] n d xs is = absurd cc
row_at (r ∷ left) zero d xs is = cc
row_at (r ∷ left) (suc n) d xs is = row_at left n d xs is

pub next_there : (left : List (List Told)) (o : Option Place) → Found 0 left o → (n slot : ℕ) → o ≡ Some (n, slot) → IsNext left n
next_there left None is n slot same = absurd cc
next_there left (Some p) is n slot same =
    let here : p.0 ≡ n = cc in
    let at : p.0 ≡ 0 + is.0 = is.1 in
    let place : is.0 ≡ n = omega (arith, here, at) in
    let g = is.2 in
    subst (λ (k : ℕ). IsNext left k) place
    (record { less = row_under left is.0 (g.told ∷ g.rest) g.there; told = g.told; rest = g.rest; at = λ d. row_at left is.0 d (g.told ∷ g.rest) g.there; next = g.next })

pub none_there : (left : List (List Told)) (o : Option Place) → Found 0 left o → o ≡ None → all_by_slot left ≡ []
none_there left None is same = is
none_there left (Some p) is same = absurd cc

pub taken : (left : List (List Told)) (n : ℕ) (d new : List Told) (t : Told) → IsNext left n → get_or left n d ≡ t ∷ new → all_by_slot left ≡ t ∷ all_by_slot (set left n new)
taken left n d new t is here =
    let same : is.told ∷ is.rest ≡ t ∷ new = sym (is.at d) ∙ here in
    let first : is.told ≡ t = cc in
    let later : is.rest ≡ new = cc in
    is.next
    ∙ ap (λ (x : Told). x ∷ all_by_slot (set left n is.rest)) first
    ∙ ap (λ (l : List Told). t ∷ all_by_slot (set left n l)) later
