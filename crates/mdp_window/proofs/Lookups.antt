-- A finite map made of a tree's entries has what the tree has.
use Rattle.std.proofs.Common.{◌≡◌, ℕ, suc, cond, List, [], ◌∷◌, refl, ap, Bool, true, false, ltb, eqb, ◌<◌, ◌≤◌, ◌+◌, ◌-◌, arith, inl, inr}
use Rattle.std.proofs.lemmas.Grind.{common_steps}
use Rattle.std.proofs.lemmas.Bool.{ltb-true, le-ltb}
use Rattle.std.proofs.lemmas.Bool.Decides.{eqb_tells, leb_tells}
use Rattle.std.specs.Prelude.{Option, Some, None, max}
use Rattle.std.specs.Ordering.{nat_cmp, is_eq}
use Rattle.std.specs.Map.{lookup}
use Rattle.std.specs.Cmp.{nat_cmp_total}
use Rattle.std.specs.FinMap.{FinMap, get, find, from_entries, get-from_entries, get-empty}
use Rattle.mdp_window.specs.Window.{View, IsInRange, HoldsFrom, HoldsAlso}

find-lookup : {T : Type 0} (es : List (ℕ × T)) (q : ℕ) → find nat_cmp q es ≡ lookup (λ k. is_eq (nat_cmp q k)) es
find-lookup [] q = refl
find-lookup (e ∷ es) q = ap (λ t. cond (is_eq (nat_cmp q e.0)) (Some e.1) t) (find-lookup es q)

-- what the finite map of a tree's entries has at a key
pub get-tree : {T : Type 0} (es : List (ℕ × T)) (q : ℕ) → get (from_entries {R = nat_cmp} es) q ≡ lookup (λ k. is_eq (nat_cmp q k)) es
get-tree es q = rw (get-from_entries nat_cmp_total es q, find-lookup es q) refl

pub ruleset lookups = (get-tree, get-empty)

pub is_eq-nat_cmp : (a b : ℕ) → is_eq (nat_cmp a b) ≡ eqb a b
is_eq-nat_cmp a b = elim (eqb_tells a b) [
  | inl p ↦ rw (le-ltb a b (omega (arith, p.1)), p.0) refl
  | inr p ↦ elim (leb_tells (suc a) b) [ inl q ↦ rw (q.0, p.0) refl | inr q ↦ rw (q.0, p.0) refl ]
]

all_from : {T : Type 0} (b : Bool) (x : Option T) → (b ≡ true → x ≡ None) → x ≡ cond b None x
all_from true x h = h refl
all_from false x h = refl

module _ {T : Type 0} where
  -- what has nothing below a number is what it has from there on
  pub holds_same : (held : FinMap nat_cmp T) (first : ℕ) → ((k : ℕ) → k < first → get held k ≡ None) → HoldsFrom first held held
  holds_same held first none k = all_from (ltb k first) (get held k) (λ below. none k (ltb-true k first below))

  -- all below a number is dropped
  pub holds_from : (es fs : List (ℕ × T)) (first : ℕ)
      → ((k : ℕ) → lookup (λ q. is_eq (nat_cmp k q)) fs ≡ cond (ltb k first) None (lookup (λ q. is_eq (nat_cmp k q)) es))
      → HoldsFrom first (from_entries {R = nat_cmp} es) (from_entries {R = nat_cmp} fs)
  holds_from es fs first e k = rw (get-tree fs k, get-tree es k) (e k)

  case_taken : (k first : ℕ) (x y : Option T) → (k < first → y ≡ None) → x ≡ cond (is_eq (nat_cmp first k)) None y → x ≡ cond (ltb k (first + 1)) None y
  case_taken k first x y below e = grind (arith, common_steps, is_eq-nat_cmp first k)

  -- the entry at the first number is taken out
  pub holds_rest : (es fs : List (ℕ × T)) (first : ℕ) → ((k : ℕ) → k < first → get (from_entries {R = nat_cmp} es) k ≡ None)
      → ((k : ℕ) → lookup (λ q. is_eq (nat_cmp k q)) fs ≡ cond (is_eq (nat_cmp first k)) None (lookup (λ q. is_eq (nat_cmp k q)) es))
      → HoldsFrom (first + 1) (from_entries {R = nat_cmp} es) (from_entries {R = nat_cmp} fs)
  holds_rest es fs first below e k = rw (get-tree fs k) (case_taken k first _ _ (below k) (rw (get-tree es k) (e k)))

  case_put : (k first number : ℕ) (item : T) (x y z : Option T) → y ≡ cond (is_eq (nat_cmp number k)) (Some item) z → x ≡ cond (ltb k first) None y
      → x ≡ cond (ltb k first) None (cond (eqb k number) (Some item) z)
  case_put k first number item x y z e f = grind (arith, common_steps, is_eq-nat_cmp number k)

  -- an entry is put in, and then all below a number is dropped
  pub holds_also : (es fs gs : List (ℕ × T)) (first number : ℕ) (item : T)
      → ((k : ℕ) → lookup (λ q. is_eq (nat_cmp k q)) fs ≡ cond (is_eq (nat_cmp number k)) (Some item) (lookup (λ q. is_eq (nat_cmp k q)) es))
      → ((k : ℕ) → lookup (λ q. is_eq (nat_cmp k q)) gs ≡ cond (ltb k first) None (lookup (λ q. is_eq (nat_cmp k q)) fs))
      → HoldsAlso first number item (from_entries {R = nat_cmp} es) (from_entries {R = nat_cmp} gs)
  holds_also es fs gs first number item e f k = rw (get-tree gs k, get-tree es k) (case_put k first number item _ _ _ (e k) (f k))

  pub case_from : (k first : ℕ) (x y : Option T) → x ≡ cond (ltb k first) None y → y ≡ None → x ≡ None
  case_from k first x y e none = grind (arith, common_steps)

  case_below : (k first : ℕ) (x y : Option T) → x ≡ cond (ltb k first) None y → k < first → x ≡ None
  case_below k first x y e below = grind (arith, common_steps)

  -- a window that moved up is in range
  pub range_from : (old new : View T) → new.room ≡ old.room → old.first ≤ new.first → new.first ≤ 4294967296 → HoldsFrom new.first old.held new.held → IsInRange old → IsInRange new
  range_from old new room up most held r = record {
    first_least = omega (arith, up, r.first_least);
    first_most = most;
    room_least = rw room r.room_least;
    room_most = rw room r.room_most;
    none_below = λ k below. case_below k new.first _ _ (held k) below;
    none_past = λ k past. case_from k new.first _ _ (held k) (r.none_past k (omega (arith, past, up, room)));
    none_larger = λ k larger. case_from k new.first _ _ (held k) (r.none_larger k larger);
  }

  pub case_also : (k first number : ℕ) (item : T) (x y : Option T) → x ≡ cond (ltb k first) None (cond (eqb k number) (Some item) y) → number < k
      → y ≡ None → x ≡ None
  case_also k first number item x y e past none = grind (arith, common_steps)

  -- a window that holds one more is in range
  pub range_also : (old new : View T) (number : ℕ) (item : T) → new.room ≡ old.room → old.first ≤ number → number ≤ 4294967295
      → new.first ≡ max old.first (number + 1 - old.room) → HoldsAlso new.first number item old.held new.held → IsInRange old → IsInRange new
  range_also old new number item room from most first held r = record {
    first_least = omega (arith, first, r.first_least);
    first_most = omega (arith, first, most, r.first_most);
    room_least = rw room r.room_least;
    room_most = rw room r.room_most;
    none_below = λ k below. case_below k new.first _ _ (held k) below;
    none_past = λ k past. case_also k new.first number item _ _ (held k) (omega (arith, past, first, room, r.room_least)) (r.none_past k (omega (arith, past, first, room)));
    none_larger = λ k larger. case_also k new.first number item _ _ (held k) (omega (arith, larger, most)) (r.none_larger k larger);
  }
