-- The first mark that is set, found among bytes, and the bounds within which all that are set stand.
use Rattle.std.proofs.Common.{◌≡◌, ◌≢◌, ◌<◌, ◌≤◌, ℕ, zero, suc, ◌+◌, ◌-◌, max, Bool, true, false, List, ◌∷◌, length, drop, get_or, set, replicate, Some, None, refl, sym, ap, subst, ◌∙◌, arith, inl, inr}
use Rattle.std.specs.Prelude.{◌==◌, slice_index, slice_range}
use Rattle.std.proofs.lemmas.Bool.{cases_lt, cases_eq}
use Rattle.std.proofs.lemmas.List.{get_or-map, get_or-take, get_or-drop, length-take, length-drop, map-set, length-set, get_or-set_same, get_or-set_other}
use Rattle.memchr.specs.Find.{IsFirstByte, is_byte}
use Rattle.mdp_desks.specs.Beside.{AreClear, AreWithin, IsFirstSet, marks_in}

not_set : (b : Bool) → (b ≡ true → ⊥) → b ≡ false
not_set true is = absurd (is refl)
not_set false is = refl

-- ---- among the bytes from one place on and below another

mark_there : (bytes : List ℕ) (n : ℕ) → n < length bytes → get_or (marks_in bytes) n false ≡ (slice_index bytes n == 1)
mark_there bytes n less = get_or-map (λ (b : ℕ). b == 1) bytes n 0 false less

mark_behind : (bytes : List ℕ) (low high k : ℕ) → k < high - low → high ≤ length bytes → get_or (marks_in bytes) (low + k) false ≡ is_byte 1 (slice_index (slice_range bytes low high) k)
mark_behind bytes low high k less short =
    mark_there bytes (low + k) (omega (arith, less, short))
    ∙ ap (is_byte 1) (sym (get_or-take (high - low) (drop low bytes) k 0 less ∙ get_or-drop low bytes k 0))

-- the same of a place among all
mark_at_place : (bytes : List ℕ) (low high n : ℕ) → low ≤ n → n < high → high ≤ length bytes → get_or (marks_in bytes) n false ≡ is_byte 1 (slice_index (slice_range bytes low high) (n - low))
mark_at_place bytes low high n from under short =
    let same : low + (n - low) ≡ n = omega (arith, from) in
    subst (λ (m : ℕ). get_or (marks_in bytes) m false ≡ is_byte 1 (slice_index (slice_range bytes low high) (n - low))) same (mark_behind bytes low high (n - low) (omega (arith, from, under)) short)

range_long : (bytes : List ℕ) (low high : ℕ) → low ≤ high → high ≤ length bytes → length (slice_range bytes low high) ≡ high - low
range_long bytes low high from short = omega (arith, length-take (high - low) (drop low bytes), length-drop low bytes, from, short)

pub first_behind : (bytes : List ℕ) (low high n : ℕ) → low < high → high ≤ length bytes → IsFirstByte (is_byte 1) (slice_range bytes low high) (Some n) → IsFirstSet low high (low + n) (marks_in bytes)
first_behind bytes low high n less short first =
    let long = range_long bytes low high (omega (arith, less)) short in
    let inside : n < high - low = omega (arith, first.0.high, long) in
    record {
      behind = omega arith;
      inside = omega (arith, inside);
      is_set = mark_behind bytes low high n inside short ∙ first.1;
      before = λ k from under.
          mark_at_place bytes low high k from (omega (arith, under, inside)) short
          ∙ not_set (is_byte 1 (slice_index (slice_range bytes low high) (k - low))) (first.0.before (k - low) (omega arith) (omega (arith, from, under)));
    }

pub none_behind : (bytes : List ℕ) (low high : ℕ) → low < high → high ≤ length bytes → IsFirstByte (is_byte 1) (slice_range bytes low high) None → AreClear low high (marks_in bytes)
none_behind bytes low high less short none k from under =
    let long = range_long bytes low high (omega (arith, less)) short in
    mark_at_place bytes low high k from under short
    ∙ not_set (is_byte 1 (slice_index (slice_range bytes low high) (k - low))) (none (k - low) (omega arith) (omega (arith, from, under, long)))

-- ---- among all: none is set at first

pub none_in : (count : ℕ) → marks_in (replicate count 0) ≡ replicate count false
none_in zero = refl
none_in (suc count) = ap (λ (t : List Bool). false ∷ t) (none_in count)

none_there : (count n : ℕ) → get_or (replicate count false) n false ≡ false
none_there zero n = refl
none_there (suc count) zero = refl
none_there (suc count) (suc n) = none_there count n

pub none_within : (bytes : List ℕ) (count : ℕ) → bytes ≡ replicate count 0 → AreWithin 0 0 (marks_in bytes)
none_within bytes count is = record { short = omega arith; first = λ some. absurd (omega (arith, some)); before = λ n under. absurd (omega (arith, under)); behind = λ n from. there n }
  where
    there : (n : ℕ) → get_or (marks_in bytes) n false ≡ false
    there n = ap (λ (ms : List Bool). get_or ms n false) (ap marks_in is ∙ none_in count) ∙ none_there count n

-- ---- a mark that is put

pub byte_set : (bytes : List ℕ) (slot : ℕ) → marks_in (set bytes slot 1) ≡ set (marks_in bytes) slot true
byte_set bytes slot = map-set (λ (b : ℕ). b == 1) bytes slot 1

pub byte_cleared : (bytes : List ℕ) (slot : ℕ) → marks_in (set bytes slot 0) ≡ set (marks_in bytes) slot false
byte_cleared bytes slot = map-set (λ (b : ℕ). b == 1) bytes slot 0

other_mark : (marks : List Bool) (slot n : ℕ) (b : Bool) → n ≢ slot → get_or marks n false ≡ false → get_or (set marks slot b) n false ≡ false
other_mark marks slot n b other is = get_or-set_other marks slot n b false other ∙ is

-- where one is set, the bounds hold it
pub set_within : (marks : List Bool) (low high low2 high2 slot : ℕ) → AreWithin low high marks → slot < length marks → high2 ≤ max high (slot + 1) → low2 ≤ slot → slot < high2 → (low < high → (low2 ≤ low) × (high ≤ high2)) → (low2 ≢ slot → (low < high) × (low2 ≡ low)) → AreWithin low2 high2 (set marks slot true)
set_within marks low high low2 high2 slot within less short first last wide is_low =
    let long = length-set marks slot true in
    let before = within.short in
    record {
      short = omega (arith, short, long, before, less);
      first = λ _. elim (cases_eq low2 slot) [
        | inl same ↦ subst (λ (n : ℕ). get_or (set marks slot true) n false ≡ true) (sym same) (get_or-set_same marks slot true false less)
        | inr other ↦ get_or-set_other marks slot low2 true false other ∙ subst (λ (n : ℕ). get_or marks n false ≡ true) (sym (is_low other).1) (within.first (is_low other).0)
      ];
      before = λ n under. other_mark marks slot n true (λ same. omega (arith, same, under, first)) (below n under);
      behind = λ n from. other_mark marks slot n true (λ same. omega (arith, same, from, last)) (above n from);
    }
  where
    between : (n : ℕ) → (low < high → n < high → low ≤ n → ⊥) → get_or marks n false ≡ false
    between n none = elim (cases_lt n low) [
      | inl under ↦ within.before n under
      | inr from ↦ by_high from
    ]
      where
        by_high : low ≤ n → get_or marks n false ≡ false
        by_high from = elim (cases_lt n high) [ inl inside ↦ absurd (none (omega (arith, from, inside)) inside from) | inr past ↦ within.behind n past ]

    below : (n : ℕ) → n < low2 → get_or marks n false ≡ false
    below n under = between n (λ some inside from. let bounds = wide some in omega (arith, bounds.0, under, from))

    above : (n : ℕ) → high2 ≤ n → get_or marks n false ≡ false
    above n past = between n (λ some inside from. let bounds = wide some in omega (arith, bounds.1, past, inside))

-- a mark that is taken away, and the others
cleared : (marks : List Bool) (slot n : ℕ) → slot < length marks → (n ≢ slot → get_or marks n false ≡ false) → get_or (set marks slot false) n false ≡ false
cleared marks slot n less is = elim (cases_eq n slot) [
  | inl same ↦ subst (λ (m : ℕ). get_or (set marks slot false) m false ≡ false) (sym same) (get_or-set_same marks slot false false less)
  | inr other ↦ other_mark marks slot n false other (is other)
]

-- where it wasn't the first, the bounds stay
pub clear_within : (marks : List Bool) (low high slot : ℕ) → AreWithin low high marks → slot < length marks → slot ≢ low → AreWithin low high (set marks slot false)
clear_within marks low high slot within less other = record {
  short = let long = length-set marks slot false in let short = within.short in omega (arith, short, long);
  first = λ some. get_or-set_other marks slot low false false (λ same. other (sym same)) ∙ within.first some;
  before = λ n under. cleared marks slot n less (λ _. within.before n under);
  behind = λ n from. cleared marks slot n less (λ _. within.behind n from);
}

-- and where it was, the lower one goes on to the next
pub clear_on : (marks : List Bool) (low high next slot : ℕ) → AreWithin low high marks → slot < length marks → slot ≡ low → AreClear (slot + 1) next (set marks slot false)
    → (next < high → get_or (set marks slot false) next false ≡ true) → AreWithin next high (set marks slot false)
clear_on marks low high next slot within less is_low clear found = record {
  short = let long = length-set marks slot false in let short = within.short in omega (arith, short, long);
  first = found;
  before = λ n under. elim (cases_lt n (slot + 1)) [
    | inl below ↦ cleared marks slot n less (λ other. within.before n (omega (arith, below, other, is_low)))
    | inr above ↦ clear n above under
  ];
  behind = λ n from. cleared marks slot n less (λ _. within.behind n from);
}

-- no mark is set just where the bounds have no place between them
pub clear_between : (marks : List Bool) (low high : ℕ) → AreWithin low high marks → (high ≤ low → AreClear 0 (length marks) marks) × (AreClear 0 (length marks) marks → high ≤ low)
clear_between marks low high within = (λ past n _ _. by_low past n, λ clear. by_high clear)
  where
    by_low : high ≤ low → (n : ℕ) → get_or marks n false ≡ false
    by_low past n = elim (cases_lt n low) [ inl under ↦ within.before n under | inr from ↦ within.behind n (omega (arith, from, past)) ]

    by_high : AreClear 0 (length marks) marks → high ≤ low
    by_high clear = elim (cases_lt low high) [
      | inl some ↦ absurd (let short = within.short in let not_so : true ≡ false = sym (within.first some) ∙ clear low (omega arith) (omega (arith, some, short)) in cc)
      | inr past ↦ past
    ]
