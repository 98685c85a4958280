-- Parts of a list that goes by slot give the list again, by_slot.
use Rattle.std.proofs.Common.{◌≡◌, ◌≤◌, ◌<◌, ℕ, ◌+◌, ◌%◌, zero, suc, Bool, true, false, cond, List, [], ◌∷◌, ◌++◌, map, Option, Some, None, refl, sym, ap, ◌∙◌, arith}
use Rattle.std.specs.Prelude.{nat_le, nat_lt, ◌==◌, ◌&&◌, ◌||◌}
use Rattle.std.specs.List.{filter, AllByRecursion}
use Rattle.std.proofs.lemmas.Bool.Decides.{nat_tests}
use Rattle.mdp_books.specs.declared.event_end.EventEnd.{EventEnd}
use Rattle.mdp_desks.specs.Lines.{Seen}
use Rattle.mdp_desks.specs.Moments.{at_event_end}
use Rattle.mdp_desks.specs.Shares.{is_kept_by}
use Rattle.mdp_desks.specs.Reports.{Told, told_of, told_there, told_from, report_of}
use Rattle.mdp_reports.specs.Rounds.{by_slot, all_by_slot, numbers_from, told_in, round_of}

-- all stand at this slot or behind it
abbrev pub From : ℕ → List Told → Type 0
From n ts = AllByRecursion (λ (t : Told). n ≤ t.slot) ts

-- each stands behind the one before
abbrev pub Rising : List Told → Type 0
Rising [] = Unit {0}
Rising (t ∷ ts) = From (t.slot + 1) ts × Rising ts

from_less : (n m : ℕ) (ts : List Told) → n ≤ m → From m ts → From n ts
from_less n m [] less from = tt
from_less n m (t ∷ ts) less from = let here : m ≤ t.slot = from.0 in (omega (arith, less, here), from_less n m ts less from.1)

from-filter : (n : ℕ) (p : Told → Bool) (ts : List Told) → From n ts → From n (filter p ts)
from-filter n p [] from = tt
from-filter n p (t ∷ ts) from = by_it (p t) (from-filter n p ts from.1)
  where
    by_it : (b : Bool) → From n (filter p ts) → From n (cond b (t ∷ filter p ts) (filter p ts))
    by_it true rest = (from.0, rest)
    by_it false rest = rest

-- ---- two lists

by_slot-nil : (xs : List Told) → by_slot xs [] ≡ xs
by_slot-nil [] = refl
by_slot-nil (x ∷ xs) = refl

first_left : (t : Told) (xs ys : List Told) → From (t.slot + 1) ys → by_slot (t ∷ xs) ys ≡ t ∷ by_slot xs ys
first_left t xs [] from = ap (λ (l : List Told). t ∷ l) (sym (by_slot-nil xs))
first_left t xs (y ∷ ys) from =
    let over : t.slot + 1 ≤ y.slot = from.0 in
    let is : nat_le t.slot y.slot ≡ true = grind (arith, nat_tests, over) in
    ap (λ (b : Bool). cond b (t ∷ by_slot xs (y ∷ ys)) (y ∷ by_slot (t ∷ xs) ys)) is

first_right : (t : Told) (xs ys : List Told) → From (t.slot + 1) xs → by_slot xs (t ∷ ys) ≡ t ∷ by_slot xs ys
first_right t [] ys from = refl
first_right t (x ∷ xs) ys from =
    let over : t.slot + 1 ≤ x.slot = from.0 in
    let is : nat_le x.slot t.slot ≡ false = grind (arith, nat_tests, over) in
    ap (λ (b : Bool). cond b (x ∷ by_slot xs (t ∷ ys)) (t ∷ by_slot (x ∷ xs) ys)) is

abbrev either : (Told → Bool) → (Told → Bool) → Told → Bool
either p q t = p t || q t

two_parts : (p q : Told → Bool) (ts : List Told) → Rising ts → ((t : Told) → p t ≡ true → q t ≡ true → ⊥) → by_slot (filter p ts) (filter q ts) ≡ filter (either p q) ts
two_parts p q [] rising apart = refl
two_parts p q (t ∷ ts) rising apart = by_both (p t) (q t) refl refl (two_parts p q ts rising.1 apart)
  where
    by_both : (b c : Bool) → p t ≡ b → q t ≡ c → by_slot (filter p ts) (filter q ts) ≡ filter (either p q) ts
        → by_slot (cond b (t ∷ filter p ts) (filter p ts)) (cond c (t ∷ filter q ts) (filter q ts)) ≡ cond (b || c) (t ∷ filter (either p q) ts) (filter (either p q) ts)
    by_both true true is also others = absurd (apart t is also)
    by_both true false is also others = first_left t (filter p ts) (filter q ts) (from-filter (t.slot + 1) q ts rising.0) ∙ ap (λ (l : List Told). t ∷ l) others
    by_both false true is also others = first_right t (filter p ts) (filter q ts) (from-filter (t.slot + 1) p ts rising.0) ∙ ap (λ (l : List Told). t ∷ l) others
    by_both false false is also others = others

-- ---- any number of parts

same_filter : (p q : Told → Bool) (ts : List Told) → ((t : Told) → p t ≡ q t) → filter p ts ≡ filter q ts
same_filter p q [] same = refl
same_filter p q (t ∷ ts) same =
    ap (λ (b : Bool). cond b (t ∷ filter p ts) (filter p ts)) (same t)
    ∙ ap (λ (l : List Told). cond (q t) (t ∷ l) l) (same_filter p q ts same)

filter-none : (p : Told → Bool) (ts : List Told) → ((t : Told) → p t ≡ false) → filter p ts ≡ []
filter-none p [] none = refl
filter-none p (t ∷ ts) none = ap (λ (b : Bool). cond b (t ∷ filter p ts) (filter p ts)) (none t) ∙ filter-none p ts none

filter-all : (p : Told → Bool) (ts : List Told) → ((t : Told) → p t ≡ true) → filter p ts ≡ ts
filter-all p [] all = refl
filter-all p (t ∷ ts) all = ap (λ (b : Bool). cond b (t ∷ filter p ts) (filter p ts)) (all t) ∙ ap (λ (l : List Told). t ∷ l) (filter-all p ts all)

-- of worker w of n
abbrev pub kept_by : ℕ → ℕ → Told → Bool
kept_by n w t = is_kept_by n w t.slot

-- of one of so many workers from this one on
abbrev within : ℕ → ℕ → ℕ → Told → Bool
within n first count t = nat_le first (t.slot % n) && nat_lt (t.slot % n) (first + count)

none_within : (first count k : ℕ) → count ≡ 0 → (nat_le first k && nat_lt k (first + count)) ≡ false
none_within first count k none = grind (arith, nat_tests, none)

one_more : (first count k : ℕ) → ((k == first) || (nat_le (first + 1) k && nat_lt k (first + 1 + count))) ≡ (nat_le first k && nat_lt k (first + suc count))
one_more first count k = grind (arith, nat_tests)

one_alone : (first count k : ℕ) → (k == first) ≡ true → (nat_le (first + 1) k && nat_lt k (first + 1 + count)) ≡ true → ⊥
one_alone first count k is also = grind (arith, nat_tests, is, also)

all_parts : (n count first : ℕ) (ts : List Told) → Rising ts → all_by_slot (map (λ w. filter (kept_by n w) ts) (numbers_from first count)) ≡ filter (within n first count) ts
all_parts n zero first ts rising = sym (filter-none (within n first zero) ts (λ t. none_within first zero (t.slot % n) refl))
all_parts n (suc count) first ts rising =
    ap (by_slot (filter (kept_by n first) ts)) (all_parts n count (first + 1) ts rising)
    ∙ two_parts (kept_by n first) (within n (first + 1) count) ts rising (λ t. one_alone first count (t.slot % n))
    ∙ same_filter (either (kept_by n first) (within n (first + 1) count)) (within n first (suc count)) ts (λ t. one_more first count (t.slot % n))

all_within : (n k : ℕ) → k < n → (nat_le 0 k && nat_lt k (0 + n)) ≡ true
all_within n k less = grind (arith, nat_tests, less)

below : (k n : ℕ) → 1 ≤ n → k % n < n
below k n some = omega (arith, some)

pub whole : (n : ℕ) (ts : List Told) → 1 ≤ n → Rising ts → all_by_slot (map (λ w. filter (kept_by n w) ts) (numbers_from 0 n)) ≡ ts
whole n ts some rising = all_parts n n 0 ts rising ∙ filter-all (within n 0 n) ts (λ t. all_within n (t.slot % n) (below t.slot n some))

-- ---- what is told goes by slot

there_from : (end : EventEnd) (n slot : ℕ) (s : Option Seen) (ts : List Told) → n ≤ slot → From n ts → From n (told_there end slot s ++ ts)
there_from end n slot None ts less from = from
there_from end n slot (Some s) ts less from = by_printed s.printed
  where
    by_printed : (b : Bool) → From n (cond b (told_of end slot s ∷ []) [] ++ ts)
    by_printed true = (less, from)
    by_printed false = from

pub told_behind : (end : EventEnd) (slot : ℕ) (seen : List (Option Seen)) → From slot (told_from end slot seen)
told_behind end slot [] = tt
told_behind end slot (s ∷ seen) =
    there_from end slot slot s (told_from end (slot + 1) seen) (omega arith)
    (from_less slot (slot + 1) (told_from end (slot + 1) seen) (omega arith) (told_behind end (slot + 1) seen))

there_rising : (end : EventEnd) (slot : ℕ) (s : Option Seen) (ts : List Told) → From (slot + 1) ts → Rising ts → Rising (told_there end slot s ++ ts)
there_rising end slot None ts from rising = rising
there_rising end slot (Some s) ts from rising = by_printed s.printed
  where
    by_printed : (b : Bool) → Rising (cond b (told_of end slot s ∷ []) [] ++ ts)
    by_printed true = (from, rising)
    by_printed false = rising

told_rising : (end : EventEnd) (slot : ℕ) (seen : List (Option Seen)) → Rising (told_from end slot seen)
told_rising end slot [] = tt
told_rising end slot (s ∷ seen) =
    there_rising end slot s (told_from end (slot + 1) seen) (told_behind end (slot + 1) seen) (told_rising end (slot + 1) seen)

-- ---- a round

tolds_of_round : (n : ℕ) (end : EventEnd) (seen : List (Option Seen)) (ws : List ℕ)
    → map told_in (map (λ w. report_of (is_kept_by n w) (at_event_end end seen)) ws) ≡ map (λ w. filter (kept_by n w) (told_from end 0 seen)) ws
tolds_of_round n end seen [] = refl
tolds_of_round n end seen (w ∷ ws) = ap (λ (l : List (List Told)). filter (kept_by n w) (told_from end 0 seen) ∷ l) (tolds_of_round n end seen ws)

pub round_whole : (n : ℕ) (end : EventEnd) (seen : List (Option Seen)) → 1 ≤ n → all_by_slot (map told_in (round_of n (at_event_end end seen))) ≡ told_from end 0 seen
round_whole n end seen some =
    ap all_by_slot (tolds_of_round n end seen (numbers_from 0 n))
    ∙ whole n (told_from end 0 seen) some (told_rising end 0 seen)
