-- The places of marks that are set, found one after another.
use Rattle.std.proofs.Common.{◌≡◌, ℕ, zero, suc, ◌+◌, ◌-◌, ◌<◌, ◌≤◌, Bool, true, false, List, [], ◌∷◌, length, take, drop, get_or, refl, sym, ap, ◌∙◌, subst, arith, inl, inr, get_or-take, length-take, length-drop}
use Rattle.std.specs.Prelude.{min, Option, Some}
use Rattle.std.proofs.lemmas.Bool.{cases_lt}
use Rattle.std.proofs.lemmas.List.{drop_all, drop_more, drop-drop}
use Rattle.mdp_desks.specs.Beside.{AreClear, IsFirstSet}
use Rattle.mdp_engine.specs.Engine.{View}
use Rattle.mdp_c.specs.Changed.{changed_slots, slots_from, slots_of}

-- how many places a number of 32 bits can name
abbrev most : ℕ
most = 4294967296

-- the marks that are looked at
abbrev pub seen : List Bool → List Bool
seen marks = take most marks

-- the slots from a place on
abbrev pub slots_left : List Bool → ℕ → List ℕ
slots_left marks from = slots_from from (drop from (seen marks))

-- ---- marks that are not set

skip_one : (marks : List Bool) (from : ℕ) → from < length marks → get_or marks from false ≡ false → slots_from from (drop from marks) ≡ slots_from (from + 1) (drop (from + 1) marks)
skip_one marks from within clear =
    ap (slots_from from) (drop_more marks from false within ∙ ap (λ (b : Bool). b ∷ drop (from + 1) marks) clear)

skip : (n : ℕ) (marks : List Bool) (from : ℕ) → from + n ≤ length marks → AreClear from (from + n) marks → slots_from from (drop from marks) ≡ slots_from (from + n) (drop (from + n) marks)
skip zero marks from within clear = let same : from ≡ from + 0 = omega arith in ap (λ (k : ℕ). slots_from k (drop k marks)) same
skip (suc n) marks from within clear =
    let same : (from + 1) + n ≡ from + suc n = omega arith in
    skip_one marks from (omega arith) (clear from (omega arith) (omega arith))
    ∙ skip n marks (from + 1) (omega arith) (λ k low high. clear k (omega (arith, low)) (omega (arith, high)))
    ∙ ap (λ (k : ℕ). slots_from k (drop k marks)) same

found : (marks : List Bool) (from slot : ℕ) → IsFirstSet from (length marks) slot marks → slots_from from (drop from marks) ≡ slot ∷ slots_from (slot + 1) (drop (slot + 1) marks)
found marks from slot first =
    let steps : from + (slot - from) ≡ slot = omega (arith, first.behind) in
    skip (slot - from) marks from (omega (arith, first.behind, first.inside)) (subst (λ (k : ℕ). AreClear from k marks) (sym steps) first.before)
    ∙ ap (λ (k : ℕ). slots_from k (drop k marks)) steps
    ∙ ap (slots_from slot) (drop_more marks slot false first.inside ∙ ap (λ (b : Bool). b ∷ drop (slot + 1) marks) first.is_set)

nothing_left : (marks : List Bool) (from : ℕ) → length marks ≤ from → slots_from from (drop from marks) ≡ []
nothing_left marks from past = ap (slots_from from) (drop_all from marks past)

none : (marks : List Bool) (from : ℕ) → AreClear from (length marks) marks → slots_from from (drop from marks) ≡ []
none marks from clear = elim (cases_lt from (length marks)) [
  | inl within ↦
      let steps : from + (length marks - from) ≡ length marks = omega (arith, within) in
      skip (length marks - from) marks from (omega (arith, within)) (subst (λ (k : ℕ). AreClear from k marks) (sym steps) clear)
      ∙ ap (λ (k : ℕ). slots_from k (drop k marks)) steps ∙ nothing_left marks (length marks) (omega arith)
  | inr past ↦ nothing_left marks from past
]

-- ---- of the marks that are looked at

many_seen : (marks : List Bool) → length (seen marks) ≡ min (length marks) most
many_seen marks = length-take most marks ∙ omega arith

-- one that is looked at is the mark itself
same_mark : (marks : List Bool) (k : ℕ) → k < min (length marks) most → get_or (seen marks) k false ≡ get_or marks k false
same_mark marks k within = get_or-take most marks k false (omega (arith, within))

-- the next mark that is set
pub next_found : (marks : List Bool) (from slot : ℕ) → IsFirstSet from (min (length marks) most) slot marks → slots_left marks from ≡ slot ∷ slots_left marks (slot + 1)
next_found marks from slot first = found (seen marks) from slot (record {
  behind = first.behind;
  inside = omega (arith, many_seen marks, first.inside);
  is_set = same_mark marks slot first.inside ∙ first.is_set;
  before = λ k low high. same_mark marks k (omega (arith, high, first.inside)) ∙ first.before k low high;
})

-- no mark is set any more
pub none_found : (marks : List Bool) (from : ℕ) → AreClear from (min (length marks) most) marks → slots_left marks from ≡ []
none_found marks from clear =
    none (seen marks) from (λ k low high. let within : k < min (length marks) most = omega (arith, high, many_seen marks) in same_mark marks k within ∙ clear k low within)

-- at first all are left
pub all_left : (marks : List Bool) → slots_left marks 0 ≡ slots_of marks
all_left marks = refl

-- none was set
pub none_changed : (marks : List Bool) (v : View) (held : Option View) → AreClear 0 (length marks) marks → marks ≡ v.changed → Some v ≡ held → changed_slots held ≡ Some []
none_changed marks v held clear are is =
    let none : slots_of marks ≡ [] = none_found marks 0 (λ k low high. clear k low (omega (arith, high))) in
    subst (λ (h : Option View). changed_slots h ≡ Some []) is (ap Some (ap slots_of (sym are) ∙ none))

-- ---- what is left of a list

few_from : (place : ℕ) (marks : List Bool) → length (slots_from place marks) ≤ length marks
few_from place [] = omega arith
few_from place (true ∷ marks) = let rest = few_from (place + 1) marks in omega (arith, rest)
few_from place (false ∷ marks) = let rest = few_from (place + 1) marks in omega (arith, rest)

pub few_slots : (marks : List Bool) → length (slots_of marks) ≤ 4294967296
few_slots marks = omega (arith, few_from 0 (seen marks), many_seen marks)

pub few_of_marks : (marks : List Bool) → length (slots_of marks) ≤ length marks
few_of_marks marks = omega (arith, few_from 0 (seen marks), many_seen marks)

pub some_left : {X : Type 0} (all more : List X) (k : ℕ) (x : X) → drop k all ≡ x ∷ more → k < length all
some_left all more k x left = let some : length all - k ≡ suc (length more) = sym (length-drop k all) ∙ ap length left in omega (arith, some)

pub one_less : {X : Type 0} (all more : List X) (k : ℕ) (x : X) → drop k all ≡ x ∷ more → drop (k + 1) all ≡ more
one_less all more k x left = sym (drop-drop 1 k all) ∙ ap (drop 1) left

pub no_more : {X : Type 0} (all : List X) (k : ℕ) → drop k all ≡ [] → k ≤ length all → k ≡ length all
no_more all k left few = let rest : length all - k ≡ 0 = sym (length-drop k all) ∙ ap length left in omega (arith, rest, few)
