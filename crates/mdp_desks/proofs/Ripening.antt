-- Desks that wait until a packet comes: their marks are set one after another, and the first packet of the others is found.
use Rattle.std.proofs.Common.{◌≡◌, ◌≢◌, ◌<◌, ℕ, Bool, true, false, List, ◌+◌, cond, length, min, get_or, set, sym, ap, ◌∙◌, arith, inl, inr}
use Rattle.std.specs.Prelude.{◌&&◌, nat_lt}
use Rattle.std.proofs.lemmas.Bool.{cases_eq, cases_lt}
use Rattle.std.proofs.lemmas.Bool.Decides.{nat_tests}
use Rattle.std.proofs.lemmas.List.{length-map, get_or-map, get_or-set_same, get_or-set_other}
use Rattle.mdp_desks.specs.declared.desk.Desk.{Desk}
use Rattle.mdp_desks.specs.Beside.{AreAmong, AreClear, AreDueBefore, all_due_at, is_due_at, marks_of}
use Rattle.mdp_desks.proofs.Waiting.{marked_due, past}

-- the marks below a place are those of all desks there that are due at some packet before `until`
abbrev pub AreFound : ℕ → ℕ → List Bool → List Desk → Type 0
AreFound from until marks ds = (k n : ℕ) → k < until → n < from → get_or (all_due_at k ds) n false ≡ true → get_or marks n false ≡ true

opposite : (b : Bool) → b ≡ true → b ≡ false → ⊥
opposite b set clear = cc (set, clear)

-- of a desk that is not marked no event end has lines
not_due : (k i : ℕ) (ds : List Desk) → get_or (marks_of ds) i false ≡ false → get_or (all_due_at k ds) i false ≡ true → ⊥
not_due k i ds off is = opposite (get_or (marks_of ds) i false) (marked_due k ds i is) off

-- one marked desk more
pub found_more : (packet from until n base : ℕ) (marks new : List Bool) (later : ℕ) (ds : List Desk) (here : Desk) → AreClear from n (marks_of ds) → n < length ds → length marks ≡ length ds → here ≡ get_or ds n here → base ≡ here.base
    → new ≡ set marks n (nat_lt base packet) → later ≡ cond (nat_lt base packet) until (min until (base + 1)) → AreFound from until marks ds → AreFound (n + 1) later new ds
found_more packet from until n base marks new later ds here clear less long at same is then found k i under inside due = by_base (nat_lt base packet) is then
  where
    here_due : i ≡ n → (k : ℕ) → get_or (all_due_at k ds) i false ≡ true → is_due_at k here ≡ true
    here_due one k is = sym (ap (λ (j : ℕ). get_or (all_due_at k ds) j false) one ∙ get_or-map (is_due_at k) ds n here false less ∙ ap (is_due_at k) (sym at)) ∙ is

    not_before : (b : Bool) (k base : ℕ) → (b && nat_lt base k) ≡ true → k < base + 1 → ⊥
    not_before true k base is under = grind (arith, nat_tests, is, under)
    not_before false k base is under = cc is

    below : k < until → i ≢ n → get_or marks i false ≡ true
    below under other = elim (cases_lt i from) [
      | inl before ↦ found k i under before due
      | inr after ↦ absurd (not_due k i ds (clear i after (omega (arith, inside, other))) due)
    ]

    by_base : (b : Bool) → new ≡ set marks n b → later ≡ cond b until (min until (base + 1)) → get_or new i false ≡ true
    by_base true is then = ap (λ (ms : List Bool). get_or ms i false) is ∙ elim (cases_eq i n) [
      | inl one ↦ ap (λ (j : ℕ). get_or (set marks n true) j false) one ∙ get_or-set_same marks n true false (omega (arith, less, long))
      | inr other ↦ get_or-set_other marks n i true false other ∙ below (omega (arith, under, then)) other
    ]
    by_base false is then = ap (λ (ms : List Bool). get_or ms i false) is ∙ elim (cases_eq i n) [
      | inl one ↦ absurd (not_before here.marked k here.base (here_due one k due) (omega (arith, under, then, same)))
      | inr other ↦ get_or-set_other marks n i false false other ∙ below (omega (arith, under, then)) other
    ]

-- it is a marked one's mark that was put
pub only_more : (b : Bool) (n : ℕ) (marks new : List Bool) (ds : List Desk) → get_or (marks_of ds) n false ≡ true → new ≡ set marks n b → AreAmong marks (marks_of ds) → AreAmong new (marks_of ds)
only_more b n marks new ds marked is only i on = elim (cases_eq i n) [
  | inl one ↦ ap (λ (j : ℕ). get_or (marks_of ds) j false) one ∙ marked
  | inr other ↦ only i (sym (ap (λ (ms : List Bool). get_or ms i false) is ∙ get_or-set_other marks n i b false other) ∙ on)
]

-- no other waits for this packet
pub later_more : (b : Bool) (packet until base later : ℕ) → nat_lt base packet ≡ b → later ≡ cond b until (min until (base + 1)) → packet < until → packet < later
later_more true packet until base later under is before = omega (arith, is, before)
later_more false packet until base later under is before = grind (arith, nat_tests, under, is, before)

-- and none is left
pub found_all : (packet from until : ℕ) (marks : List Bool) (ds : List Desk) → packet < until → length marks ≡ length ds → AreAmong marks (marks_of ds) → AreClear from (length ds) (marks_of ds) → AreFound from until marks ds → AreDueBefore until marks ds
found_all packet from until marks ds later long only clear found = record {
  many = long;
  due = λ k under. record { many = long; only = only; all = λ n is. all k n under is };
  none = λ no. absurd (omega (arith, later, no));
}
  where
    all : (k n : ℕ) → k < until → get_or (all_due_at k ds) n false ≡ true → get_or marks n false ≡ true
    all k n under is = elim (cases_lt n from) [
      | inl below ↦ found k n under below is
      | inr above ↦ elim (cases_lt n (length ds)) [
        | inl inside ↦ absurd (not_due k n ds (clear n above inside) is)
        | inr outside ↦ absurd (opposite (get_or (all_due_at k ds) n false) is (past (all_due_at k ds) n (omega (arith, outside, length-map ds (is_due_at k)))))
      ]
    ]
