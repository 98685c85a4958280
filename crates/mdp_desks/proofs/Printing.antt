-- The marks of the desks whose books an event end prints.
use Rattle.std.proofs.Common.{◌≡◌, ◌≢◌, ◌<◌, ◌≤◌, ◌+◌, ℕ, suc, Bool, true, false, cond, List, [], ◌∷◌, length, map, get_or, set, refl, sym, ap, subst, ◌∙◌, arith, inl, inr}
use Rattle.std.specs.Prelude.{Some, None, ◌&&◌, ◌||◌, nat_lt}
use Rattle.std.proofs.lemmas.Bool.{cases_eq, cases_lt}
use Rattle.std.proofs.lemmas.Bool.Decides.{nat_tests}
use Rattle.std.proofs.lemmas.List.{length-map, length-set, get_or_past, get_or-map, get_or-set_same, get_or-set_other}
use Rattle.mdp_books.proofs.Feeds.{or-false}
use Rattle.mdp_desks.specs.declared.desk.Desk.{Desk}
use Rattle.mdp_desks.specs.Desks.{desk_standing}
use Rattle.mdp_desks.specs.Beside.{AreClear, all_due_at, is_due_at, marks_of}
use Rattle.mdp_desks.specs.Changed.{is_seen_printed, with_marks}

-- ---- what an event end prints is what is due

printed_one : (packet : ℕ) (d : Desk) → is_seen_printed (desk_standing packet d) ≡ is_due_at packet d
printed_one packet d = by_side (nat_lt d.base packet) d.marked
  where
    by_side : (over marked : Bool) → is_seen_printed (cond over (Some (record { instrument = d.instrument; printed = marked; book = d.book })) None) ≡ (marked && over)
    by_side true true = refl
    by_side true false = refl
    by_side false true = refl
    by_side false false = refl

pub printed_all : (packet : ℕ) (ds : List Desk) → map is_seen_printed (map (desk_standing packet) ds) ≡ all_due_at packet ds
printed_all packet [] = refl
printed_all packet (d ∷ ds) =
    ap (λ (b : Bool). b ∷ map is_seen_printed (map (desk_standing packet) ds)) (printed_one packet d)
    ∙ ap (λ (bs : List Bool). is_due_at packet d ∷ bs) (printed_all packet ds)

-- ---- marks place by place

none_beside : (marks : List Bool) → with_marks marks [] ≡ marks
none_beside [] = refl
none_beside (m ∷ marks) = refl

same_marks : (first now due : List Bool) → length now ≡ length first → ((k : ℕ) → k < length first → get_or now k false ≡ (get_or first k false || get_or due k false)) → now ≡ with_marks first due
same_marks [] [] due many each = refl
same_marks [] (n ∷ now) due many each = absurd cc
same_marks (f ∷ first) [] due many each = absurd cc
same_marks (f ∷ first) (n ∷ now) [] many each =
    ap (λ (b : Bool). b ∷ now) (each 0 (omega arith) ∙ or-false f)
    ∙ ap (λ (bs : List Bool). f ∷ bs) (same_marks first now [] (omega (arith, many)) (λ k less. each (suc k) (omega (arith, less))) ∙ none_beside first)
same_marks (f ∷ first) (n ∷ now) (d ∷ due) many each =
    ap (λ (b : Bool). b ∷ now) (each 0 (omega arith))
    ∙ ap (λ (bs : List Bool). (f || d) ∷ bs) (same_marks first now due (omega (arith, many)) (λ k less. each (suc k) (omega (arith, less))))

-- marks with those of what is due below a place
pub record AreMarkedTo (first now due : List Bool) (from : ℕ) : Type 0 where
  pub many : length now ≡ length first
  pub each : (k : ℕ) → k < length first → get_or now k false ≡ (get_or first k false || (nat_lt k from && get_or due k false))

pub marked_none : (first due : List Bool) → AreMarkedTo first first due 0
marked_none first due = record { many = refl; each = λ k less. let none : nat_lt k 0 ≡ false = grind (arith, nat_tests) in rw none (sym (or-false (get_or first k false))) }

-- ---- a mark that is set, or stays

or_true : (b : Bool) → (b || true) ≡ true
or_true true = refl
or_true false = refl

record IsPut (now new : List Bool) (n : ℕ) (over : Bool) : Type 0 where
  long : length new ≡ length now
  others : (k : ℕ) → k ≢ n → get_or new k false ≡ get_or now k false
  here : n < length now → get_or new n false ≡ (get_or now n false || over)

is_put : (now new : List Bool) (n : ℕ) (over within : Bool) → nat_lt n (length now) ≡ within → new ≡ cond (over && within) (set now n true) now → IsPut now new n over
is_put now new n true true less is = record {
  long = ap length is ∙ length-set now n true;
  others = λ k other. ap (λ (ms : List Bool). get_or ms k false) is ∙ get_or-set_other now n k true false other;
  here = λ under. ap (λ (ms : List Bool). get_or ms n false) is ∙ get_or-set_same now n true false under ∙ sym (or_true (get_or now n false));
}
is_put now new n true false less is = record {
  long = ap length is;
  others = λ k other. ap (λ (ms : List Bool). get_or ms k false) is;
  here = λ under. let over : nat_lt n (length now) ≡ true = grind (arith, nat_tests, under) in absurd (cc (less, over));
}
is_put now new n false within less is = record {
  long = ap length is;
  others = λ k other. ap (λ (ms : List Bool). get_or ms k false) is;
  here = λ under. ap (λ (ms : List Bool). get_or ms n false) is ∙ sym (or-false (get_or now n false));
}

both_off : (a b : Bool) → (a && false) ≡ (b && false)
both_off true true = refl
both_off true false = refl
both_off false true = refl
both_off false false = refl

-- between the place and the next one that is due nothing is
seen_on : (due : List Bool) (from n k : ℕ) → from ≤ n → AreClear from n due → k ≢ n → (nat_lt k from && get_or due k false) ≡ (nat_lt k (n + 1) && get_or due k false)
seen_on due from n k up clear other = elim (cases_lt k from) [
  | inl under ↦
      let here : nat_lt k from ≡ true = grind (arith, nat_tests, under) in
      let there : nat_lt k (n + 1) ≡ true = grind (arith, nat_tests, under, up) in
      rw (here, there) refl
  | inr above ↦ elim (cases_lt k n) [
    | inl before ↦ rw (clear k above before) (both_off (nat_lt k from) (nat_lt k (n + 1)))
    | inr past ↦
        let here : nat_lt k from ≡ false = grind (arith, nat_tests, above) in
        let there : nat_lt k (n + 1) ≡ false = grind (arith, nat_tests, past, other) in
        rw (here, there) refl
  ]
]

pub marked_more : (first now new due : List Bool) (from n : ℕ) (over : Bool) → from ≤ n → AreClear from n due → get_or due n false ≡ over
    → new ≡ cond (over && nat_lt n (length now)) (set now n true) now → AreMarkedTo first now due from → AreMarkedTo first new due (n + 1)
marked_more first now new due from n over up clear due_is is so_far =
    let put = is_put now new n over (nat_lt n (length now)) refl is in
    record {
      many = put.long ∙ so_far.many;
      each = λ k less. elim (cases_eq k n) [
        | inl same ↦ subst (λ (i : ℕ). get_or new i false ≡ (get_or first i false || (nat_lt i (n + 1) && get_or due i false))) (sym same) (at_n put (omega (arith, less, same)))
        | inr other ↦ put.others k other ∙ so_far.each k less ∙ ap (λ (b : Bool). get_or first k false || b) (seen_on due from n k up clear other)
      ];
    }
  where
    at_n : IsPut now new n over → n < length first → get_or new n false ≡ (get_or first n false || (nat_lt n (n + 1) && get_or due n false))
    at_n put less =
        let before : nat_lt n from ≡ false = grind (arith, nat_tests, up) in
        let behind : nat_lt n (n + 1) ≡ true = grind (arith, nat_tests) in
        let was : get_or now n false ≡ get_or first n false = so_far.each n less ∙ rw before (or-false (get_or first n false)) in
        put.here (omega (arith, less, so_far.many)) ∙ ap (λ (b : Bool). b || over) was ∙ rw (behind, due_is) refl

-- nothing is due behind the last
pub marked_all : (first now : List Bool) (packet : ℕ) (ds : List Desk) (from : ℕ) → AreClear from (length ds) (all_due_at packet ds) → AreMarkedTo first now (all_due_at packet ds) from → now ≡ with_marks first (all_due_at packet ds)
marked_all first now packet ds from none so_far =
    same_marks first now (all_due_at packet ds) so_far.many (λ k less. so_far.each k less ∙ ap (λ (b : Bool). get_or first k false || b) (there k))
  where
    due : List Bool
    due = all_due_at packet ds

    behind : (k : ℕ) → from ≤ k → get_or due k false ≡ false
    behind k above = elim (cases_lt k (length ds)) [
      | inl inside ↦ none k above inside
      | inr past ↦ get_or_past due k false (omega (arith, past, length-map ds (is_due_at packet)))
    ]

    there : (k : ℕ) → (nat_lt k from && get_or due k false) ≡ get_or due k false
    there k = elim (cases_lt k from) [
      | inl under ↦ let here : nat_lt k from ≡ true = grind (arith, nat_tests, under) in rw here refl
      | inr above ↦ let here : nat_lt k from ≡ false = grind (arith, nat_tests, above) in rw (here, behind k above) refl
    ]

-- a marked desk is due where the packet stands behind its base
pub due_there : (packet : ℕ) (ds : List Desk) (n : ℕ) (d : Desk) → n < length ds → d ≡ get_or ds n d → get_or (marks_of ds) n false ≡ true → get_or (all_due_at packet ds) n false ≡ nat_lt d.base packet
due_there packet ds n d less is marked =
    get_or-map (is_due_at packet) ds n d false less ∙ ap (is_due_at packet) (sym is) ∙ ap (λ (b : Bool). b && nat_lt d.base packet) on
  where
    on : d.marked ≡ true
    on = ap (λ (e : Desk). e.marked) is ∙ sym (get_or-map (λ (e : Desk). e.marked) ds n d false less) ∙ marked
