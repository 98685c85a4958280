-- The spreads of which one of the three is told of.
use Rattle.std.proofs.Common.{◌≡◌, ◌≢◌, ◌<◌, ◌≤◌, ◌+◌, take, drop, ℕ, zero, suc, Bool, true, false, List, [], ◌∷◌, ◌++◌, length, map, get_or, set, refl, sym, ap, subst, ◌∙◌, arith}
use Rattle.std.specs.Prelude.{Option, ◌||◌, ◌==◌}
use Rattle.std.specs.List.{flat_map, AllByRecursion}
use Rattle.std.proofs.lemmas.List.{length-set, length-map, get_or-set_other, drop_all, take_all, append-nil}
use Rattle.std.proofs.lemmas.List.Edits.{map_over_more}
use Rattle.std.proofs.lemmas.Grind.{get_or-set_at}
use Rattle.std.proofs.lemmas.Bool.Decides.{nat_tests}
use Rattle.mdp_templates.specs.declared.instrument.Instrument.{Instrument}
use Rattle.mdp_books.specs.declared.event_end.EventEnd.{EventEnd}
use Rattle.mdp_quotes.specs.declared.best.Best.{Best}
use Rattle.mdp_templates.specs.Instrument.{ids_of}
use Rattle.mdp_engine.specs.declared.spreads.Spread.{Spread}
use Rattle.mdp_desks.specs.Desks.{desk_at_start}
use Rattle.mdp_engine.specs.Spreads.{IsUnder, spreads_from}
use Rattle.mdp_desks.specs.Beside.{listed_in}
use Rattle.mdp_desks.proofs.Hearing.{start_listed}
use Rattle.mdp_engine.proofs.Auditing.{under_there}
use Rattle.mdp_engine.proofs.Noting.{IsSilent}
use Rattle.mdp_desks.specs.Reports.{Told}
use Rattle.mdp_reports.specs.Rounds.{is_told, kept_line}
use Rattle.mdp_reports.specs.Taking.{marks_after, marked_line}

pub marks_long : (ts : List Told) (marked : List Bool) → length (marks_after ts marked) ≡ length marked
marks_long [] marked = refl
marks_long (t ∷ ts) marked = marks_long ts (set marked t.slot true) ∙ length-set marked t.slot true

set_here : (marked : List Bool) (slot n : ℕ) → n < length marked → get_or (set marked slot true) n false ≡ (get_or marked n false || (slot == n))
set_here marked slot n less = by_eq (slot == n) refl
  where
    or_true : (b : Bool) → true ≡ (b || true)
    or_true true = refl
    or_true false = refl

    or_false : (b : Bool) → b ≡ (b || false)
    or_false true = refl
    or_false false = refl

    by_eq : (b : Bool) → (slot == n) ≡ b → get_or (set marked slot true) n false ≡ (get_or marked n false || b)
    by_eq true is =
        let same : n ≡ slot = grind (arith, nat_tests, is) in
        get_or-set_at marked slot n true false same (omega (arith, same, less)) ∙ or_true (get_or marked n false)
    by_eq false is =
        let other : n ≢ slot = λ same. nothing same is in
        get_or-set_other marked slot n true false other ∙ or_false (get_or marked n false)
      where
        nothing : n ≡ slot → (slot == n) ≡ false → ⊥
        nothing same is = grind (arith, nat_tests, same, is)

or_assoc : (a b c : Bool) → ((a || b) || c) ≡ (a || (b || c))
or_assoc true b c = refl
or_assoc false b c = refl

marks : (ts : List Told) (marked : List Bool) (n : ℕ) → n < length marked → get_or (marks_after ts marked) n false ≡ (get_or marked n false || is_told ts n)
marks [] marked n less = or_false (get_or marked n false)
  where
    or_false : (b : Bool) → b ≡ (b || false)
    or_false true = refl
    or_false false = refl
marks (t ∷ ts) marked n less =
    let long = length-set marked t.slot true in
    marks ts (set marked t.slot true) n (omega (arith, less, long))
    ∙ ap (λ (b : Bool). b || is_told ts n) (set_here marked t.slot n less)
    ∙ or_assoc (get_or marked n false) (t.slot == n) (is_told ts n)

cleared : (marked : List Bool) (n : ℕ) → get_or (map (λ _. false) marked) n false ≡ false
cleared [] n = refl
cleared (b ∷ marked) zero = refl
cleared (b ∷ marked) (suc n) = cleared marked n

told_here : (ts : List Told) (marked : List Bool) (n : ℕ) → n < length marked → get_or (marks_after ts (map (λ _. false) marked)) n false ≡ is_told ts n
told_here ts marked n less =
    let long = length-map marked (λ (b : Bool). false) in
    marks ts (map (λ _. false) marked) n (omega (arith, less, long)) ∙ ap (λ (b : Bool). b || is_told ts n) (cleared marked n)

one_line : (end : EventEnd) (listed : List Instrument) (ts : List Told) (marked : List Bool) (kept : List (Option Best)) (s : Spread) → IsUnder (length marked) s
    → marked_line end listed (marks_after ts (map (λ _. false) marked)) kept s ≡ kept_line end listed ts kept s
one_line end listed ts marked kept s under =
    let a = told_here ts marked s.slot under.slot in
    let b = told_here ts marked s.leg1 under.leg1 in
    let c = told_here ts marked s.leg2 under.leg2 in
    rw (a, b, c) refl

pub all_lines : (end : EventEnd) (listed : List Instrument) (ts : List Told) (marked : List Bool) (kept : List (Option Best)) (spreads : List Spread) → AllByRecursion (IsUnder (length marked)) spreads
    → flat_map (marked_line end listed (marks_after ts (map (λ _. false) marked)) kept) spreads ≡ flat_map (kept_line end listed ts kept) spreads
all_lines end listed ts marked kept [] all = refl
all_lines end listed ts marked kept (s ∷ spreads) all =
    ap (λ (l : List ℕ). l ++ flat_map (marked_line end listed (marks_after ts (map (λ _. false) marked)) kept) spreads) (one_line end listed ts marked kept s all.0)
    ∙ ap (λ (l : List ℕ). kept_line end listed ts kept s ++ l) (all_lines end listed ts marked kept spreads all.1)

-- ---- all spreads stand below the count

start_ids : (listed : List Instrument) → ids_of (listed_in (map desk_at_start listed)) ≡ ids_of listed
start_ids listed = ap ids_of (start_listed listed)

all_of_each : (count : ℕ) (spreads : List Spread) → ((m : ℕ) (d : Spread) → m < length spreads → IsUnder count (get_or spreads m d)) → AllByRecursion (IsUnder count) spreads
all_of_each count [] each = tt
all_of_each count (s ∷ spreads) each = (each 0 s (omega arith), all_of_each count spreads (λ m d less. each (suc m) d (omega (arith, less))))

pub all_under : (listed : List Instrument) (spreads : List Spread) → spreads ≡ spreads_from 0 (ids_of listed) listed → AllByRecursion (IsUnder (length listed)) spreads
all_under listed spreads are =
    let ds = map desk_at_start listed in
    let same : spreads ≡ spreads_from 0 (ids_of (listed_in ds)) (listed_in ds) =
    are ∙ ap (λ ids. spreads_from 0 ids listed) (sym (start_ids listed)) ∙ ap (spreads_from 0 (ids_of (listed_in ds))) (sym (start_listed listed)) in
    let long : length ds ≡ length listed = length-map listed desk_at_start in
    all_of_each (length listed) spreads (λ m d less. subst (λ (n : ℕ). IsUnder n (get_or spreads m d)) long (under_there ds spreads m d same less))

-- ---- a spread of which no part is marked

pub marks_silent : (end : EventEnd) (listed : List Instrument) (marks : List Bool) (kept : List (Option Best)) → IsSilent marks (marked_line end listed marks kept)
marks_silent end listed marks kept s quiet = rw (quiet.slot, quiet.leg1, quiet.leg2) refl

-- ---- a list that is filled

same_there : {X : Type 0} (ys : List X) (i : ℕ) (y : X) → get_or ys i y ≡ get_or ys i (get_or ys i y)
same_there [] i y = refl
same_there (x ∷ ys) zero y = refl
same_there (x ∷ ys) (suc i) y = same_there ys i y

pub filled_more : {X : Type 0} (y : X) (xs ys : List X) (i : ℕ) → i < length xs → ys ≡ map (λ _. y) (take i xs) ++ drop i xs → set ys i y ≡ map (λ _. y) (take (i + 1) xs) ++ drop (i + 1) xs
filled_more y xs ys i less so_far = map_over_more (λ _. y) xs ys i (get_or ys i y) less so_far (same_there ys i y)

pub filled_all : {X : Type 0} (y : X) (xs ys : List X) (i : ℕ) → length xs ≤ i → ys ≡ map (λ _. y) (take i xs) ++ drop i xs → ys ≡ map (λ _. y) xs
filled_all y xs ys i past so_far =
    so_far ∙ ap (λ l. map (λ _. y) (take i xs) ++ l) (drop_all i xs past) ∙ append-nil (map (λ _. y) (take i xs)) ∙ ap (map (λ _. y)) (take_all i xs past)
