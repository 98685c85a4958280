-- What holds of a list holds of one's own part of it.
use Rattle.std.proofs.Common.{◌≡◌, ℕ, ◌+◌, ◌<◌, zero, suc, drop, get_or, Bool, true, false, cond, List, [], ◌∷◌, ◌++◌, length, map, refl, sym, ap, ◌∙◌, append_assoc, arith}
use Rattle.std.specs.List.{All, AllPairs}
use Rattle.std.proofs.lemmas.List.Elements.{All-cons}
use Rattle.std.proofs.lemmas.List.Kept.{AllPairs-cons}
use Rattle.mdp_desks.specs.Shares.{own_part, own_slots}

pub own_all : {X : Type 0} (P : X → Type 0) (mine : ℕ → Bool) (slot : ℕ) (xs : List X) → All P xs → All P (own_part mine slot xs)
own_all P mine slot [] all = all
own_all P mine slot (x ∷ xs) all = by_mine (mine slot) (own_all P mine (slot + 1) xs (λ i d less. all (suc i) d (omega (arith, less))))
  where
    by_mine : (b : Bool) → All P (own_part mine (slot + 1) xs) → All P (cond b (x ∷ own_part mine (slot + 1) xs) (own_part mine (slot + 1) xs))
    by_mine true others = All-cons P x (own_part mine (slot + 1) xs) (all 0 x (omega arith)) others
    by_mine false others = others

pub own_pairs : {X : Type 0} (R : X → X → Type 0) (mine : ℕ → Bool) (slot : ℕ) (xs : List X) → AllPairs R xs → AllPairs R (own_part mine slot xs)
own_pairs R mine slot [] all = all
own_pairs R mine slot (x ∷ xs) all = by_mine (mine slot) (own_pairs R mine (slot + 1) xs (λ i j d less below. all (suc i) (suc j) d (omega (arith, less)) (omega (arith, below))))
  where
    first : All (R x) xs
    first = λ i d less. all 0 (suc i) d (omega arith) (omega (arith, less))

    by_mine : (b : Bool) → AllPairs R (own_part mine (slot + 1) xs) → AllPairs R (cond b (x ∷ own_part mine (slot + 1) xs) (own_part mine (slot + 1) xs))
    by_mine true others = AllPairs-cons R x (own_part mine (slot + 1) xs) (own_all (R x) mine (slot + 1) xs first) others
    by_mine false others = others

pub own_as_many : {X Y : Type 0} (f : X → Y) (mine : ℕ → Bool) (slot : ℕ) (xs : List X) → length (own_slots mine slot xs) ≡ length (map f (own_part mine slot xs))
own_as_many f mine slot [] = refl
own_as_many f mine slot (x ∷ xs) = by_mine (mine slot) (own_as_many f mine (slot + 1) xs)
  where
    by_mine : (b : Bool) → length (own_slots mine (slot + 1) xs) ≡ length (map f (own_part mine (slot + 1) xs))
        → length (cond b (slot ∷ own_slots mine (slot + 1) xs) (own_slots mine (slot + 1) xs)) ≡ length (map f (cond b (x ∷ own_part mine (slot + 1) xs) (own_part mine (slot + 1) xs)))
    by_mine true others = ap (λ (n : ℕ). suc n) others
    by_mine false others = others

-- ---- slot by slot

first_slot : {X : Type 0} (mine : ℕ → Bool) (xs : List X) (slot n : ℕ) → n < length xs → own_slots mine slot (drop n xs) ≡ cond (mine slot) (slot ∷ own_slots mine (slot + 1) (drop (suc n) xs)) (own_slots mine (slot + 1) (drop (suc n) xs))
first_slot mine [] slot n less = absurd (omega (arith, less))
first_slot mine (x ∷ xs) slot zero less = refl
first_slot mine (x ∷ xs) slot (suc n) less = first_slot mine xs slot n (omega (arith, less))

next_slot : {X : Type 0} (mine : ℕ → Bool) (xs : List X) (n : ℕ) → n < length xs → own_slots mine n (drop n xs) ≡ cond (mine n) (n ∷ own_slots mine (n + 1) (drop (n + 1) xs)) (own_slots mine (n + 1) (drop (n + 1) xs))
next_slot mine xs n less =
    let one : suc n ≡ n + 1 = omega arith in
    first_slot mine xs n n less ∙ ap (λ (k : ℕ). cond (mine n) (n ∷ own_slots mine (n + 1) (drop k xs)) (own_slots mine (n + 1) (drop k xs))) one

first_own : {X : Type 0} (mine : ℕ → Bool) (xs : List X) (slot n : ℕ) (d : X) → n < length xs → own_part mine slot (drop n xs) ≡ cond (mine slot) (get_or xs n d ∷ own_part mine (slot + 1) (drop (suc n) xs)) (own_part mine (slot + 1) (drop (suc n) xs))
first_own mine [] slot n d less = absurd (omega (arith, less))
first_own mine (x ∷ xs) slot zero d less = refl
first_own mine (x ∷ xs) slot (suc n) d less = first_own mine xs slot n d (omega (arith, less))

next_own : {X : Type 0} (mine : ℕ → Bool) (xs : List X) (n : ℕ) (d : X) → n < length xs → own_part mine n (drop n xs) ≡ cond (mine n) (get_or xs n d ∷ own_part mine (n + 1) (drop (n + 1) xs)) (own_part mine (n + 1) (drop (n + 1) xs))
next_own mine xs n d less =
    let one : suc n ≡ n + 1 = omega arith in
    first_own mine xs n n d less ∙ ap (λ (k : ℕ). cond (mine n) (get_or xs n d ∷ own_part mine (n + 1) (drop k xs)) (own_part mine (n + 1) (drop k xs))) one

pub slot_taken : {X : Type 0} (mine : ℕ → Bool) (xs : List X) (n : ℕ) (old new whole : List ℕ) → n < length xs → mine n ≡ true → new ≡ old ++ n ∷ []
    → old ++ own_slots mine n (drop n xs) ≡ whole → new ++ own_slots mine (n + 1) (drop (n + 1) xs) ≡ whole
slot_taken mine xs n old new whole less own grown so_far =
    let later = own_slots mine (n + 1) (drop (n + 1) xs) in
    ap (λ (l : List ℕ). l ++ later) grown
    ∙ append_assoc old (n ∷ []) later
    ∙ ap (λ (b : Bool). old ++ cond b (n ∷ later) later) (sym own)
    ∙ ap (λ (l : List ℕ). old ++ l) (sym (next_slot mine xs n less))
    ∙ so_far

pub slot_left : {X : Type 0} (mine : ℕ → Bool) (xs : List X) (n : ℕ) (old new whole : List ℕ) → n < length xs → mine n ≡ false → new ≡ old
    → old ++ own_slots mine n (drop n xs) ≡ whole → new ++ own_slots mine (n + 1) (drop (n + 1) xs) ≡ whole
slot_left mine xs n old new whole less other same so_far =
    let later = own_slots mine (n + 1) (drop (n + 1) xs) in
    ap (λ (l : List ℕ). l ++ later) same
    ∙ ap (λ (b : Bool). old ++ cond b (n ∷ later) later) (sym other)
    ∙ ap (λ (l : List ℕ). old ++ l) (sym (next_slot mine xs n less))
    ∙ so_far

pub own_taken : {X : Type 0} (mine : ℕ → Bool) (xs : List X) (n : ℕ) (d x : X) (old new whole : List X) → n < length xs → mine n ≡ true → x ≡ get_or xs n d → new ≡ old ++ x ∷ []
    → old ++ own_part mine n (drop n xs) ≡ whole → new ++ own_part mine (n + 1) (drop (n + 1) xs) ≡ whole
own_taken mine xs n d x old new whole less own is grown so_far =
    let later = own_part mine (n + 1) (drop (n + 1) xs) in
    ap (λ l. l ++ later) grown
    ∙ append_assoc old (x ∷ []) later
    ∙ ap (λ y. old ++ y ∷ later) is
    ∙ ap (λ (b : Bool). old ++ cond b (get_or xs n d ∷ later) later) (sym own)
    ∙ ap (λ l. old ++ l) (sym (next_own mine xs n d less))
    ∙ so_far

other_own : {X : Type 0} (mine : ℕ → Bool) (xs : List X) (slot n : ℕ) → n < length xs → mine slot ≡ false → own_part mine slot (drop n xs) ≡ own_part mine (slot + 1) (drop (suc n) xs)
other_own mine [] slot n less other = absurd (omega (arith, less))
other_own mine (x ∷ xs) slot zero less other = ap (λ (b : Bool). cond b (x ∷ own_part mine (slot + 1) xs) (own_part mine (slot + 1) xs)) other
other_own mine (x ∷ xs) slot (suc n) less other = other_own mine xs slot n (omega (arith, less)) other

pub own_left : {X : Type 0} (mine : ℕ → Bool) (xs : List X) (n : ℕ) (old new whole : List X) → n < length xs → mine n ≡ false → new ≡ old
    → old ++ own_part mine n (drop n xs) ≡ whole → new ++ own_part mine (n + 1) (drop (n + 1) xs) ≡ whole
own_left mine xs n old new whole less other same so_far =
    let one : suc n ≡ n + 1 = omega arith in
    ap (λ l. l ++ own_part mine (n + 1) (drop (n + 1) xs)) same
    ∙ ap (λ (k : ℕ). old ++ own_part mine (n + 1) (drop k xs)) (sym one)
    ∙ ap (λ l. old ++ l) (sym (other_own mine xs n n less other))
    ∙ so_far
