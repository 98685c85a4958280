-- The law that a root block with its group has one answer.
use Rattle.std.proofs.Common.{◌≡◌, ◌⊎◌, ℕ, suc, ◌+◌, ◌*◌, ◌<◌, ◌≤◌, List, [], ◌∷◌, ◌++◌, take, drop, length, refl, sym, ap, subst, ◌∙◌, arith, inl, inr, append_assoc}
use Rattle.std.specs.Prelude.{slice_index}
use Rattle.std.specs.List.{concat, AllByRecursion}
use Rattle.std.proofs.lemmas.Bool.{cases_lt}
use Rattle.std.proofs.lemmas.List.{length-append, length-take-le, take-append-drop}
use Rattle.std.proofs.lemmas.List.Elements.{recursion_from_All}
use Rattle.mdp_sbe.specs.Number.{number_at}
use Rattle.mdp_sbe.specs.Answer.{HasOneAnswer}
use Rattle.mdp_sbe.specs.Answer.HasOneAnswer.{is_good, is_refused}
use Rattle.mdp_sbe.specs.Framing.{Parts, IsRoot, IsRefusedRoot}
use Rattle.mdp_sbe.specs.Group.{IsGroup, IsRefusedGroup, IsGrouped, IsRefusedGrouped, pieces}
use Rattle.mdp_sbe.specs.Group.IsRefusedGrouped.{at_root, at_group}
use Rattle.mdp_sbe.specs.declared.refusal.Refusal.{Refusal}
use Rattle.mdp_sbe.specs.declared.refusal.Refusal.TheVariants as refusals
use Rattle.mdp_sbe.proofs.Chains.{chained, beside}
use Rattle.mdp_sbe.proofs.Framings.{same_front}
use Rattle.mdp_sbe.proofs.Pieces.{is_group}

-- ---- the root block

abbrev Root : Parts → ℕ → List ℕ × List ℕ → Type 0
Root message least p = IsRoot message least p.0 p.1

same_root : (message : Parts) (least : ℕ) (p q : List ℕ × List ℕ) → Root message least p → Root message least q → p ≡ q
same_root message least p q a b =
    let same = same_front p.0 q.0 p.1 q.1 (a.stated ∙ sym b.stated) (sym a.whole ∙ b.whole) in
    let make : List ℕ → List ℕ → List ℕ × List ℕ = λ x y. (x, y) in
    ap (λ (x : List ℕ). make x p.1) same.0 ∙ ap (λ (y : List ℕ). make q.0 y) same.1

no_root_fault : (message : Parts) (least : ℕ) (p : List ℕ × List ℕ) (r : Refusal) → Root message least p → IsRefusedRoot message least r → ⊥
no_root_fault message least p refusals.BlockShort is bad = omega (arith, bad, is.long)
no_root_fault message least p refusals.BlockPast is bad = omega (arith, bad.1, is.stated, ap length is.whole, length-append p.0 p.1)
no_root_fault message least p _ is bad = bad

only_short : (message : Parts) (least : ℕ) (s : Refusal) → message.block_length < least → IsRefusedRoot message least s → s ≡ refusals.BlockShort
only_short message least refusals.BlockShort short bad = refl
only_short message least refusals.BlockPast short bad = absurd (omega (arith, short, bad.0))
only_short message least _ short bad = absurd bad

only_past : (message : Parts) (least : ℕ) (s : Refusal) → least ≤ message.block_length → IsRefusedRoot message least s → s ≡ refusals.BlockPast
only_past message least refusals.BlockShort long bad = absurd (omega (arith, long, bad))
only_past message least refusals.BlockPast long bad = refl
only_past message least _ long bad = absurd bad

pub one_root : (message : Parts) (least : ℕ) → HasOneAnswer (λ (p : List ℕ × List ℕ). IsRoot message least p.0 p.1) (IsRefusedRoot message least)
one_root message least =
    elim (cases_lt message.block_length least) [
      | inl short ↦ is_refused refusals.BlockShort short (λ s. only_short message least s short) (λ p is. no_root_fault message least p refusals.BlockShort is short)
      | inr long ↦ elim (cases_lt (length message.body) message.block_length) [
        | inl past ↦ is_refused refusals.BlockPast (long, past) (λ s. only_past message least s long) (λ p is. no_root_fault message least p refusals.BlockPast is (long, past))
        | inr fits ↦
            let n : ℕ = message.block_length in
            let cut : IsRoot message least (take n message.body) (drop n message.body) = record { whole = sym (take-append-drop n message.body); stated = length-take-le n message.body fits; long = long } in
            is_good (take n message.body, drop n message.body) cut (λ p is. same_root message least p (take n message.body, drop n message.body) is cut) (λ r. no_root_fault message least (take n message.body, drop n message.body) r cut)
      ]
    ]

-- ---- the group

abbrev IsPiece : ℕ → ℕ → List ℕ → Type 0
IsPiece least size entry = (length entry ≡ size) × (least ≤ length entry)

length_concat : (least size : ℕ) (entries : List (List ℕ)) → AllByRecursion (IsPiece least size) entries → length (concat entries) ≡ length entries * size
length_concat least size [] each = omega arith
length_concat least size (e ∷ entries) each =
    let more : suc (length entries) * size ≡ size + length entries * size = omega arith in
    omega (arith, length-append e (concat entries), length_concat least size entries each.1, each.0.0, more)

same_pieces : (least size : ℕ) (entries others : List (List ℕ)) (x y : List ℕ) → AllByRecursion (IsPiece least size) entries → AllByRecursion (IsPiece least size) others → length entries ≡ length others → concat entries ++ x ≡ concat others ++ y → entries ≡ others
same_pieces least size [] [] x y a b as_many e = refl
same_pieces least size [] (o ∷ others) x y a b as_many e = absurd (omega (arith, as_many))
same_pieces least size (p ∷ entries) [] x y a b as_many e = absurd (omega (arith, as_many))
same_pieces least size (p ∷ entries) (o ∷ others) x y a b as_many e =
    let both = same_front p o (concat entries ++ x) (concat others ++ y) (a.0.0 ∙ sym b.0.0) (sym (append_assoc p (concat entries) x) ∙ e ∙ append_assoc o (concat others) y) in
    let behind = same_pieces least size entries others x y a.1 b.1 (omega (arith, as_many)) both.1 in
    cc (both.0, behind)

each_piece : (rest : List ℕ) (least : ℕ) (entries : List (List ℕ)) → IsGroup rest least entries → AllByRecursion (IsPiece least (number_at 0 2 rest)) entries
each_piece rest least entries is = recursion_from_All (IsPiece least (number_at 0 2 rest)) entries is.each

same_group : (rest : List ℕ) (least : ℕ) (entries others : List (List ℕ)) → IsGroup rest least entries → IsGroup rest least others → entries ≡ others
same_group rest least entries others a b = same_pieces least (number_at 0 2 rest) entries others a.after b.after (each_piece rest least entries a) (each_piece rest least others b) (a.count ∙ sym b.count) (sym a.whole ∙ b.whole)

some_piece : (least size : ℕ) (entries : List (List ℕ)) → 0 < length entries → AllByRecursion (IsPiece least size) entries → least ≤ size
some_piece least size [] some each = absurd (omega arith)
some_piece least size (e ∷ entries) some each = omega (arith, each.0.0, each.0.1)

no_group_fault : (rest : List ℕ) (least : ℕ) (entries : List (List ℕ)) (r : Refusal) → IsGroup rest least entries → IsRefusedGroup rest least r → ⊥
no_group_fault rest least entries refusals.GroupCut is bad = omega (arith, bad, is.long)
no_group_fault rest least entries refusals.GroupShort is bad = omega (arith, bad.1, bad.2, is.count, some_piece least (number_at 0 2 rest) entries (omega (arith, bad.1, is.count)) (each_piece rest least entries is))
no_group_fault rest least entries refusals.GroupPast is bad =
    let total = length_concat least (number_at 0 2 rest) entries (each_piece rest least entries is) in
    let stated : length entries * number_at 0 2 rest ≡ slice_index rest 2 * number_at 0 2 rest = ap (λ (k : ℕ). k * number_at 0 2 rest) is.count in
    omega (arith, bad.2, total, stated, ap length is.whole, length-append (concat entries) is.after)
no_group_fault rest least entries _ is bad = bad

abbrev Only : List ℕ → ℕ → Refusal → Type 0
Only rest least r = (s : Refusal) → IsRefusedGroup rest least s → s ≡ r

only_group_cut : (rest : List ℕ) (least : ℕ) → IsRefusedGroup rest least refusals.GroupCut → Only rest least refusals.GroupCut
only_group_cut rest least is refusals.GroupCut bad = refl
only_group_cut rest least is refusals.GroupShort bad = absurd (omega (arith, is, bad.0))
only_group_cut rest least is refusals.GroupPast bad = absurd (omega (arith, is, bad.0))
only_group_cut rest least is _ bad = absurd bad

only_group_short : (rest : List ℕ) (least : ℕ) → IsRefusedGroup rest least refusals.GroupShort → Only rest least refusals.GroupShort
only_group_short rest least is refusals.GroupCut bad = absurd (omega (arith, is.0, bad))
only_group_short rest least is refusals.GroupShort bad = refl
only_group_short rest least is refusals.GroupPast bad = absurd (let wide = bad.1 is.1 in omega (arith, is.2, wide))
only_group_short rest least is _ bad = absurd bad

only_group_past : (rest : List ℕ) (least : ℕ) → IsRefusedGroup rest least refusals.GroupPast → Only rest least refusals.GroupPast
only_group_past rest least is refusals.GroupCut bad = absurd (omega (arith, is.0, bad))
only_group_past rest least is refusals.GroupShort bad = absurd (let wide = is.1 bad.1 in omega (arith, bad.2, wide))
only_group_past rest least is refusals.GroupPast bad = refl
only_group_past rest least is _ bad = absurd bad

group_refused : (rest : List ℕ) (least : ℕ) (r : Refusal) → IsRefusedGroup rest least r → Only rest least r → HasOneAnswer (IsGroup rest least) (IsRefusedGroup rest least)
group_refused rest least r bad only = is_refused r bad only (λ entries is. no_group_fault rest least entries r is bad)

wide_group : (rest : List ℕ) (least : ℕ) → 3 ≤ length rest → (0 < slice_index rest 2 → least ≤ number_at 0 2 rest) → HasOneAnswer (IsGroup rest least) (IsRefusedGroup rest least)
wide_group rest least long wide =
    let count : ℕ = slice_index rest 2 in
    let size : ℕ = number_at 0 2 rest in
    elim (cases_lt (length (drop 3 rest)) (count * size)) [
      | inl past ↦ group_refused rest least refusals.GroupPast (long, wide, past) (only_group_past rest least (long, wide, past))
      | inr fits ↦
          let is : IsGroup rest least (pieces count size (drop 3 rest)) = is_group rest least size count (drop 3 rest) refl long refl refl wide fits in
          is_good (pieces count size (drop 3 rest)) is (λ others other. same_group rest least others (pieces count size (drop 3 rest)) other is) (λ r. no_group_fault rest least (pieces count size (drop 3 rest)) r is)
    ]

pub one_group : (rest : List ℕ) (least : ℕ) → HasOneAnswer (IsGroup rest least) (IsRefusedGroup rest least)
one_group rest least =
    elim (cases_lt (length rest) 3) [
      | inl cut ↦ group_refused rest least refusals.GroupCut cut (only_group_cut rest least cut)
      | inr long ↦ elim (cases_lt 0 (slice_index rest 2)) [
        | inr none ↦ wide_group rest least long (λ some. absurd (omega (arith, none, some)))
        | inl some ↦ elim (cases_lt (number_at 0 2 rest) least) [
          | inl short ↦ group_refused rest least refusals.GroupShort (long, some, short) (only_group_short rest least (long, some, short))
          | inr wide ↦ wide_group rest least long (λ _. wide)
        ]
      ]
    ]

-- ---- both

fault_of : (message : Parts) (least_root least_entry : ℕ) (r : Refusal) → IsRefusedGrouped message least_root least_entry r → IsRefusedRoot message least_root r ⊎ ((p : List ℕ × List ℕ) × IsRoot message least_root p.0 p.1 × IsRefusedGroup p.1 least_entry r)
fault_of message least_root least_entry r (at_root bad) = inl bad
fault_of message least_root least_entry r (at_group root rest block bad) = inr ((root, rest), block, bad)

pub one_grouped : (message : Parts) (least_root least_entry : ℕ) → HasOneAnswer (λ (p : List ℕ × List (List ℕ)). IsGrouped message least_root least_entry p.0 p.1) (IsRefusedGrouped message least_root least_entry)
one_grouped message least_root least_entry =
    chained
    (λ (p : List ℕ × List ℕ). IsRoot message least_root p.0 p.1) (IsRefusedRoot message least_root)
    (λ (p : List ℕ × List ℕ) (q : List ℕ × List (List ℕ)). (q.0 ≡ p.0) × IsGroup p.1 least_entry q.1) (λ (p : List ℕ × List ℕ). IsRefusedGroup p.1 least_entry)
    (λ (q : List ℕ × List (List ℕ)). IsGrouped message least_root least_entry q.0 q.1) (IsRefusedGrouped message least_root least_entry)
    (record {
      value = λ p q block is. record { rest = p.1; block = subst (λ (x : List ℕ). IsRoot message least_root x p.1) (sym is.0) block; group = is.1 };
      steps = λ q is. ((q.0, is.rest), is.block, (refl, is.group));
      early = λ r bad. at_root bad;
      late = λ p r block bad. at_group p.0 p.1 block bad;
      fault = fault_of message least_root least_entry;
    })
    (one_root message least_root)
    (λ p block. beside p.0 (IsGroup p.1 least_entry) (IsRefusedGroup p.1 least_entry) (one_group p.1 least_entry))
