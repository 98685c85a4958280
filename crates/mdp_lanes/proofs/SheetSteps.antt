-- What an update does to the rows of a copy is what its step does to each slot's row.
use Rattle.std.proofs.Common.{All, ◌≡◌, ◌≢◌, ◌==◌, ℕ, ◌<◌, Bool, true, false, List, [], ◌∷◌, ◌++◌, length, get_or, fold, map, filter, refl, ap, sym, ◌∙◌, subst, arith, get_or-set_same, get_or-set_other, length-set, cond}
use Rattle.std.proofs.lemmas.Bool.Decides.{nat_tests}
use Rattle.std.proofs.lemmas.List.{get_or-replicate, length-replicate, ext_get_or, get_or-map, length-map}
use Rattle.mdp_lanes.specs.declared.row.Row.{Row}
use Rattle.mdp_lanes.specs.declared.row.Row.TheVariants.{Never, Stale}
use Rattle.mdp_lanes.specs.declared.step.Step.{Step}
use Rattle.mdp_lanes.specs.declared.update.Change.{Change}
use Rattle.mdp_lanes.specs.declared.update.Change.TheVariants.{Wipe, Give}
use Rattle.mdp_lanes.specs.Rows.{rows_given, last_row, row_after, rows_after}
use Rattle.mdp_lanes.specs.Updates.{with_row, step_of, changed_rows}
use Rattle.mdp_lanes.specs.Boards.{AreRowsAfter}
use Rattle.mdp_lanes.proofs.RowSteps.{after_jump, after_event}

with_rows-length : (rows : List Row) (pairs : List (ℕ × Row)) → length (fold with_row rows pairs) ≡ length rows
with_rows-length rows [] = refl
with_rows-length rows (p ∷ pairs) = with_rows-length (with_row rows p) pairs ∙ length-set rows p.0 p.1

-- one pair, at a slot: by whether it is the slot's
with_row-at : (rows : List Row) (p : ℕ × Row) (pairs : List (ℕ × Row)) (slot : ℕ) → slot < length rows
    → (b : Bool) → (p.0 == slot) ≡ b
    → last_row (get_or (with_row rows p) slot Never) (rows_given slot pairs)
    ≡ last_row (get_or rows slot Never) (map (λ (q : ℕ × Row). q.1) (cond b (p ∷ filter (λ (q : ℕ × Row). q.0 == slot) pairs) (filter (λ (q : ℕ × Row). q.0 == slot) pairs)))
with_row-at rows p pairs slot lt true is =
    let same : p.0 ≡ slot = grind (arith, nat_tests) in
    let row : get_or (with_row rows p) slot Never ≡ p.1 =
    subst (λ (k : ℕ). get_or (with_row rows p) k Never ≡ p.1) same (get_or-set_same rows p.0 p.1 Never (omega arith)) in
    ap (λ r. last_row r (rows_given slot pairs)) row
with_row-at rows p pairs slot lt false is =
    let other : slot ≢ p.0 = grind (arith, nat_tests) in
    ap (λ r. last_row r (rows_given slot pairs)) (get_or-set_other rows p.0 slot p.1 Never other)

with_rows-at : (rows : List Row) (pairs : List (ℕ × Row)) (slot : ℕ) → slot < length rows
    → get_or (fold with_row rows pairs) slot Never ≡ last_row (get_or rows slot Never) (rows_given slot pairs)
with_rows-at rows [] slot lt = refl
with_rows-at rows (p ∷ pairs) slot lt =
    let there : slot < length (with_row rows p) = omega (arith, length-set rows p.0 p.1) in
    with_rows-at (with_row rows p) pairs slot there ∙ with_row-at rows p pairs slot lt (p.0 == slot) refl

module _ {A : Type 0} where
  pub changed-length : (rows : List Row) (c : Change A) → length (changed_rows rows c) ≡ length rows
  changed-length rows Wipe = length-replicate (length rows) Stale
  changed-length rows (Give pairs) = with_rows-length rows pairs.items

  -- a copy that has the rows of some steps has, changed, those of one step more
  pub changed_are : (rows : List Row) (steps : List Step) (c : Change A) → AreRowsAfter rows steps → AreRowsAfter (changed_rows rows c) (steps ++ step_of c ∷ [])
  changed_are rows steps Wipe are slot lt =
      let there : slot < length rows = omega (arith, length-replicate (length rows) Stale) in
      get_or-replicate (length rows) slot Stale Never there ∙ sym (after_jump slot steps)
  changed_are rows steps (Give pairs) are slot lt =
      let there : slot < length rows = omega (arith, with_rows-length rows pairs.items) in
      with_rows-at rows pairs.items slot there
      ∙ (ap (λ r. last_row r (rows_given slot pairs.items)) (are slot there) ∙ sym (after_event slot steps pairs.items))

-- ---- rows that are copied

-- what was copied place by place
pub copied : (rows : List Row) (slots : List ℕ) (out : List Row) → length out ≡ length slots
    → ((k : ℕ) → k < length slots → get_or out k Never ≡ get_or rows (get_or slots k 0) Never)
    → out ≡ map (λ slot. get_or rows slot Never) slots
copied rows slots out many each =
    let row : ℕ → Row = λ slot. get_or rows slot Never in
    ext_get_or Never out (map row slots) (many ∙ sym (length-map slots row)) (λ k lt.
    let within : k < length slots = omega (arith, many) in
    each k within ∙ sym (get_or-map row slots k 0 Never within))

-- of a copy that has the rows of some steps
pub copied_are : (rows : List Row) (slots : List ℕ) (steps : List Step) → AreRowsAfter rows steps → All (λ slot. slot < length rows) slots
    → map (λ slot. get_or rows slot Never) slots ≡ rows_after slots steps
copied_are rows slots steps are within =
    let row : ℕ → Row = λ slot. get_or rows slot Never in
    let after : ℕ → Row = λ slot. row_after slot steps in
    ext_get_or Never (map row slots) (map after slots) (length-map slots row ∙ sym (length-map slots after)) (λ k lt.
    let there : k < length slots = omega (arith, length-map slots row) in
    get_or-map row slots k 0 Never there ∙ (are (get_or slots k 0) (within k 0 there) ∙ sym (get_or-map after slots k 0 Never there)))
