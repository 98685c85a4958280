-- Each step of an end keeps the rule of the board.
use Rattle.std.proofs.Common.{◌≡◌, ℕ, ◌≢◌, false, List, [], ◌∷◌, ◌++◌, length, set, replicate, refl, ap, sym, ◌∙◌, subst, ⊎_elim, arith}
use Rattle.std.specs.Prelude.{is_err, IsOk, MatchResult, Ok, Err, Result}
use Rattle.std.proofs.lemmas.List.{append-nil, get_or-replicate, length-replicate}
use mathlib.Core.List.{IsPrefix}
use mathlib.Core.Option.{some, some-ne-none}
use lib.ListN.{get_elem?}
use Rattle.crossbeam_utils.specs.Register.{Admits, TurnsAt, Forks, Merges}
use Rattle.atomic_table.proofs.Lists.{at_set, at_snoc}
use Rattle.mdp_lanes.specs.declared.row.Row.{Row}
use Rattle.mdp_lanes.specs.declared.row.Row.TheVariants.{Never}
use Rattle.mdp_lanes.specs.declared.sheet.Sheet.{Sheet}
use Rattle.mdp_lanes.specs.declared.update.Update.{Update}
use Rattle.mdp_lanes.specs.declared.shown.Known.{Known}
use Rattle.mdp_lanes.specs.Updates.{step_of, changed_rows, face, next_face}
use Rattle.mdp_lanes.specs.Boards.{AreRowsAfter, newcomer, IsSheet, FitsSheet, IsBoard, knower, Finds, Continues}
use Rattle.mdp_lanes.proofs.Fronts.{front_of_front}
use Rattle.mdp_lanes.proofs.SheetSteps.{changed-length, changed_are}

module _ {A : Type 0} where
  -- what all ends know is so
  abbrev AllFit : Sheet A → List Known → Type 0
  AllFit s views = (seat : ℕ) (v : Known) → get_elem? views seat ≡ some v → FitsSheet s v

  with_view : (s : Sheet A) (views : List Known) (seat : ℕ) (v : Known) → AllFit s views → FitsSheet s v → AllFit s (set views seat v)
  with_view s views seat v all fit other u at =
      ⊎_elim (λ (t : (other ≡ seat) × (v ≡ u)). subst (FitsSheet s) t.1 fit)
      (λ (t : (other ≢ seat) × (get_elem? views other ≡ some u)). all other u t.1) (at_set views seat other v u at)

  with_new : (s : Sheet A) (views : List Known) (v : Known) → AllFit s views → FitsSheet s v → AllFit s (views ++ v ∷ [])
  with_new s views v all fit other u at =
      ⊎_elim (all other u) (λ (same : v ≡ u). subst (FitsSheet s) same fit) (at_snoc views v u other at)

  newcomer_fits : (s : Sheet A) → FitsSheet s newcomer
  newcomer_fits s = (omega arith, λ some_slot. absurd (omega arith), (s.front.log, refl))

  knower_fits : (s : Sheet A) → FitsSheet s (knower s)
  knower_fits s = (omega arith, λ some_slot. refl, ([], append-nil s.front.log))

  -- ---- readers

  pub admits : Admits (IsBoard {A = A}) newcomer
  admits s views h = (h.0, with_new s views newcomer h.1 (newcomer_fits s))

  pub looks : (seat : ℕ) (v : Known) (s : Sheet A) → TurnsAt (IsBoard {A = A}) seat v s s Finds
  looks seat v s views h at =
      (knower s, (h.0, with_view s views seat (knower s) h.1 (knower_fits s)), (refl, h.0, h.1 seat v at, refl))

  pub introduces : (seat : ℕ) (v : Known) → Forks (IsBoard {A = A}) seat v v v
  introduces seat v s views h at =
      let fit = h.1 seat v at in
      (h.0, with_new s (set views seat v) v (with_view s views seat v h.1 fit) fit)

  pub is_introduced : (seat : ℕ) (v : Known) (other : ℕ) (w : Known) → Merges (IsBoard {A = A}) seat v other w w newcomer
  is_introduced seat v other w s views h at apart there =
      let fit : FitsSheet s w = ⊎_elim (λ (t : (other ≡ seat) × (w ≡ w)). absurd (apart t.0))
      (λ (t : (other ≢ seat) × (get_elem? views other ≡ some w)). h.1 other w t.1) (at_set views seat other w w there) in
      (h.0, with_view s (set views seat w) other newcomer (with_view s views seat w h.1 fit) (newcomer_fits s))

  -- ---- the publisher

  -- a copy of the same board with the same slots, which goes on from another's steps, takes its place
  shows : (seat : ℕ) (v : Known) (x y : Sheet A) → length y.rows.items ≡ length x.rows.items → y.front.book ≡ x.front.book
      → IsPrefix x.front.log y.front.log → (IsSheet x → IsSheet y) → TurnsAt (IsBoard {A = A}) seat v x y Finds
  shows seat v x y many board longer are views h at =
      let fits : (w : Known) → FitsSheet x w → FitsSheet y w =
      λ w fit. (omega (arith, fit.0, many), λ some_slot. fit.1 some_slot ∙ sym board, front_of_front w.front.log x.front.log y.front.log fit.2 longer) in
      let all : AllFit y views = λ other w there. fits w (h.1 other w there) in
      (knower y, (are h.0, with_view y views seat (knower y) all (knower_fits y)), (refl, are h.0, fits v (h.1 seat v at), many))

  -- an update that goes on from what is shown
  pub publishes : (seat : ℕ) (v : Known) (x y : Sheet A) (u : Update A) → Continues x u → face y ≡ next_face (face x) u → TurnsAt (IsBoard {A = A}) seat v x y Finds
  publishes seat v x y u on is =
      let rows : y.rows.items ≡ changed_rows x.rows.items u.change = ap (λ f. f.rows) is in
      let front : y.front ≡ u.front = ap (λ f. f.front) is in
      let steps : y.front.log ≡ x.front.log ++ step_of u.change ∷ [] = ap (λ f. f.log) front ∙ on.0 in
      let are : IsSheet x → IsSheet y = λ h. (
        subst (λ rs. AreRowsAfter rs y.front.log) (sym rows)
            (subst (AreRowsAfter (changed_rows x.rows.items u.change)) (sym steps) (changed_are x.rows.items x.front.log u.change h.0)),
        ap (λ f. f.length) is ∙ (on.2 ∙ ap (λ f. length f.log) (sym front)),
      ) in
      shows seat v x y (ap length rows ∙ changed-length x.rows.items u.change) (ap (λ f. f.book) front ∙ on.1) (step_of u.change ∷ [], sym steps) are

  -- an update that changes nothing
  pub shows_again : (seat : ℕ) (v : Known) (x y : Sheet A) (u : Update A) → ((rows : List Row) → changed_rows rows u.change ≡ rows)
      → u.front ≡ x.front → u.length ≡ x.length → face y ≡ next_face (face x) u → TurnsAt (IsBoard {A = A}) seat v x y Finds
  shows_again seat v x y u keeps front many is =
      let rows : y.rows.items ≡ x.rows.items = ap (λ f. f.rows) is ∙ keeps x.rows.items in
      let same : y.front ≡ x.front = ap (λ f. f.front) is ∙ front in
      let number : y.length ≡ x.length = ap (λ f. f.length) is ∙ many in
      let are : IsSheet x → IsSheet y = λ h. rw (rows, same, number) h in
      shows seat v x y (ap length rows) (ap (λ f. f.book) same) ([], append-nil x.front.log ∙ ap (λ f. f.log) (sym same)) are

  -- what is pending behind nothing, once an update was appended, is that update
  pub pends_alone : (r : Result (Unit {0}) (Update A)) (pending before : List (Update A)) (u : Update A) → is_err r ≡ false
      → MatchResult r (λ _. pending ≡ before ++ u ∷ []) (λ back. (back ≡ u) × (pending ≡ before)) → before ≡ [] → pending ≡ u ∷ []
  pends_alone (Ok done) pending before u good h none = h ∙ ap (λ us. us ++ u ∷ []) none
  pends_alone (Err back) pending before u good h none = absurd (cc good)

  -- a board on which nothing was published
  pub begins : (s : Sheet A) (slots : ℕ) → s.rows.items ≡ replicate slots Never → s.length ≡ 0 → s.front.log ≡ [] → IsBoard s (newcomer ∷ [])
  begins s slots rows zero_steps none =
      let are : AreRowsAfter s.rows.items s.front.log =
      rw (rows, none) (λ slot lt. get_or-replicate slots slot Never Never (omega (arith, length-replicate slots Never))) in (
        (are, zero_steps ∙ ap length (sym none)),
        with_new s [] newcomer (λ other u at. absurd (some-ne-none u (sym at))) (newcomer_fits s),
      )

-- what is so where a call went well, which it did
pub went_well : {X E : Type 0} (P Q : Type 0) (r : Result X E) → IsOk r → MatchResult r (λ _. P) (λ _. Q) → P
went_well P Q (Ok x) well h = h
went_well P Q (Err e) well h = absurd (cc well)
