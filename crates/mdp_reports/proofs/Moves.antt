-- What desks report of moves, one after another: the law of reports.
use Rattle.std.proofs.Common.{◌≡◌, ◌<◌, ℕ, zero, suc, ◌+◌, Bool, true, false, cond, List, [], ◌∷◌, ◌++◌, map, length, drop, get_or, refl, sym, ap, subst, ◌∙◌, append_assoc, arith}
use Rattle.std.specs.Prelude.{Option, Some, slice_get}
use Rattle.std.proofs.lemmas.List.{append-nil, length-map, map-append}
use Rattle.mdp_templates.specs.Snapshot.{SnapshotContent}
use Rattle.mdp_templates.specs.declared.instrument.Instrument.{Instrument}
use Rattle.mdp_books.specs.Feed.{Sent, sent_in}
use Rattle.mdp_arbiter.specs.Machine.{Move}
use Rattle.mdp_arbiter.specs.Machine.Move.{passed, jumped}
use Rattle.mdp_desks.specs.declared.desk.Desk.{Desk}
use Rattle.mdp_desks.specs.Shown.{SinceJump, since_after, since_through}
use Rattle.mdp_desks.specs.Desks.{desk_after, desks_after, passed_desks, rebased_desks, snapshots_at}
use Rattle.mdp_desks.specs.Shows.{Shows}
use Rattle.mdp_desks.specs.Moments.{Moment, moments, moments_of, moments_on, moments_after}
use Rattle.mdp_desks.specs.Reports.{Report, of_jump, report_by}
use Rattle.mdp_desks.specs.Shares.{own_part, own_slots, own_move, own_moves}
use Rattle.mdp_desks.proofs.Hearing.{length_rebased}
use Rattle.mdp_desks.proofs.Sharing.{law_of_shares}
use Rattle.mdp_desks.proofs.Showing.{pass_moments, shows_jumped, shows_passed, since_after-push}
use Rattle.mdp_reports.specs.ReportLaw.{AreFull, LawOfReports, StandBehind}
use Rattle.mdp_reports.specs.Reporting.{desks_after_move, reports_of_move, desks_after_moves, reports_of_moves}

-- ---- one's own snapshots

own_long : {X Y : Type 0} (mine : ℕ → Bool) (k : ℕ) (xs : List X) (ys : List Y) → length xs ≡ length ys → length (own_part mine k xs) ≡ length (own_part mine k ys)
own_long mine k [] [] is = refl
own_long mine k [] (y ∷ ys) is = absurd cc
own_long mine k (x ∷ xs) [] is = absurd cc
own_long mine k (x ∷ xs) (y ∷ ys) is = by_mine (mine k) (own_long mine (k + 1) xs ys (omega (arith, is)))
  where
    by_mine : (b : Bool) → length (own_part mine (k + 1) xs) ≡ length (own_part mine (k + 1) ys) → length (cond b (x ∷ own_part mine (k + 1) xs) (own_part mine (k + 1) xs)) ≡ length (cond b (y ∷ own_part mine (k + 1) ys) (own_part mine (k + 1) ys))
    by_mine true rest = omega (arith, rest)
    by_mine false rest = rest

abbrev all_some : List SnapshotContent → List (Option SnapshotContent)
all_some ss = map (λ (s : SnapshotContent). Some s) ss

picks : (mine : ℕ → Bool) (all : List SnapshotContent) (k : ℕ) (listed : List Instrument) (rest : List SnapshotContent) → length rest ≡ length listed → ((i : ℕ) → slice_get all (k + i) ≡ slice_get rest i)
    → snapshots_at (own_slots mine k listed) all ≡ all_some (own_part mine k rest)
picks mine all k [] [] is at = refl
picks mine all k [] (s ∷ rest) is at = absurd cc
picks mine all k (i ∷ listed) [] is at = absurd cc
picks mine all k (i ∷ listed) (s ∷ rest) is at = by_mine (mine k) (picks mine all (k + 1) listed rest (omega (arith, is)) later)
  where
    later : (n : ℕ) → slice_get all (k + 1 + n) ≡ slice_get rest n
    later n = let same : k + 1 + n ≡ k + suc n = omega arith in ap (slice_get all) same ∙ at (suc n)

    here : slice_get all k ≡ Some s
    here = let same : k ≡ k + 0 = omega arith in ap (slice_get all) same ∙ at 0

    by_mine : (b : Bool) → snapshots_at (own_slots mine (k + 1) listed) all ≡ all_some (own_part mine (k + 1) rest)
        → snapshots_at (cond b (k ∷ own_slots mine (k + 1) listed) (own_slots mine (k + 1) listed)) all ≡ all_some (cond b (s ∷ own_part mine (k + 1) rest) (own_part mine (k + 1) rest))
    by_mine true others = ap (λ (o : Option SnapshotContent). o ∷ snapshots_at (own_slots mine (k + 1) listed) all) here ∙ ap (λ (l : List (Option SnapshotContent)). Some s ∷ l) others
    by_mine false others = others

own_picked : (mine : ℕ → Bool) (listed : List Instrument) (ss : List SnapshotContent) → length ss ≡ length listed → snapshots_at (own_slots mine 0 listed) ss ≡ all_some (own_part mine 0 ss)
own_picked mine listed ss is = picks mine ss 0 listed ss is (λ i. let same : 0 + i ≡ i = omega arith in ap (slice_get ss) same)

-- ---- move by move

stands : (listed : List Instrument) (moves : List Move) (ds : List Desk) (shown : List Moment) → Shows listed moves ds shown → StandBehind listed moves ds
stands listed moves ds shown is = record { listed_are = is.listed_are; each = is.each; shown_is = refl }

pushed : (listed : List Instrument) (slots : List ℕ) (before : List Move) (m : Move) (moves : List Move)
    → map (report_by slots) (moments_after listed (before ++ m ∷ []) moves) ≡ map (report_by slots) (moments_on listed (since_through listed (since_after listed before) m) moves)
pushed listed slots before m moves = ap (λ (s : SinceJump). map (report_by slots) (moments_on listed s moves)) (since_after-push listed before m)

abbrev Reported : (ℕ → Bool) → List Instrument → List Move → List Move → List Desk → Type 0
Reported mine listed before moves ds =
    (reports_of_moves (own_slots mine 0 listed) moves ds ≡ map (report_by (own_slots mine 0 listed)) (moments_after (own_part mine 0 listed) before (own_moves mine moves)))
    × StandBehind (own_part mine 0 listed) (before ++ own_moves mine moves) (desks_after_moves (own_slots mine 0 listed) moves ds)

reported : (mine : ℕ → Bool) (listed : List Instrument) (before moves : List Move) (ds : List Desk) → AreFull listed moves → StandBehind (own_part mine 0 listed) before ds → Reported mine listed before moves ds
reported mine listed before [] ds full is = (refl, subst (λ (b : List Move). StandBehind (own_part mine 0 listed) b ds) (sym (append-nil before)) is)
reported mine listed before (passed p ∷ moves) ds full is =
    let mine_listed = own_part mine 0 listed in
    let slots = own_slots mine 0 listed in
    let after = passed_desks (sent_in p) ds in
    let next = stands mine_listed (before ++ passed p ∷ []) after _ (shows_passed mine_listed before p ds after (moments mine_listed before) _ refl refl is) in
    let rest = reported mine listed (before ++ passed p ∷ []) moves after full next in (
      ap (λ (l : List Report). l ++ reports_of_moves slots moves after) (ap (map (report_by slots)) (pass_moments (sent_in p) (since_after mine_listed before).since (since_after mine_listed before).footings ds is.each))
          ∙ ap (λ (l : List Report). map (report_by slots) (moments_of (since_after mine_listed before) (passed p)) ++ l) (rest.0 ∙ pushed mine_listed slots before (passed p) (own_moves mine moves))
          ∙ sym (map-append (report_by slots) (moments_of (since_after mine_listed before) (passed p)) (moments_on mine_listed (since_through mine_listed (since_after mine_listed before) (passed p)) (own_moves mine moves))),
      subst (λ (b : List Move). StandBehind mine_listed b (desks_after_moves slots moves after)) (append_assoc before (passed p ∷ []) (own_moves mine moves)) rest.1,
    )
reported mine listed before (jumped old new ss ∷ moves) ds full is =
    let mine_listed = own_part mine 0 listed in
    let slots = own_slots mine 0 listed in
    let m = jumped old new (own_part mine 0 ss) in
    let after = rebased_desks (snapshots_at slots ss) ds in
    let same : after ≡ rebased_desks (all_some (own_part mine 0 ss)) ds = ap (λ (b : List (Option SnapshotContent)). rebased_desks b ds) (own_picked mine listed ss full.0) in
    let next = stands mine_listed (before ++ m ∷ []) after _ (shows_jumped mine_listed before old new (own_part mine 0 ss) ds after (moments mine_listed before) _ (own_long mine 0 ss listed full.0) same refl is) in
    let rest = reported mine listed (before ++ m ∷ []) moves after full.1 next in (
      ap (λ (l : List Report). of_jump old new ∷ l) (rest.0 ∙ pushed mine_listed slots before m (own_moves mine moves)),
      subst (λ (b : List Move). StandBehind mine_listed b (desks_after_moves slots moves after)) (append_assoc before (m ∷ []) (own_moves mine moves)) rest.1,
    )

pub law_of_reports : LawOfReports
law_of_reports mine listed before moves ds full is =
    let r = reported mine listed (own_moves mine before) moves ds full is in
    (r.0 ∙ law_of_shares mine listed before moves, subst (λ (b : List Move). StandBehind (own_part mine 0 listed) b (desks_after_moves (own_slots mine 0 listed) moves ds)) (sym (map-append (own_move mine) before moves)) r.1)

-- ---- turn by turn

passed_long : (ms : List Sent) (ds : List Desk) → length (passed_desks ms ds) ≡ length ds
passed_long [] ds = refl
passed_long (m ∷ ms) ds = passed_long ms (desks_after m ds) ∙ length-map ds (desk_after m)

moved_long : (slots : List ℕ) (m : Move) (ds : List Desk) → length (desks_after_move slots m ds) ≡ length ds
moved_long slots (passed p) ds = passed_long (sent_in p) ds
moved_long slots (jumped old new ss) ds = length_rebased (snapshots_at slots ss) ds

next_move : {X : Type 0} (f : X → Move) (xs : List X) (n : ℕ) (d x : X) → n < length xs → x ≡ get_or xs n d → map f (drop n xs) ≡ f x ∷ map f (drop (suc n) xs)
next_move f [] n d x less is = absurd (omega (arith, less))
next_move f (y ∷ xs) zero d x less is = ap (λ z. f z ∷ map f xs) (sym is)
next_move f (y ∷ xs) (suc n) d x less is = next_move f xs n d x (omega (arith, less)) is

pub record Goes (slots : List ℕ) (here later : List Move) (old new : List Desk) (out grown : List Report) : Type 0 where
  pub many : length new ≡ length old
  pub desks : desks_after_moves slots later new ≡ desks_after_moves slots here old
  pub reports : grown ++ reports_of_moves slots later new ≡ out ++ reports_of_moves slots here old

pub goes_on : {X : Type 0} (f : X → Move) (xs : List X) (n : ℕ) (d x : X) (slots : List ℕ) (old new : List Desk) (out grown : List Report) → n < length xs → x ≡ get_or xs n d
    → new ≡ desks_after_move slots (f x) old → grown ≡ out ++ reports_of_move slots (f x) old → Goes slots (map f (drop n xs)) (map f (drop (n + 1) xs)) old new out grown
goes_on f xs n d x slots old new out grown less is desks reports =
    let one : suc n ≡ n + 1 = omega arith in
    let later = map f (drop (n + 1) xs) in
    let here : map f (drop n xs) ≡ f x ∷ later = next_move f xs n d x less is ∙ ap (λ (m : ℕ). f x ∷ map f (drop m xs)) one in
    record {
      many = ap length desks ∙ moved_long slots (f x) old;
      desks = ap (desks_after_moves slots later) desks ∙ ap (λ (l : List Move). desks_after_moves slots l old) (sym here);
      reports =
          ap (λ (l : List Report). l ++ reports_of_moves slots later new) reports
          ∙ ap (λ (ds : List Desk). (out ++ reports_of_move slots (f x) old) ++ reports_of_moves slots later ds) desks
          ∙ append_assoc out (reports_of_move slots (f x) old) (reports_of_moves slots later (desks_after_move slots (f x) old))
          ∙ ap (λ (l : List Move). out ++ reports_of_moves slots l old) (sym here);
    }
