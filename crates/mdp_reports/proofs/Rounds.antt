-- Rounds one after another.
use Rattle.std.proofs.Common.{◌≡◌, ◌≤◌, ◌+◌, ℕ, zero, suc, List, [], ◌∷◌, ◌++◌, length, map, drop, refl, sym, ap, ◌∙◌, append_assoc, arith}
use Rattle.std.specs.Prelude.{Option, Some, None}
use Rattle.std.proofs.lemmas.List.{drop_all}
use Rattle.mdp_templates.specs.declared.instrument.Instrument.{Instrument}
use Rattle.mdp_quotes.specs.declared.best.Best.{Best}
use Rattle.mdp_desks.specs.Reports.{Told, Report, of_event_end, of_jump}
use Rattle.mdp_reports.specs.Rounds.{by_slot, all_by_slot, told_in, round_text, kept_after_round, text_from, heads, tail, rounds_behind, rounds_in}
use Rattle.mdp_reports.specs.declared.places.Heading.{Heading}
use Rattle.mdp_reports.specs.Contents.{told_at, heading_of, heading_at}
use Rattle.mdp_lanes.specs.declared.step.Step.{Step}
use Rattle.mdp_reports.specs.BoardSteps.{step_of_round, steps_in}
use Rattle.mdp_reports.specs.Steps.{step_under}
use Rattle.mdp_reports.specs.Taking.{View, text_under, kept_under, rounds_left, first_list, kept_after_rounds}

tail_drop : (n : ℕ) (xs : List Report) → tail (drop n xs) ≡ drop (suc n) xs
tail_drop zero [] = refl
tail_drop zero (x ∷ xs) = refl
tail_drop (suc n) [] = refl
tail_drop (suc n) (x ∷ xs) = tail_drop n xs

tails_drop : (n : ℕ) (others : List (List Report)) → map tail (map (drop n) others) ≡ map (drop (suc n)) others
tails_drop n [] = refl
tails_drop n (xs ∷ others) =
    ap (λ (l : List Report). l ∷ map tail (map (drop n) others)) (tail_drop n xs)
    ∙ ap (λ (l : List (List Report)). drop (suc n) xs ∷ l) (tails_drop n others)

abbrev heading_or : Heading → Option Heading → Heading
heading_or h None = h
heading_or h (Some x) = x

record IsAt (n : ℕ) (xs : List Report) (h : Heading) : Type 0 where
  report : Report
  rest : drop n xs ≡ report ∷ drop (suc n) xs
  heading : heading_of report ≡ h
  tolds : told_at n xs ≡ told_in report

is_at : (n : ℕ) (xs : List Report) (h : Heading) → heading_at n xs ≡ Some h → IsAt n xs h
is_at n [] h is = absurd cc
is_at zero (x ∷ xs) h is = record { report = x; rest = refl; heading = ap (heading_or (heading_of x)) is; tolds = refl }
is_at (suc n) (x ∷ xs) h is = let at = is_at n xs h is in record { report = at.report; rest = at.rest; heading = at.heading; tolds = at.tolds }

one_told : (n : ℕ) (xs : List Report) (ts : List Told) (rest : List (List Report)) → ts ≡ all_by_slot (map told_in (heads rest)) → by_slot (told_at n xs) ts ≡ all_by_slot (map told_in (heads (drop n xs ∷ rest)))
one_told zero [] ts rest is = is
one_told zero (x ∷ xs) ts rest is = ap (by_slot (told_in x)) is
one_told (suc n) [] ts rest is = is
one_told (suc n) (x ∷ xs) ts rest is = one_told n xs ts rest is

all_told : (n : ℕ) (others : List (List Report)) → all_by_slot (map (told_at n) others) ≡ all_by_slot (map told_in (heads (map (drop n) others)))
all_told n [] = refl
all_told n (xs ∷ others) = one_told n xs (all_by_slot (map (told_at n) others)) (map (drop n) others) (all_told n others)

by_text : (listed : List Instrument) (kept : List (Option Best)) (r : Report) (rest : List Report) → round_text listed kept (r ∷ rest) ≡ text_under (heading_of r) listed kept (by_slot (told_in r) (all_by_slot (map told_in rest)))
by_text listed kept (of_event_end end ts) rest = refl
by_text listed kept (of_jump old new) rest = refl

by_kept : (kept : List (Option Best)) (r : Report) (rest : List Report) → kept_after_round kept (r ∷ rest) ≡ kept_under (heading_of r) kept (by_slot (told_in r) (all_by_slot (map told_in rest)))
by_kept kept (of_event_end end ts) rest = refl
by_kept kept (of_jump old new) rest = refl

by_step : (r : Report) (rest : List Report) → step_of_round (r ∷ rest) ≡ step_under (heading_of r) (by_slot (told_in r) (all_by_slot (map told_in rest))) ∷ []
by_step (of_event_end end ts) rest = refl
by_step (of_jump old new) rest = refl

-- the next round, by what is read of it
pub record IsRound (n : ℕ) (lists : List (List Report)) (h : Heading) : Type 0 where
  pub round : List Report
  pub next : rounds_left n lists ≡ round ∷ rounds_left (n + 1) lists
  pub text : (listed : List Instrument) (kept : List (Option Best)) → round_text listed kept round ≡ text_under h listed kept (all_by_slot (map (told_at n) lists))
  pub step : step_of_round round ≡ step_under h (all_by_slot (map (told_at n) lists)) ∷ []
  pub kept : (kept : List (Option Best)) → kept_after_round kept round ≡ kept_under h kept (all_by_slot (map (told_at n) lists))

pub is_round : (n : ℕ) (lists : List (List Report)) (h : Heading) → heading_at n (first_list lists) ≡ Some h → IsRound n lists h
is_round n [] h is = absurd cc
is_round n (first ∷ others) h is =
    let at = is_at n first h is in
    let rest = heads (map (drop n) others) in
    let one : suc n ≡ n + 1 = omega arith in
    let all : by_slot (told_in at.report) (all_by_slot (map told_in rest)) ≡ by_slot (told_at n first) (all_by_slot (map (told_at n) others)) =
    ap (by_slot (told_in at.report)) (sym (all_told n others)) ∙ ap (λ (ts : List Told). by_slot ts (all_by_slot (map (told_at n) others))) (sym at.tolds) in
    record {
      round = at.report ∷ rest;
      next =
          ap (λ (l : List Report). rounds_behind l (map (drop n) others)) at.rest
          ∙ ap (λ (l : List (List Report)). (at.report ∷ rest) ∷ rounds_behind (drop (suc n) first) l) (tails_drop n others)
          ∙ ap (λ (m : ℕ). (at.report ∷ rest) ∷ rounds_behind (drop m first) (map (drop m) others)) one;
      text = λ listed kept. by_text listed kept at.report rest ∙ ap (λ (x : Heading). text_under x listed kept (by_slot (told_in at.report) (all_by_slot (map told_in rest)))) at.heading ∙ ap (text_under h listed kept) all;
      step = by_step at.report rest ∙ ap (λ (x : Heading). step_under x (by_slot (told_in at.report) (all_by_slot (map told_in rest))) ∷ []) at.heading ∙ ap (λ (ts : List Told). step_under h ts ∷ []) all;
      kept = λ kept. by_kept kept at.report rest ∙ ap (λ (x : Heading). kept_under x kept (by_slot (told_in at.report) (all_by_slot (map told_in rest)))) at.heading ∙ ap (kept_under h kept) all;
    }

none_dropped : (others : List (List Report)) → map (drop 0) others ≡ others
none_dropped [] = refl
none_dropped (xs ∷ others) = ap (λ (l : List (List Report)). xs ∷ l) (none_dropped others)

pub all_left : (lists : List (List Report)) → rounds_left 0 lists ≡ rounds_in lists
all_left [] = refl
all_left (first ∷ others) = ap (rounds_behind first) (none_dropped others)

pub none_left : (n : ℕ) (lists : List (List Report)) → length (first_list lists) ≤ n → rounds_left n lists ≡ []
none_left n [] past = refl
none_left n (first ∷ others) past = ap (λ (l : List Report). rounds_behind l (map (drop n) others)) (drop_all n first past)

-- one moment more
pub took : (n : ℕ) (lists : List (List Report)) (h : Heading) (ts : List (List Told)) (old new : View) (out grown : List ℕ) → heading_at n (first_list lists) ≡ Some h → ts ≡ map (told_at n) lists
    → grown ≡ out ++ text_under h old.listed old.kept (all_by_slot ts) → new ≡ record { listed = old.listed; kept = kept_under h old.kept (all_by_slot ts) }
    → (grown ++ text_from new.listed new.kept (rounds_left (n + 1) lists) ≡ out ++ text_from old.listed old.kept (rounds_left n lists))
    × (kept_after_rounds new.kept (rounds_left (n + 1) lists) ≡ kept_after_rounds old.kept (rounds_left n lists))
took n lists h ts old new out grown is are text kept =
    let r = is_round n lists h is in
    let later = rounds_left (n + 1) lists in
    let said : text_under h old.listed old.kept (all_by_slot ts) ≡ round_text old.listed old.kept r.round = ap (λ (l : List (List Told)). text_under h old.listed old.kept (all_by_slot l)) are ∙ sym (r.text old.listed old.kept) in
    let kept_is : new.kept ≡ kept_after_round old.kept r.round = ap (λ (v : View). v.kept) kept ∙ ap (λ (l : List (List Told)). kept_under h old.kept (all_by_slot l)) are ∙ sym (r.kept old.kept) in (
      ap (λ (l : List ℕ). l ++ text_from new.listed new.kept later) (text ∙ ap (λ (l : List ℕ). out ++ l) said)
          ∙ ap (λ (i : List Instrument). (out ++ round_text old.listed old.kept r.round) ++ text_from i new.kept later) (ap (λ (v : View). v.listed) kept)
          ∙ ap (λ (k : List (Option Best)). (out ++ round_text old.listed old.kept r.round) ++ text_from old.listed k later) kept_is
          ∙ append_assoc out (round_text old.listed old.kept r.round) (text_from old.listed (kept_after_round old.kept r.round) later)
          ∙ ap (λ (l : List (List Report)). out ++ text_from old.listed old.kept l) (sym r.next),
      ap (λ (k : List (Option Best)). kept_after_rounds k later) kept_is ∙ ap (kept_after_rounds old.kept) (sym r.next),
    )

pub stepped : (n : ℕ) (lists : List (List Report)) (h : Heading) (ts : List (List Told)) (steps grown : List Step) → heading_at n (first_list lists) ≡ Some h → ts ≡ map (told_at n) lists
    → grown ≡ steps ++ step_under h (all_by_slot ts) ∷ [] → grown ++ steps_in (rounds_left (n + 1) lists) ≡ steps ++ steps_in (rounds_left n lists)
stepped n lists h ts steps grown is are step =
    let r = is_round n lists h is in
    let later = steps_in (rounds_left (n + 1) lists) in
    let same : step_under h (all_by_slot ts) ∷ [] ≡ step_of_round r.round = ap (λ (l : List (List Told)). step_under h (all_by_slot l) ∷ []) are ∙ sym r.step in
    ap (λ (l : List Step). l ++ later) (step ∙ ap (λ (l : List Step). steps ++ l) same)
    ∙ append_assoc steps (step_of_round r.round) later
    ∙ ap (λ (l : List (List Report)). steps ++ steps_in l) (sym r.next)

pub seen_as : (v : View) (listed : List Instrument) (kept same : List (Option Best)) → v.listed ≡ listed → v.kept ≡ kept → kept ≡ same → v ≡ record { listed = listed; kept = same }
seen_as v listed kept same listed_is kept_is is =
    ap (λ (l : List Instrument). record { listed = l; kept = v.kept }) listed_is ∙ ap (λ (k : List (Option Best)). record { listed = listed; kept = k }) (kept_is ∙ is)
