-- Batches of reports are the rounds of all their moments.
use Rattle.std.proofs.Common.{◌≡◌, ◌≤◌, ℕ, ◌+◌, zero, suc, List, [], ◌∷◌, ◌++◌, map, refl, sym, ap, ◌∙◌, append_assoc, arith}
use Rattle.std.specs.List.{flat_map}
use Rattle.std.proofs.lemmas.List.{map-append}
use Rattle.mdp_quotes.specs.declared.best.Best.{Best}
use Rattle.std.specs.Prelude.{Option}
use Rattle.mdp_templates.specs.declared.instrument.Instrument.{Instrument}
use Rattle.mdp_arbiter.specs.Machine.{Move, moves_of}
use Rattle.mdp_engine.proofs.Owing.{law_of_honest_moments}
use Rattle.mdp_desks.proofs.Moments.{moments-append}
use Rattle.mdp_desks.specs.Moments.{Moment, moments_after, moments_by, text_of_moments}
use Rattle.mdp_desks.specs.Shares.{is_kept_by}
use Rattle.mdp_desks.specs.Reports.{Report, report_of}
use Rattle.mdp_reports.specs.Rounds.{numbers_from, round_of, round_text, kept_after_round, collected_text, text_from, kept_at_start}
use Rattle.mdp_reports.specs.Rounds.{heads, tail, rounds_behind, rounds_in, batch_of, all_rounds_in}
use Rattle.mdp_reports.specs.RoundLaws.{LawOfBatches, LawOfFirstRounds, LawOfRuns, LawOfCuts}
use Rattle.mdp_reports.proofs.Ascending.{law_of_ascent}
use Rattle.mdp_reports.proofs.Collecting.{law_of_workers}

abbrev by : ℕ → List Moment → ℕ → List Report
by n ms w = map (report_of (is_kept_by n w)) ms

heads_of : (n : ℕ) (m : Moment) (ms : List Moment) (ws : List ℕ) → heads (map (by n (m ∷ ms)) ws) ≡ map (λ w. report_of (is_kept_by n w) m) ws
heads_of n m ms [] = refl
heads_of n m ms (w ∷ ws) = ap (λ (l : List Report). report_of (is_kept_by n w) m ∷ l) (heads_of n m ms ws)

tails_of : (n : ℕ) (m : Moment) (ms : List Moment) (ws : List ℕ) → map tail (map (by n (m ∷ ms)) ws) ≡ map (by n ms) ws
tails_of n m ms [] = refl
tails_of n m ms (w ∷ ws) = ap (λ (l : List (List Report)). by n ms w ∷ l) (tails_of n m ms ws)

behind : (n : ℕ) (ms : List Moment) (w : ℕ) (ws : List ℕ) → rounds_behind (by n ms w) (map (by n ms) ws) ≡ map (λ (m : Moment). map (λ v. report_of (is_kept_by n v) m) (w ∷ ws)) ms
behind n [] w ws = refl
behind n (m ∷ ms) w ws =
    ap (λ (l : List Report). (report_of (is_kept_by n w) m ∷ l) ∷ rounds_behind (by n ms w) (map tail (map (by n (m ∷ ms)) ws))) (heads_of n m ms ws)
    ∙ ap (λ (l : List (List Report)). map (λ v. report_of (is_kept_by n v) m) (w ∷ ws) ∷ rounds_behind (by n ms w) l) (tails_of n m ms ws)
    ∙ ap (λ (l : List (List Report)). map (λ v. report_of (is_kept_by n v) m) (w ∷ ws) ∷ l) (behind n ms w ws)

one_batch : (n : ℕ) (ms : List Moment) → 1 ≤ n → rounds_in (batch_of n ms) ≡ map (round_of n) ms
one_batch zero ms some = absurd (omega (arith, some))
one_batch (suc n) ms some = behind (suc n) ms 0 (numbers_from (0 + 1) n)

pub law_of_batches : LawOfBatches
law_of_batches n [] some = refl
law_of_batches n (ms ∷ batches) some =
    ap (λ (l : List (List Report)). l ++ all_rounds_in (map (batch_of n) batches)) (one_batch n ms some)
    ∙ ap (λ (l : List (List Report)). map (round_of n) ms ++ l) (law_of_batches n batches some)
    ∙ sym (map-append (round_of n) ms (flat_map (λ (ms : List Moment). ms) batches))

first_rounds : (listed : List Instrument) (kept : List (Option Best)) (rounds more : List (List Report)) → (rest : List ℕ) × (text_from listed kept (rounds ++ more) ≡ text_from listed kept rounds ++ rest)
first_rounds listed kept [] more = (text_from listed kept more, refl)
first_rounds listed kept (r ∷ rounds) more =
    let later = first_rounds listed (kept_after_round kept r) rounds more in
    (later.0, ap (λ (l : List ℕ). round_text listed kept r ++ l) later.1 ∙ sym (append_assoc (round_text listed kept r) (text_from listed (kept_after_round kept r) rounds) later.0))

pub law_of_first_rounds : LawOfFirstRounds
law_of_first_rounds listed rounds more = first_rounds listed (kept_at_start listed) rounds more

pub law_of_runs : LawOfRuns
law_of_runs n channel feed es batches some differ honest cut =
    ap (collected_text channel.listed) (law_of_batches n batches some ∙ ap (map (round_of n)) (sym cut))
    ∙ law_of_workers n channel.listed (moves_of channel es) some differ (law_of_ascent channel es)
    ∙ ap text_of_moments (law_of_honest_moments channel feed es honest)

cuts : (listed : List Instrument) (before : List Move) (batches : List (List Move)) → flat_map (λ (ms : List Moment). ms) (moments_by listed before batches) ≡ moments_after listed before (flat_map (λ (ms : List Move). ms) batches)
cuts listed before [] = refl
cuts listed before (batch ∷ batches) =
    ap (λ (l : List Moment). moments_after listed before batch ++ l) (cuts listed (before ++ batch) batches)
    ∙ sym (moments-append listed before batch (flat_map (λ (ms : List Move). ms) batches))

pub law_of_cuts : LawOfCuts
law_of_cuts listed batches = cuts listed [] batches
