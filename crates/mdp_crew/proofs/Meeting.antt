-- What the collector makes of the rounds of all workers is what the moves show.
use Rattle.std.proofs.Common.{◌≡◌, ◌≢◌, ◌≤◌, ℕ, List, [], ◌∷◌, ◌++◌, map, refl, sym, ap, ◌∙◌, append_assoc}
use Rattle.std.specs.Prelude.{Option}
use Rattle.std.specs.List.{AllPairs}
use Rattle.mdp_templates.specs.declared.instrument.Instrument.{Instrument}
use Rattle.mdp_quotes.specs.declared.best.Best.{Best}
use Rattle.mdp_templates.specs.Instrument.{ids_of}
use Rattle.mdp_arbiter.specs.Machine.{Move}
use Rattle.mdp_arbiter.specs.Machine.Move.{passed, jumped}
use Rattle.mdp_desks.specs.Moments.{Moment, moments_by}
use Rattle.mdp_desks.specs.Reports.{Report}
use Rattle.mdp_desks.specs.Moments.{shown_lines}
use Rattle.mdp_reports.specs.RoundLaws.{Ascend}
use Rattle.mdp_reports.specs.Rounds.{all_rounds_in, collected_text, kept_after_round, kept_at_start, round_of, round_text, rounds_in, text_from}
use Rattle.mdp_reports.proofs.Batching.{law_of_batches, law_of_cuts}
use Rattle.mdp_reports.proofs.Collecting.{law_of_workers}
use Rattle.mdp_crew.specs.Sent.{moves_sent}
use Rattle.mdp_reports.specs.BoardSteps.{board_steps}
use Rattle.mdp_reports.proofs.Boarding.{law_of_boards}
use Rattle.mdp_reports.specs.Taking.{View, kept_after_rounds}
use Rattle.mdp_crew.specs.Collecting.{kept_after_batch, steps_of_batches, text_of_batch, text_of_batches}
use Rattle.mdp_crew.proofs.Settling.{rounds_of}

text_from-append : (listed : List Instrument) (kept : List (Option Best)) (xs ys : List (List Report)) → text_from listed kept (xs ++ ys) ≡ text_from listed kept xs ++ text_from listed (kept_after_rounds kept xs) ys
text_from-append listed kept [] ys = refl
text_from-append listed kept (x ∷ xs) ys =
    ap (λ (t : List ℕ). round_text listed kept x ++ t) (text_from-append listed (kept_after_round kept x) xs ys)
    ∙ sym (append_assoc (round_text listed kept x) (text_from listed (kept_after_round kept x) xs) (text_from listed (kept_after_rounds kept (x ∷ xs)) ys))

text_all : (collector : View) (batches : List (List (List Report))) → text_of_batches collector batches ≡ text_from collector.listed collector.kept (all_rounds_in batches)
text_all collector [] = refl
text_all collector (b ∷ batches) =
    ap (λ (t : List ℕ). text_of_batch collector b ++ t) (text_all (kept_after_batch collector b) batches)
    ∙ sym (text_from-append collector.listed collector.kept (rounds_in b) (all_rounds_in batches))

-- the first of moves that ascend do so too
pub ascend_front : (listed : List Instrument) (next : ℕ) (moves more : List Move) → Ascend listed next (moves ++ more) → Ascend listed next moves
ascend_front listed next [] more ascend = tt
ascend_front listed next (passed packet ∷ moves) more ascend = (ascend.0, ascend.1, ascend_front listed _ moves more ascend.2)
ascend_front listed next (jumped old new snapshots ∷ moves) more ascend = (ascend.0, ascend_front listed new moves more ascend.1)

-- whatever the number of workers and wherever the moves are cut into batches
pub text_is_shown : (listed : List Instrument) (workers : ℕ) (batches : List (List Move)) → 1 ≤ workers → AllPairs (λ a b. a ≢ b) (ids_of listed) → Ascend listed 1 (moves_sent batches)
    → text_of_batches (record { listed = listed; kept = kept_at_start listed }) (rounds_of listed workers [] batches) ≡ shown_lines listed (moves_sent batches)
text_is_shown listed workers batches some differ ascend =
    let all = moments_by listed [] batches in
    text_all (record { listed = listed; kept = kept_at_start listed }) (rounds_of listed workers [] batches)
    ∙ ap (collected_text listed) (law_of_batches workers all some)
    ∙ ap (λ (ms : List Moment). collected_text listed (map (round_of workers) ms)) (law_of_cuts listed batches)
    ∙ law_of_workers workers listed (moves_sent batches) some differ ascend

pub steps_are_shown : (listed : List Instrument) (workers : ℕ) (batches : List (List Move)) → 1 ≤ workers
    → steps_of_batches (rounds_of listed workers [] batches) ≡ board_steps listed (moves_sent batches)
steps_are_shown listed workers batches some = law_of_boards workers listed (moves_sent batches) (moments_by listed [] batches) some (sym (law_of_cuts listed batches))
