-- What workers publish is what the moves show.
use Rattle.std.proofs.Common.{◌≡◌, ℕ, zero, suc, List, [], ◌∷◌, ◌++◌, map, refl, sym, ap, ◌∙◌, append_assoc, arith}
use Rattle.std.proofs.lemmas.List.{map-append}
use Rattle.mdp_lanes.specs.declared.step.Step.{Step}
use Rattle.mdp_arbiter.specs.Channel.{channel_of}
use Rattle.mdp_arbiter.specs.Machine.{go_on, state_at, trace}
use Rattle.mdp_arbiter.specs.Machine.{Move}
use Rattle.mdp_arbiter.proofs.Runs.{law_of_fronts}
use Rattle.mdp_desks.specs.Moments.{Moment, at_event_end, at_jump, moments_after}
use Rattle.mdp_desks.specs.Reports.{Told}
use Rattle.mdp_desks.proofs.Moments.{moments-append}
use Rattle.mdp_reports.specs.Rounds.{round_of}
use Rattle.mdp_reports.proofs.Batching.{law_of_batches}
use Rattle.mdp_reports.proofs.Merging.{round_whole}
use Rattle.mdp_reports.specs.BoardSteps.{step_telling, step_of_moment, step_of_round, steps_in}
use Rattle.mdp_reports.specs.BoardLaws.{LawOfBoards, LawOfFirstSteps, LawOfMoreSteps, LawOfStepFronts}

-- ---- rounds

one_round : (n : ℕ) (m : Moment) → step_of_round (round_of (suc n) m) ≡ step_of_moment m ∷ []
one_round n (at_event_end end seen) = ap (λ (ts : List Told). step_telling end ts ∷ []) (round_whole (suc n) end seen (omega arith))
one_round n (at_jump old new) = refl

all_rounds : (n : ℕ) (ms : List Moment) → steps_in (map (round_of (suc n)) ms) ≡ map step_of_moment ms
all_rounds n [] = refl
all_rounds n (m ∷ ms) =
    ap (λ (l : List Step). l ++ steps_in (map (round_of (suc n)) ms)) (one_round n m)
    ∙ ap (λ (l : List Step). step_of_moment m ∷ l) (all_rounds n ms)

pub law_of_boards : LawOfBoards
law_of_boards zero listed moves batches some cut = absurd (omega (arith, some))
law_of_boards (suc n) listed moves batches some cut =
    ap steps_in (law_of_batches (suc n) batches some ∙ ap (map (round_of (suc n))) (sym cut))
    ∙ all_rounds n (moments_after listed [] moves)

pub law_of_first_steps : LawOfFirstSteps
law_of_first_steps [] more = refl
law_of_first_steps (r ∷ rounds) more =
    ap (λ (l : List Step). step_of_round r ++ l) (law_of_first_steps rounds more)
    ∙ sym (append_assoc (step_of_round r) (steps_in rounds) (steps_in more))

-- ---- fronts

pub law_of_more_steps : LawOfMoreSteps
law_of_more_steps listed moves more =
    ap (map step_of_moment) (moments-append listed [] moves more)
    ∙ map-append step_of_moment (moments_after listed [] moves) (moments_after listed moves more)

pub law_of_step_fronts : LawOfStepFronts
law_of_step_fronts channel front rest =
    let machine = channel_of channel in
    let before = trace machine front in
    let more = go_on machine front (state_at machine front) rest in
    (map step_of_moment (moments_after channel.listed before more), ap (λ (ms : List Move). map step_of_moment (moments_after channel.listed [] ms)) (law_of_fronts machine front rest) ∙ law_of_more_steps channel.listed before more)
