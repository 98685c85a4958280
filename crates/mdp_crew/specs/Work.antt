-- What a worker answers to the orders that it takes.
use Rattle.std.specs.Prelude.{◌≡◌, ◌≤◌, ℕ, Bool, true, false, List, [], ◌∷◌, ◌++◌, length, map, take}
use Rattle.mdp_arbiter.specs.Machine.{Move}
use Rattle.mdp_desks.specs.Moments.{moments_by}
use Rattle.mdp_desks.specs.Reports.{Report, report_of}
use Rattle.mdp_desks.specs.Shares.{is_kept_by}
use Rattle.mdp_crew.specs.Sent.{moves_sent}
use Rattle.mdp_reports.specs.ReportLaw.{AreFull}
use Rattle.mdp_reports.specs.declared.answer.Answer.{Answer}
use Rattle.mdp_reports.specs.declared.answer.Answer.TheVariants.{Tells, Failed, Finished}
use Rattle.mdp_crew.specs.declared.worker.WorkerEnds.{WorkerEnds}
use Rattle.mdp_crew.specs.Orders.{orders_of}
use Rattle.mdp_crew.specs.Shares.{WorkerShare}

-- what the worker of a share reports of batches of moves, after other moves: of each moment its own
-- securities' part
abbrev pub reports_by : WorkerShare → List Move → List (List Move) → List (List Report)
reports_by share before batches =
    map (map (report_of (is_kept_by share.workers share.number)))
    (moments_by share.listed before batches)

-- how a worker ends: it has reported all, or memory ran out
abbrev pub last_answer : {A : Type 0} → Bool → Answer A
last_answer true = Finished
last_answer false = Failed

-- what it answers to batches of moves, after other moves: its reports of the first ones, as many as
-- there was memory for, and how it ended
abbrev pub answers_by : {A : Type 0} → WorkerShare → List Move → List (List Move) → ℕ → Bool
    → List (Answer A)
answers_by share before batches good done =
    map Tells (take good (reports_by share before batches)) ++ last_answer done ∷ []

-- A worker has taken orders to the last, and answered them. What it reports is its part, where each
-- jump has a snapshot of each listed security.
pub record HasAnswered {A : Type 0} (share : WorkerShare) (old new : WorkerEnds A) : Type 0 where
  pub orders_lane : new.orders.lane ≡ old.orders.lane
  pub answers_lane : new.answers.lane ≡ old.answers.lane
  pub batches : List (List Move)
  pub good : ℕ
  pub done : Bool
  pub taken : new.orders.taken ≡ orders_of batches
  pub sent : AreFull share.listed (moves_sent batches)
      → new.answers.sent ≡ answers_by share [] batches good done
  pub all : done ≡ true → length batches ≤ good
