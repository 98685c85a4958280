-- How a worker comes to answer orders, one after another.
use Rattle.std.specs.Prelude.{◌≡◌, Bool, true, false, List, [], ◌∷◌, ◌++◌, map}
use Rattle.mdp_lanes.specs.Queues.{LaneReceiverView}
use Rattle.mdp_arbiter.specs.Machine.{Move}
use Rattle.mdp_desks.specs.Shares.{is_kept_by, own_moves, own_part, own_slots}
use Rattle.mdp_crew.specs.Sent.{moves_sent}
use Rattle.mdp_reports.specs.ReportLaw.{AreFull, StandBehind}
use Rattle.mdp_reports.specs.Reporting.{desks_after_moves, reports_of_moves}
use Rattle.mdp_reports.specs.declared.answer.Answer.TheVariants.{Tells}
use Rattle.mdp_crew.specs.declared.order.Order.{Order}
use Rattle.mdp_crew.specs.declared.order.Order.TheVariants.{Take}
use Rattle.mdp_crew.specs.declared.worker.WorkerEnds.{WorkerEnds}
use Rattle.mdp_crew.specs.declared.worker.Working.{Working}
use Rattle.mdp_crew.specs.Orders.{orders_of}
use Rattle.mdp_crew.specs.Shares.{WorkerShare}
use Rattle.mdp_crew.specs.Work.{last_answer, reports_by}

-- orders were taken up to the last
pub record HasDrained {A : Type 0} (old new : LaneReceiverView (Order A)) : Type 0 where
  pub batches : List (List Move)
  pub took : new ≡ record old { taken = old.taken ++ orders_of batches }

-- an order was answered by what its moves show of the worker's securities
pub record HasTold {A : Type 0} (old new : Working A) : Type 0 where
  pub moves : List Move
  pub took : new.ends.orders ≡ record old.ends.orders {
    taken = old.ends.orders.taken ++ Take moves ∷ [];
  }
  pub sent : new.ends.answers ≡ record old.ends.answers {
    sent = old.ends.answers.sent
        ++ Tells (reports_of_moves old.worker.slots moves old.worker.desks)
        ∷ [];
  }
  pub worker_is : new.worker ≡ record old.worker {
    desks = desks_after_moves old.worker.slots moves old.worker.desks;
  }

-- the last answer was given, and the last order taken
pub record HasEnded {A : Type 0} (old new : WorkerEnds A) : Type 0 where
  pub batches : List (List Move)
  pub done : Bool
  pub took : new.orders ≡ record old.orders { taken = old.orders.taken ++ orders_of batches }
  pub sent : new.answers ≡ record old.answers { sent = old.answers.sent ++ last_answer done ∷ [] }
  pub all : done ≡ true → batches ≡ []

abbrev pub AnswersOne : {A : Type 0} → Working A → Working A → Bool → Type 0
AnswersOne old new true = HasTold old new
AnswersOne old new false = HasEnded old.ends new.ends

-- So far these batches were answered. Where each jump has a snapshot of each listed security, the
-- answers are the worker's part, and its desks stand behind all these moves.
pub record IsWorking {A : Type 0} (share : WorkerShare) (first : WorkerEnds A)
    (now : Working A) : Type 0 where
  pub batches : List (List Move)
  pub took : now.ends.orders ≡ record first.orders { taken = map Take batches }
  pub answers_lane : now.ends.answers.lane ≡ first.answers.lane
  pub slots : now.worker.slots ≡ own_slots (is_kept_by share.workers share.number) 0 share.listed
  pub sent : AreFull share.listed (moves_sent batches)
      → now.ends.answers.sent ≡ map Tells (reports_by share [] batches)
  pub stands : AreFull share.listed (moves_sent batches)
      → StandBehind (own_part (is_kept_by share.workers share.number) 0 share.listed)
      (own_moves (is_kept_by share.workers share.number) (moves_sent batches)) now.worker.desks
