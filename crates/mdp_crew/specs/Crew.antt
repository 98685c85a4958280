-- The workers that were started, and what is known of each once it is joined and its lanes are
-- settled.
use Rattle.std.specs.Prelude.{◌≡◌, ◌≤◌, ◌+◌, ℕ, Bool, true, List, [], ◌∷◌, length, take, ⊤}
use Rattle.std.specs.List.{AllByRecursion, AllZip}
use Rattle.mdp_lanes.specs.Queues.{LaneSenderView}
use Rattle.mdp_arbiter.specs.Machine.{Move}
use Rattle.mdp_crew.specs.Sent.{moves_sent}
use Rattle.mdp_reports.specs.ReportLaw.{AreFull}
use Rattle.mdp_reports.specs.declared.answer.Answer.{Answer}
use Rattle.mdp_crew.specs.declared.crew.AnswersOrders.{AnswersOrders}
use Rattle.mdp_crew.specs.declared.crew.Post.{Post}
use Rattle.mdp_crew.specs.declared.order.Order.{Order}
use Rattle.mdp_crew.specs.Orders.{orders_of}
use Rattle.mdp_crew.specs.Shares.{WorkerShare, share_in}
use Rattle.mdp_crew.specs.Work.{answers_by}

-- the promise is that of the worker of this share
abbrev pub IsWorker : {A : Type 0} → WorkerShare → AnswersOrders A → Type 0
IsWorker share promise = share_in promise.share.value ≡ share

-- the sender of orders and the post are those of one worker
pub record IsHired {A : Type 0} (sender : LaneSenderView (Order A)) (post : Post A) : Type 0 where
  pub orders_lane : sender.lane ≡ post.handle.promise.ends.value.orders.lane
  pub answers_lane : post.answers.lane ≡ post.handle.promise.ends.value.answers.lane

-- they are the workers of so many, from the one of this share on
abbrev pub AreNumbered : {A : Type 0} → WorkerShare → List (Post A) → Type 0
AreNumbered first [] = ⊤
AreNumbered first (post ∷ posts) =
    IsWorker first post.handle.promise
    × AreNumbered (record first { number = first.number + 1 }) posts

-- nothing was sent to them, and nothing taken of them
abbrev pub AreFresh : {A : Type 0} → List (LaneSenderView (Order A)) → List (Post A) → Type 0
AreFresh {A} senders posts =
    AllByRecursion (λ (s : LaneSenderView (Order A)). s.sent ≡ []) senders
    × AllByRecursion (λ (p : Post A). p.answers.taken ≡ []) posts

-- so many workers were started, from the one of this share on
pub record IsCrew {A : Type 0} (first : WorkerShare) (many : ℕ)
    (senders : List (LaneSenderView (Order A))) (posts : List (Post A)) : Type 0 where
  pub hired : AllZip IsHired senders posts
  pub fresh : AreFresh senders posts
  pub numbered : AreNumbered first posts
  pub long : length posts ≡ many

-- a beginning of what the worker of this share answers to batches of moves, after other moves
pub record IsFront {A : Type 0} (share : WorkerShare) (before : List Move)
    (batches : List (List Move)) (row : List (Answer A)) : Type 0 where
  pub good : ℕ
  pub done : Bool
  pub front : row ≡ take (length row) (answers_by share before batches good done)
  pub all : done ≡ true → length batches ≤ good

-- A worker is joined: where it was sent orders to the last, in which each jump has a snapshot of
-- each listed security, what was taken of it begins what it answers to them.
abbrev pub IsSettled : {A : Type 0} → LaneSenderView (Order A) → Post A → Type 0
IsSettled sender post =
    let share = share_in post.handle.promise.share.value in
    (batches : List (List Move)) → sender.sent ≡ orders_of batches
    → AreFull share.listed (moves_sent batches) → IsFront share [] batches post.answers.taken
