-- What the collector has written and published of the rounds that it took.
use Rattle.std.specs.Prelude.{◌≡◌, ℕ, List, [], ◌∷◌, ◌++◌, length, replicate, take, Option, Some, None, Result, Ok, Err}
use Rattle.std.specs.List.{AllByRecursion}
use Rattle.mdp_desks.specs.Reports.{Report}
use Rattle.mdp_reports.specs.Rounds.{all_rounds_in, rounds_in, text_from}
use Rattle.mdp_lanes.specs.Boards.{Published}
use Rattle.mdp_lanes.specs.declared.step.Step.{Step}
use Rattle.mdp_reports.specs.BoardSteps.{steps_in}
use Rattle.mdp_reports.specs.Taking.{View, kept_after_rounds}
use Rattle.mdp_reports.specs.declared.answer.Answer.{Answer}
use Rattle.mdp_reports.specs.declared.answer.Answer.TheVariants.{Finished}
use Rattle.mdp_crew.specs.declared.collector.Collecting.{Collecting}
use Rattle.mdp_crew.specs.declared.crew.Post.{Post}
use Rattle.mdp_crew.specs.declared.fault.RunFault.{RunFault}
use Rattle.mdp_crew.specs.Publishing.{published_on}
use Rattle.mdp_crew.specs.TakenRounds.{IsToLast, Wide, all_took, laid}

-- what a collector makes of the reports of all workers on one batch, and what it has kept then
abbrev pub text_of_batch : View → List (List Report) → List ℕ
text_of_batch collector reports = text_from collector.listed collector.kept (rounds_in reports)

abbrev pub kept_after_batch : View → List (List Report) → View
kept_after_batch collector reports =
    record { listed = collector.listed; kept = kept_after_rounds collector.kept (rounds_in reports) }

-- batch by batch
abbrev pub text_of_batches : View → List (List (List Report)) → List ℕ
text_of_batches collector [] = []
text_of_batches collector (reports ∷ batches) =
    text_of_batch collector reports ++ text_of_batches (kept_after_batch collector reports) batches

abbrev pub steps_of_batch : List (List Report) → List Step
steps_of_batch reports = steps_in (rounds_in reports)

abbrev pub steps_of_batches : List (List (List Report)) → List Step
steps_of_batches batches = steps_in (all_rounds_in batches)

-- Where the collector stands, as contracts see it: what was taken of each worker, what it keeps for the next batch, and
-- what went out, as text and on the board.
pub record Showing (A : Type 0) : Type 0 where
  pub posts : List (Post A)
  pub collector : View
  pub taken : List ℕ
  pub board : Option Published

-- where these bytes went out, and this stands on the board
abbrev pub showing : {A : Type 0} → Collecting A → List ℕ → Option Published → Showing A
showing collecting taken board =
    record { posts = collecting.posts.items; collector = collecting.collector; taken = taken; board = board }

-- a round's text was written, and then its steps published
pub record ShowsRound {A : Type 0} (old new : Showing A) (round : List (List Report)) : Type 0 where
  pub text : new.taken ≡ old.taken ++ text_of_batch old.collector round
  pub steps : new.board ≡ published_on old.board (steps_of_batch round)
  pub kept_is : new.collector ≡ kept_after_batch old.collector round

-- Not all of a round went out: of its text so many bytes and none of its steps, or its text and so many of its steps.
pub data CutShort {A : Type 0} (old new : Showing A) (round : List (List Report)) : Type 0 where
  in_text : (n : ℕ) → new.taken ≡ old.taken ++ take n (text_of_batch old.collector round) → new.board ≡ old.board
      → CutShort old new round
  in_steps : (n : ℕ) → new.taken ≡ old.taken ++ text_of_batch old.collector round
      → new.board ≡ published_on old.board (take n (steps_of_batch round))
      → CutShort old new round

-- one round was taken and shown
pub record TakesOne {A : Type 0} (old new : Showing A) : Type 0 where
  pub round : List (List Report)
  pub wide : length round ≡ length old.posts
  pub took_is : new.posts ≡ all_took old.posts (laid (round ∷ []) (replicate (length old.posts) []))
  pub shows : ShowsRound old new round

-- rounds were taken, their text written and their steps published, and then these answers were taken of each worker
pub record TakesRounds {A : Type 0} (last : List (Answer A)) (old new : Showing A) : Type 0 where
  pub rounds : List (List (List Report))
  pub wide : Wide (length old.posts) rounds
  pub took_is : new.posts ≡ all_took old.posts (laid rounds (replicate (length old.posts) last))
  pub text : new.taken ≡ old.taken ++ text_of_batches old.collector rounds
  pub steps : new.board ≡ published_on old.board (steps_of_batches rounds)

-- whole rounds were taken and shown, and each worker has finished
abbrev pub HasAll : {A : Type 0} → Showing A → Showing A → Type 0
HasAll {A} old new = TakesRounds (Finished ∷ []) old new

-- What went out of these rounds: the text of all, and of their steps a beginning; or text and steps of all but the
-- last, and of the last one's text a beginning.
pub data IsCut {A : Type 0} (old new : Showing A) (rounds : List (List (List Report))) : Type 0 where
  among_steps : (shown hidden : List Step) → steps_of_batches rounds ≡ shown ++ hidden
      → new.taken ≡ old.taken ++ text_of_batches old.collector rounds
      → new.board ≡ published_on old.board shown → IsCut old new rounds
  in_last : (done : List (List (List Report))) (round : List (List Report)) (sent rest : List ℕ)
      → rounds ≡ done ++ round ∷ []
      → text_of_batches old.collector rounds ≡ text_of_batches old.collector done ++ (sent ++ rest)
      → new.taken ≡ old.taken ++ (text_of_batches old.collector done ++ sent)
      → new.board ≡ published_on old.board (steps_of_batches done)
      → IsCut old new rounds

-- rounds were taken, of which so much went out, and then what each worker still answered, to its last
pub record HasSome {A : Type 0} (old new : Showing A) : Type 0 where
  pub rounds : List (List (List Report))
  pub wide : Wide (length old.posts) rounds
  pub more : List (List (Answer A))
  pub long : length more ≡ length old.posts
  pub took_is : new.posts ≡ all_took old.posts (laid rounds more)
  pub to_last : AllByRecursion IsToLast more
  pub out : IsCut old new rounds

-- the collector has come to its end
abbrev pub EndsCollecting : {A : Type 0} → Showing A → Showing A → Result (Unit {0}) RunFault → Type 0
EndsCollecting old new (Ok done) = HasAll old new
EndsCollecting old new (Err fault) = HasSome old new

-- it goes on, or has come to its end
abbrev pub TurnsTo : {A : Type 0} → Showing A → Showing A → Option (Result (Unit {0}) RunFault) → Type 0
TurnsTo old new None = TakesOne old new
TurnsTo old new (Some outcome) = EndsCollecting old new outcome

-- rounds were taken and shown, and what the collector keeps is what the text of more goes on from
pub record IsCollecting {A : Type 0} (old new : Showing A) : Type 0 where
  pub so_far : TakesRounds [] old new
  pub rest : (more : List (List (List Report))) → text_of_batches old.collector (so_far.rounds ++ more)
      ≡ text_of_batches old.collector so_far.rounds ++ text_of_batches new.collector more
