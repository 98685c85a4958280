-- What was taken of all workers, round by round: a round is one answer of each.
use Rattle.std.specs.Prelude.{◌≡◌, ℕ, List, [], ◌∷◌, ◌++◌, length, map, Bool, true, false}
use Rattle.std.specs.List.{AllByRecursion, list_all}
use Rattle.mdp_desks.specs.Reports.{Report}
use Rattle.mdp_reports.specs.declared.answer.Answer.{Answer}
use Rattle.mdp_reports.specs.declared.answer.Answer.TheVariants.{Tells, Failed, Finished}
use Rattle.mdp_crew.specs.declared.crew.Post.{Post}

-- the post after these answers more
abbrev pub took : {A : Type 0} → Post A → List (Answer A) → Post A
took post answers = record post { answers = record post.answers { taken = post.answers.taken ++ answers } }

-- each post after its own
abbrev pub all_took : {A : Type 0} → List (Post A) → List (List (Answer A)) → List (Post A)
all_took [] rows = []
all_took (post ∷ posts) [] = post ∷ posts
all_took (post ∷ posts) (row ∷ rows) = took post row ∷ all_took posts rows

-- the reports that each worker gave to one batch, before what each answered later
abbrev pub put : {A : Type 0} → List (List Report) → List (List (Answer A)) → List (List (Answer A))
put [] rows = []
put (reports ∷ round) [] = []
put (reports ∷ round) (row ∷ rows) = (Tells reports ∷ row) ∷ put round rows

-- rounds, and then these answers
abbrev pub laid : {A : Type 0} → List (List (List Report)) → List (List (Answer A)) → List (List (Answer A))
laid [] more = more
laid (round ∷ rounds) more = put round (laid rounds more)

abbrev pub one_each : {A : Type 0} → List (Answer A) → List (List (Answer A))
one_each {A} answers = map (λ (a : Answer A). a ∷ []) answers

-- each round has the reports of so many workers
abbrev pub Wide : ℕ → List (List (List Report)) → Type 0
Wide workers rounds = AllByRecursion (λ (round : List (List Report)). length round ≡ workers) rounds

abbrev pub is_told : {A : Type 0} → Answer A → Bool
is_told (Tells reports) = true
is_told Failed = false
is_told Finished = false

abbrev pub is_finished : {A : Type 0} → Answer A → Bool
is_finished (Tells reports) = false
is_finished Failed = false
is_finished Finished = true

abbrev pub all_tell : {A : Type 0} → List (Answer A) → Bool
all_tell answers = list_all is_told answers

abbrev pub all_finish : {A : Type 0} → List (Answer A) → Bool
all_finish answers = list_all is_finished answers

-- ---- up to the last answers

-- what was answered last, where these answers came after one
abbrev pub last_of : {A : Type 0} → Answer A → List (Answer A) → Answer A
last_of answer [] = answer
last_of answer (a ∷ row) = last_of a row

-- of each worker
abbrev pub lasts : {A : Type 0} → List (Answer A) → List (List (Answer A)) → List (Answer A)
lasts [] rows = []
lasts (answer ∷ round) [] = answer ∷ round
lasts (answer ∷ round) (row ∷ rows) = last_of answer row ∷ lasts round rows

-- a worker's answers go to its last, which tells no reports
abbrev pub IsToLast : {A : Type 0} → List (Answer A) → Type 0
IsToLast [] = ⊥
IsToLast (a ∷ row) = is_told (last_of a row) ≡ false
