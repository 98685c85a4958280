-- Where all threads are joined and all lanes settled, the rounds that were taken are those of a beginning of the batches.
use Rattle.std.proofs.Common.{◌≡◌, ◌≤◌, ℕ, ◌+◌, zero, suc, Bool, true, false, List, [], ◌∷◌, ◌++◌, length, map, take, replicate, refl, sym, ap, ◌∙◌, subst, append_assoc, arith}
use Rattle.std.specs.Prelude.{Result, Ok, Err}
use Rattle.std.specs.List.{AllByRecursion, AllZip}
use Rattle.std.proofs.lemmas.List.{append-nil}
use Rattle.mdp_templates.specs.declared.instrument.Instrument.{Instrument}
use Rattle.mdp_lanes.specs.Queues.{LaneSenderView}
use Rattle.mdp_arbiter.specs.Machine.{Move}
use Rattle.mdp_desks.specs.Moments.{moments_after, moments_by}
use Rattle.mdp_desks.specs.Reports.{Report, report_of}
use Rattle.mdp_desks.specs.Shares.{is_kept_by}
use Rattle.mdp_reports.specs.Rounds.{batch_of, numbers_from}
use Rattle.mdp_crew.specs.Sent.{moves_sent}
use Rattle.mdp_reports.specs.ReportLaw.{AreFull}
use Rattle.mdp_reports.specs.declared.answer.Answer.{Answer}
use Rattle.mdp_reports.specs.declared.answer.Answer.TheVariants.{Tells, Finished}
use Rattle.mdp_crew.specs.declared.crew.Post.{Post}
use Rattle.mdp_crew.specs.declared.order.Order.{Order}
use Rattle.mdp_crew.specs.declared.fault.RunFault.{RunFault}
use Rattle.mdp_crew.specs.declared.worker.WorkerEnds.{WorkerEnds}
use Rattle.mdp_crew.specs.Collecting.{EndsCollecting, HasAll, HasSome, Showing, steps_of_batches, text_of_batches}
use Rattle.mdp_crew.specs.Publishing.{published_on}
use Rattle.mdp_crew.specs.Crew.{AreFresh, AreNumbered, IsFront, IsHired, IsSettled}
use Rattle.mdp_crew.specs.Orders.{and_sent, orders_of}
use Rattle.mdp_crew.specs.TakenRounds.{Wide, all_took, laid, put}
use Rattle.mdp_crew.specs.Shares.{WorkerShare, share_in, share_of}
use Rattle.mdp_crew.specs.Work.{HasAnswered, answers_by}
use Rattle.mdp_crew.proofs.Taking.{length-laid, length-nothing}

-- what the worker of a share reports of a batch after these moves
abbrev report_batch : WorkerShare → List Move → List Move → List Report
report_batch share before batch = map (report_of (is_kept_by share.workers share.number)) (moments_after share.listed before batch)

-- the rounds of all workers for these batches, behind these moves
abbrev pub rounds_of : List Instrument → ℕ → List Move → List (List Move) → List (List (List Report))
rounds_of listed workers before batches = map (batch_of workers) (moments_by listed before batches)

-- by these workers of so many
abbrev rounds_by : List Instrument → ℕ → List ℕ → List Move → List (List Move) → List (List (List Report))
rounds_by listed n ws before [] = []
rounds_by listed n ws before (x ∷ xs) = map (λ (w : ℕ). report_batch (share_of listed n w) before x) ws ∷ rounds_by listed n ws (before ++ x) xs

module _ {A : Type 0} where
  -- ---- one worker

  same_batches : (k : ℕ) (ys xs : List (List Move)) → orders_of {A = A} ys ≡ take k (orders_of xs) → ys ≡ xs
  same_batches zero [] xs is = absurd cc
  same_batches zero (y ∷ ys) xs is = absurd cc
  same_batches (suc k) [] [] is = refl
  same_batches (suc k) [] (x ∷ xs) is = absurd cc
  same_batches (suc k) (y ∷ ys) [] is = absurd cc
  same_batches (suc k) (y ∷ ys) (x ∷ xs) is =
      let here : y ≡ x = cc in
      let later : orders_of {A = A} ys ≡ take k (orders_of xs) = cc in
      let rest = same_batches k ys xs later in
      ap (λ (l : List (List Move)). y ∷ l) rest ∙ ap (λ (z : List Move). z ∷ xs) here

  pub settled : (share : WorkerShare) (old new : WorkerEnds A) (sent : List (Order A)) (taken : List (Answer A))
      → HasAnswered share old new → taken ≡ take (length taken) new.answers.sent → new.orders.taken ≡ take (length new.orders.taken) sent
      → (batches : List (List Move)) → sent ≡ orders_of batches → AreFull share.listed (moves_sent batches) → IsFront share [] batches taken
  settled share old new sent taken has answered ordered batches all full =
      let same : has.batches ≡ batches = same_batches (length new.orders.taken) has.batches batches (sym has.taken ∙ ordered ∙ ap (take (length new.orders.taken)) all) in
      let here : AreFull share.listed (moves_sent has.batches) = subst (λ (b : List (List Move)). AreFull share.listed (moves_sent b)) (sym same) full in
      subst (λ (b : List (List Move)). IsFront share [] b taken) same
      (record { good = has.good; done = has.done; front = answered ∙ ap (take (length taken)) (has.sent here); all = has.all })

  -- ---- one round of a worker

  front_step : (share : WorkerShare) (before y : List Move) (ys : List (List Move)) (t : List Report) (row : List (Answer A)) (good : ℕ) (done : Bool)
      → (Tells t ∷ row) ≡ take (suc (length row)) (answers_by share before (y ∷ ys) good done) → (done ≡ true → length (y ∷ ys) ≤ good)
      → (t ≡ report_batch share before y) × IsFront share (before ++ y) ys row
  front_step share before y ys t row zero true is all = absurd cc
  front_step share before y ys t row zero false is all = absurd cc
  front_step share before y ys t row (suc good) done is all =
      let here : t ≡ report_batch share before y = cc in
      let later : row ≡ take (length row) (answers_by share (before ++ y) ys good done) = cc in
      (here, record { good = good; done = done; front = later; all = λ finished. let most = all finished in omega (arith, most) })

  no_more : (share : WorkerShare) (before : List Move) (t : List Report) (row : List (Answer A)) (good : ℕ) (done : Bool) → (Tells t ∷ row) ≡ take (suc (length row)) (answers_by share before [] good done) → ⊥
  no_more share before t row zero true is = cc
  no_more share before t row zero false is = cc
  no_more share before t row (suc good) true is = cc
  no_more share before t row (suc good) false is = cc

  finishes : (share : WorkerShare) (before : List Move) (xs : List (List Move)) (good : ℕ) (done : Bool) → (Finished ∷ []) ≡ take 1 (answers_by {A = A} share before xs good done) → (done ≡ true → length xs ≤ good) → xs ≡ []
  finishes share before [] good done is all = refl
  finishes share before (x ∷ xs) zero true is all = let most = all refl in absurd (omega (arith, most))
  finishes share before (x ∷ xs) zero false is all = absurd cc
  finishes share before (x ∷ xs) (suc good) done is all = absurd cc

  -- ---- all workers

  abbrev pub AreFronts : List Instrument → ℕ → List Move → List (List Move) → List ℕ → List (List (Answer A)) → Type 0
  AreFronts listed n before xs ws rows = AllZip (λ (w : ℕ) (row : List (Answer A)). IsFront (share_of listed n w) before xs row) ws rows

  all_step : (listed : List Instrument) (n : ℕ) (before y : List Move) (ys : List (List Move)) (ws : List ℕ) (round : List (List Report)) (rows : List (List (Answer A)))
      → length round ≡ length ws → length rows ≡ length ws → AreFronts listed n before (y ∷ ys) ws (put round rows)
      → (round ≡ map (λ (w : ℕ). report_batch (share_of listed n w) before y) ws) × AreFronts listed n (before ++ y) ys ws rows
  all_step listed n before y ys [] [] [] wide long are = (refl, tt)
  all_step listed n before y ys [] (t ∷ ts) rows wide long are = absurd (omega (arith, wide))
  all_step listed n before y ys [] [] (row ∷ rows) wide long are = absurd (omega (arith, long))
  all_step listed n before y ys (w ∷ ws) [] rows wide long are = absurd (omega (arith, wide))
  all_step listed n before y ys (w ∷ ws) (t ∷ ts) [] wide long are = absurd (omega (arith, long))
  all_step listed n before y ys (w ∷ ws) (t ∷ ts) (row ∷ rows) wide long are =
      let here = front_step (share_of listed n w) before y ys t row are.0.good are.0.done are.0.front are.0.all in
      let later = all_step listed n before y ys ws ts rows (omega (arith, wide)) (omega (arith, long)) are.1 in
      (ap (λ (u : List Report). u ∷ ts) here.0 ∙ ap (λ (l : List (List Report)). report_batch (share_of listed n w) before y ∷ l) later.0, (here.1, later.1))

  one_more : (listed : List Instrument) (n : ℕ) (before : List Move) (xs : List (List Move)) (w : ℕ) (ws : List ℕ) (round : List (List Report)) (rows : List (List (Answer A)))
      → length round ≡ length (w ∷ ws) → length rows ≡ length (w ∷ ws) → AreFronts listed n before xs (w ∷ ws) (put round rows)
      → (y : List Move) × (ys : List (List Move)) × (xs ≡ y ∷ ys)
  one_more listed n before (y ∷ ys) w ws round rows wide long are = (y, ys, refl)
  one_more listed n before [] w ws [] rows wide long are = absurd (omega (arith, wide))
  one_more listed n before [] w ws (t ∷ ts) [] wide long are = absurd (omega (arith, long))
  one_more listed n before [] w ws (t ∷ ts) (row ∷ rows) wide long are = absurd (no_more (share_of listed n w) before t row are.0.good are.0.done are.0.front)

  -- the rounds are those of the first batches, and what came later is of the others
  record Parted (listed : List Instrument) (n : ℕ) (ws : List ℕ) (before : List Move) (xs : List (List Move)) (rounds : List (List (List Report))) (more : List (List (Answer A))) : Type 0 where
    first : List (List Move)
    later : List (List Move)
    parts : xs ≡ first ++ later
    rounds_are : rounds ≡ rounds_by listed n ws before first
    more_are : AreFronts listed n (before ++ moves_sent first) later ws more

  parted : (listed : List Instrument) (n w : ℕ) (ws : List ℕ) (before : List Move) (xs : List (List Move)) (rounds : List (List (List Report))) (more : List (List (Answer A)))
      → Wide (length (w ∷ ws)) rounds → length more ≡ length (w ∷ ws) → AreFronts listed n before xs (w ∷ ws) (laid rounds more) → Parted listed n (w ∷ ws) before xs rounds more
  parted listed n w ws before xs [] more wide long are =
      record { first = []; later = xs; parts = refl; rounds_are = refl; more_are = subst (λ (b : List Move). AreFronts listed n b xs (w ∷ ws) more) (sym (append-nil before)) are }
  parted listed n w ws before xs (round ∷ rounds) more wide long are =
      let rows : List (List (Answer A)) = laid rounds more in
      let high : length rows ≡ length (w ∷ ws) = length-laid (length (w ∷ ws)) rounds more long wide.1 in
      let next = one_more listed n before xs w ws round rows wide.0 high are in
      let y : List Move = next.0 in
      let ys : List (List Move) = next.1 in
      let step = all_step listed n before y ys (w ∷ ws) round rows wide.0 high (subst (λ (l : List (List Move)). AreFronts listed n before l (w ∷ ws) (put round rows)) next.2 are) in
      let rest = parted listed n w ws (before ++ y) ys rounds more wide.1 long step.1 in
      record {
        first = y ∷ rest.first;
        later = rest.later;
        parts = next.2 ∙ ap (λ (l : List (List Move)). y ∷ l) rest.parts;
        rounds_are = ap (λ (r : List (List Report)). r ∷ rounds) step.0 ∙ ap (λ (l : List (List (List Report))). map (λ (v : ℕ). report_batch (share_of listed n v) before y) (w ∷ ws) ∷ l) rest.rounds_are;
        more_are = subst (λ (b : List Move). AreFronts listed n b rest.later (w ∷ ws) more) (append_assoc before y (moves_sent rest.first)) rest.more_are;
      }

-- ---- rounds of batches

rounds_same : (listed : List Instrument) (n : ℕ) (before : List Move) (xs : List (List Move)) → rounds_by listed n (numbers_from 0 n) before xs ≡ rounds_of listed n before xs
rounds_same listed n before [] = refl
rounds_same listed n before (x ∷ xs) = ap (λ (l : List (List (List Report))). map (λ (w : ℕ). report_batch (share_of listed n w) before x) (numbers_from 0 n) ∷ l) (rounds_same listed n (before ++ x) xs)

length-numbers : (first n : ℕ) → length (numbers_from first n) ≡ n
length-numbers first zero = refl
length-numbers first (suc n) = ap suc (length-numbers (first + 1) n)

module _ {A : Type 0} where
  -- ---- from what is settled

  pub hired_still : (xs : List (Order A)) (ss : List (LaneSenderView (Order A))) (ps : List (Post A)) (rows : List (List (Answer A))) → AllZip IsHired ss ps → AllZip IsHired (map (and_sent xs) ss) (all_took ps rows)
  hired_still xs [] [] rows is = tt
  hired_still xs [] (p ∷ ps) rows is = elim is [ ]
  hired_still xs (s ∷ ss) [] rows is = elim is [ ]
  hired_still xs (s ∷ ss) (p ∷ ps) [] is = (record { orders_lane = is.0.orders_lane; answers_lane = is.0.answers_lane }, subst (λ (l : List (Post A)). AllZip IsHired (map (and_sent xs) ss) l) (none ps) (hired_still xs ss ps [] is.1))
    where
      none : (ps : List (Post A)) → all_took ps [] ≡ ps
      none [] = refl
      none (p ∷ ps) = refl
  hired_still xs (s ∷ ss) (p ∷ ps) (row ∷ rows) is = (record { orders_lane = is.0.orders_lane; answers_lane = is.0.answers_lane }, hired_still xs ss ps rows is.1)

  fronts_of : (listed : List Instrument) (n first : ℕ) (xs : List (List Move)) (ss : List (LaneSenderView (Order A))) (ps : List (Post A)) (rows : List (List (Answer A))) → length rows ≡ length ps → AreNumbered (share_of listed n first) ps
      → AllByRecursion (λ (s : LaneSenderView (Order A)). s.sent ≡ []) ss → AllByRecursion (λ (p : Post A). p.answers.taken ≡ []) ps → AreFull listed (moves_sent xs)
      → AllZip IsSettled (map (and_sent (orders_of xs)) ss) (all_took ps rows) → AreFronts listed n [] xs (numbers_from first (length ps)) rows
  fronts_of listed n first xs ss [] [] long numbered fresh none full settled = tt
  fronts_of listed n first xs ss [] (row ∷ rows) long numbered fresh none full settled = absurd (omega (arith, long))
  fronts_of listed n first xs ss (p ∷ ps) [] long numbered fresh none full settled = absurd (omega (arith, long))
  fronts_of listed n first xs [] (p ∷ ps) (row ∷ rows) long numbered fresh none full settled = elim settled [ ]
  fronts_of listed n first xs (s ∷ ss) (p ∷ ps) (row ∷ rows) long numbered fresh none full settled =
      let sent : s.sent ++ orders_of xs ≡ orders_of xs = ap (λ (l : List (Order A)). l ++ orders_of xs) fresh.0 in
      let taken : p.answers.taken ++ row ≡ row = ap (λ (l : List (Answer A)). l ++ row) none.0 in
      let here = settled.0 xs sent (subst (λ (s : WorkerShare). AreFull s.listed (moves_sent xs)) (sym numbered.0) full) in
      let mine : IsFront (share_of listed n first) [] xs row =
      subst (λ (s : WorkerShare). IsFront s [] xs row) numbered.0
      (subst (λ (l : List (Answer A)). IsFront (share_in p.handle.promise.share.value) [] xs l) taken here) in
      (mine, fronts_of listed n (first + 1) xs ss ps rows (omega (arith, long)) numbered.1 fresh.1 none.1 full settled.1)

  parted_of : (listed : List Instrument) (n : ℕ) (xs : List (List Move)) (rounds : List (List (List Report))) (more : List (List (Answer A))) → 1 ≤ n → Wide n rounds → length more ≡ n
      → AreFronts listed n [] xs (numbers_from 0 n) (laid rounds more) → Parted listed n (numbers_from 0 n) [] xs rounds more
  parted_of listed zero xs rounds more some wide long are = absurd (omega (arith, some))
  parted_of listed (suc n) xs rounds more some wide long are =
      let same : length (numbers_from 0 (suc n)) ≡ suc n = length-numbers 0 (suc n) in
      parted listed (suc n) 0 (numbers_from (0 + 1) n) [] xs rounds more (subst (λ (k : ℕ). Wide k rounds) (sym same) wide) (long ∙ sym same) are

  all_finished : (listed : List Instrument) (n k : ℕ) (before : List Move) (xs : List (List Move)) (first : ℕ) (last : List (Answer A)) → last ≡ Finished ∷ [] → 1 ≤ k
      → AreFronts listed n before xs (numbers_from first k) (replicate k last) → xs ≡ []
  all_finished listed n zero before xs first last is some are = absurd (omega (arith, some))
  all_finished listed n (suc k) before xs first last is some are =
      let here = subst (λ (row : List (Answer A)). IsFront (share_of listed n first) before xs row) is are.0 in
      finishes (share_of listed n first) before xs here.good here.done here.front here.all

  -- whole rounds of all batches
  rounds_all : (listed : List Instrument) (n : ℕ) (xs : List (List Move)) (rounds : List (List (List Report))) (last : List (Answer A)) → last ≡ Finished ∷ [] → 1 ≤ n → Wide n rounds
      → AreFronts listed n [] xs (numbers_from 0 n) (laid rounds (replicate n last)) → rounds ≡ rounds_of listed n [] xs
  rounds_all listed n xs rounds last is some wide are =
      let p = parted_of listed n xs rounds (replicate n last) some wide (length-nothing n last) are in
      let none : p.later ≡ [] = all_finished listed n n (moves_sent p.first) p.later 0 last is some p.more_are in
      p.rounds_are ∙ rounds_same listed n [] p.first ∙ ap (rounds_of listed n []) (sym (append-nil p.first) ∙ ap (λ (l : List (List Move)). p.first ++ l) (sym none) ∙ sym p.parts)

  -- the rounds are those of the first batches
  rounds_some : (listed : List Instrument) (n : ℕ) (xs : List (List Move)) (rounds : List (List (List Report))) (more : List (List (Answer A))) → 1 ≤ n → Wide n rounds → length more ≡ n
      → AreFronts listed n [] xs (numbers_from 0 n) (laid rounds more) → (first : List (List Move)) × (later : List (List Move)) × (xs ≡ first ++ later) × (rounds ≡ rounds_of listed n [] first)
  rounds_some listed n xs rounds more some wide long are =
      let p = parted_of listed n xs rounds more some wide long are in (p.first, p.later, p.parts, p.rounds_are ∙ rounds_same listed n [] p.first)

  -- ---- what is written once all is settled

  pub record AllSettled (listed : List Instrument) (n : ℕ) (xs : List (List Move)) (ss : List (LaneSenderView (Order A))) (old new : Showing A) : Type 0 where
    pub many : length old.posts ≡ n
    pub some : 1 ≤ n
    pub fresh : AreFresh ss old.posts
    pub numbered : AreNumbered (share_of listed n 0) old.posts
    pub full : AreFull listed (moves_sent xs)
    pub settled_are : AllZip IsSettled (map (and_sent (orders_of xs)) ss) new.posts

  fronts_all : (listed : List Instrument) (n : ℕ) (xs : List (List Move)) (ss : List (LaneSenderView (Order A))) (old new : Showing A) (rows : List (List (Answer A))) → AllSettled listed n xs ss old new → new.posts ≡ all_took old.posts rows → length rows ≡ n
      → AreFronts listed n [] xs (numbers_from 0 n) rows
  fronts_all listed n xs ss old new rows is took_is long =
      subst (λ (k : ℕ). AreFronts listed n [] xs (numbers_from 0 k) rows) is.many
      (fronts_of listed n 0 xs ss old.posts rows (long ∙ sym is.many) is.numbered is.fresh.0 is.fresh.1 is.full (subst (λ (l : List (Post A)). AllZip IsSettled (map (and_sent (orders_of xs)) ss) l) took_is is.settled_are))

  all_rounds : (listed : List Instrument) (n : ℕ) (xs : List (List Move)) (ss : List (LaneSenderView (Order A))) (old new : Showing A) → AllSettled listed n xs ss old new → (has : HasAll old new) → has.rounds ≡ rounds_of listed n [] xs
  all_rounds listed n xs ss old new is has =
      let last : List (Answer A) = Finished ∷ [] in
      let wide : Wide n has.rounds = subst (λ (k : ℕ). Wide k has.rounds) is.many has.wide in
      let took_is : new.posts ≡ all_took old.posts (laid has.rounds (replicate n last)) = has.took_is ∙ ap (λ (k : ℕ). all_took old.posts (laid has.rounds (replicate k last))) is.many in
      let long : length (laid has.rounds (replicate n last)) ≡ n = length-laid n has.rounds (replicate n last) (length-nothing n last) wide in
      rounds_all listed n xs has.rounds last refl is.some wide (fronts_all listed n xs ss old new (laid has.rounds (replicate n last)) is took_is long)

  pub some_rounds : (listed : List Instrument) (n : ℕ) (xs : List (List Move)) (ss : List (LaneSenderView (Order A))) (old new : Showing A) → AllSettled listed n xs ss old new → (has : HasSome old new)
      → (first : List (List Move)) × (later : List (List Move)) × (xs ≡ first ++ later) × (has.rounds ≡ rounds_of listed n [] first)
  some_rounds listed n xs ss old new is has =
      let wide : Wide n has.rounds = subst (λ (k : ℕ). Wide k has.rounds) is.many has.wide in
      let long : length (laid has.rounds has.more) ≡ n = length-laid n has.rounds has.more (has.long ∙ is.many) wide in
      rounds_some listed n xs has.rounds has.more is.some wide (has.long ∙ is.many) (fronts_all listed n xs ss old new (laid has.rounds has.more) is has.took_is long)

  pub all_written : (listed : List Instrument) (n : ℕ) (xs : List (List Move)) (ss : List (LaneSenderView (Order A))) (old new : Showing A) → AllSettled listed n xs ss old new → HasAll old new
      → new.taken ≡ old.taken ++ text_of_batches old.collector (rounds_of listed n [] xs)
  all_written listed n xs ss old new is has = has.text ∙ ap (λ (l : List (List (List Report))). old.taken ++ text_of_batches old.collector l) (all_rounds listed n xs ss old new is has)

  pub all_published : (listed : List Instrument) (n : ℕ) (xs : List (List Move)) (ss : List (LaneSenderView (Order A))) (old new : Showing A) → AllSettled listed n xs ss old new → HasAll old new
      → new.board ≡ published_on old.board (steps_of_batches (rounds_of listed n [] xs))
  all_published listed n xs ss old new is has = has.steps ∙ ap (λ (l : List (List (List Report))). published_on old.board (steps_of_batches l)) (all_rounds listed n xs ss old new is has)

  -- whatever it came to, it took some answers of each worker
  pub ended_took : (old new : Showing A) (result : Result (Unit {0}) RunFault) → EndsCollecting old new result → (rows : List (List (Answer A))) × (new.posts ≡ all_took old.posts rows)
  ended_took old new (Ok done) is = (laid is.rounds (replicate (length old.posts) (Finished ∷ [])), is.took_is)
  ended_took old new (Err fault) is = (laid is.rounds is.more, is.took_is)
