-- What is taken, round by round, and what is written of it.
use Rattle.std.proofs.Common.{◌≡◌, ◌<◌, ℕ, zero, suc, Bool, true, false, List, [], ◌∷◌, ◌++◌, length, take, drop, map, set, get_or, replicate, refl, sym, ap, ◌∙◌, subst, append_assoc, arith}
use Rattle.std.specs.Prelude.{Result, Ok, Err, ◌||◌}
use Rattle.std.specs.List.{AllByRecursion, list_any}
use Rattle.std.proofs.lemmas.List.{append-nil, take-append-drop}
use Rattle.mdp_lanes.specs.Queues.{LaneReceiverView}
use Rattle.mdp_lanes.specs.declared.step.Step.{Step}
use Rattle.mdp_crew.specs.TakenRounds.{IsToLast, took, all_took, put, laid, one_each, Wide, all_tell, all_finish, is_told, last_of, lasts}
use Rattle.mdp_crew.specs.Collecting.{Showing, kept_after_batch, text_of_batch, text_of_batches, steps_of_batch, steps_of_batches, CutShort, IsCut, ShowsRound, TakesOne, TakesRounds, HasAll, HasSome, EndsCollecting, IsCollecting}
use Rattle.mdp_crew.specs.Collecting.CutShort.{in_text, in_steps}
use Rattle.mdp_crew.specs.Collecting.IsCut.{among_steps, in_last}
use Rattle.mdp_crew.specs.Publishing.{published_on}
use Rattle.mdp_crew.proofs.Boards.{published_nothing, published_more, steps-append, steps-push}
use Rattle.mdp_desks.specs.Reports.{Report}
use Rattle.mdp_reports.specs.FromAnswers.{told_in_answer}
use Rattle.mdp_reports.specs.Taking.{View}
use Rattle.mdp_crew.specs.declared.fault.RunFault.{RunFault}
use Rattle.mdp_crew.specs.declared.crew.Post.{Post}
use Rattle.mdp_reports.specs.declared.answer.Answer.{Answer}
use Rattle.mdp_reports.specs.declared.answer.Answer.TheVariants.{Tells, Failed, Finished}

-- ---- any rounds

none_first : (a b : Bool) → (a || b) ≡ false → a ≡ false
none_first true b none = absurd cc
none_first false b none = refl

none_later : (a b : Bool) → (a || b) ≡ false → b ≡ false
none_later true b none = absurd cc
none_later false b none = none

wide-append : (n : ℕ) (xs ys : List (List (List Report))) → Wide n xs → Wide n ys → Wide n (xs ++ ys)
wide-append n [] ys first later = later
wide-append n (x ∷ xs) ys first later = (first.0, wide-append n xs ys first.1 later)

module _ {A : Type 0} where
  -- ---- one post after another

  pub took_none : (ps : List (Post A)) → ps ≡ all_took ps []
  took_none [] = refl
  took_none (p ∷ ps) = refl

  took_next : (ps : List (Post A)) (rows : List (List (Answer A))) (p : Post A) (row : List (Answer A)) → length rows < length ps → p ≡ get_or (all_took ps rows) (length rows) p
      → set (all_took ps rows) (length rows) (took p row) ≡ all_took ps (rows ++ row ∷ [])
  took_next [] rows p row h e = absurd (omega (arith, h))
  took_next (q ∷ []) [] p row h e = λ i. took (e i) row ∷ []
  took_next (q ∷ r ∷ ps) [] p row h e = λ i. took (e i) row ∷ r ∷ ps
  took_next (q ∷ ps) (b ∷ rows) p row h e = ap (λ (l : List (Post A)). took q b ∷ l) (took_next ps rows p row (omega (arith, h)) e)

  pub took_step : (ps : List (Post A)) (rows : List (List (Answer A))) (now : List (Post A)) (i : ℕ) (p : Post A) (row : List (Answer A)) (left : LaneReceiverView (Answer A))
      → length rows ≡ i → now ≡ all_took ps rows → i < length ps → p ≡ get_or now i p
      → left ≡ record (get_or now i p).answers { taken = (get_or now i p).answers.taken ++ row }
      → set now i (record { answers = left; handle = (get_or now i p).handle }) ≡ all_took ps (rows ++ row ∷ [])
  took_step ps rows now i p row left n is h at e =
      let here : p ≡ get_or (all_took ps rows) (length rows) p = at ∙ λ k. get_or (is k) (sym n k) p in
      let new : record { answers = left; handle = (get_or now i p).handle } ≡ took p row = (λ k. record { answers = e k; handle = (get_or now i p).handle }) ∙ ap (λ (q : Post A). took q row) (sym at) in
      (λ k. set (is k) (sym n k) (new k)) ∙ took_next ps rows p row (omega (arith, h, n)) here

  pub length-took : (ps : List (Post A)) (rows : List (List (Answer A))) → length (all_took ps rows) ≡ length ps
  length-took [] rows = refl
  length-took (p ∷ ps) [] = refl
  length-took (p ∷ ps) (row ∷ rows) = ap suc (length-took ps rows)

  -- ---- the last answers

  pub lasts_none : (round : List (Answer A)) → round ≡ lasts round []
  lasts_none [] = refl
  lasts_none (a ∷ round) = refl

  pub length-lasts : (round : List (Answer A)) (rows : List (List (Answer A))) → length (lasts round rows) ≡ length round
  length-lasts [] rows = refl
  length-lasts (a ∷ round) [] = refl
  length-lasts (a ∷ round) (row ∷ rows) = ap suc (length-lasts round rows)

  lasts_next : (round : List (Answer A)) (rows : List (List (Answer A))) (a : Answer A) (row : List (Answer A)) → length rows < length round → a ≡ get_or (lasts round rows) (length rows) a
      → set (lasts round rows) (length rows) (last_of a row) ≡ lasts round (rows ++ row ∷ [])
  lasts_next [] rows a row h e = absurd (omega (arith, h))
  lasts_next (b ∷ []) [] a row h e = λ i. last_of (e i) row ∷ []
  lasts_next (b ∷ d ∷ round) [] a row h e = λ i. last_of (e i) row ∷ d ∷ round
  lasts_next (b ∷ round) (r ∷ rows) a row h e = ap (λ (l : List (Answer A)). last_of b r ∷ l) (lasts_next round rows a row (omega (arith, h)) e)

  pub lasts_step : (round : List (Answer A)) (rows : List (List (Answer A))) (now : List (Answer A)) (i : ℕ) (a : Answer A) (row : List (Answer A)) (left : Answer A)
      → length rows ≡ i → now ≡ lasts round rows → i < length round → a ≡ get_or now i a → left ≡ last_of a row → set now i left ≡ lasts round (rows ++ row ∷ [])
  lasts_step round rows now i a row left n is h at e =
      let here : a ≡ get_or (lasts round rows) (length rows) a = at ∙ λ k. get_or (is k) (sym n k) a in
      (λ k. set (is k) (sym n k) (e k)) ∙ lasts_next round rows a row (omega (arith, h, n)) here

  -- ---- rows put together

  abbrev pub joined : List (List (Answer A)) → List (List (Answer A)) → List (List (Answer A))
  joined [] ys = []
  joined (x ∷ xs) [] = x ∷ xs
  joined (x ∷ xs) (y ∷ ys) = (x ++ y) ∷ joined xs ys

  pub length-joined : (xs ys : List (List (Answer A))) → length (joined xs ys) ≡ length xs
  length-joined [] ys = refl
  length-joined (x ∷ xs) [] = refl
  length-joined (x ∷ xs) (y ∷ ys) = ap suc (length-joined xs ys)

  pub took_took : (ps : List (Post A)) (xs ys : List (List (Answer A))) → length xs ≡ length ps → all_took (all_took ps xs) ys ≡ all_took ps (joined xs ys)
  took_took [] xs ys long = refl
  took_took (p ∷ ps) [] ys long = absurd (omega (arith, long))
  took_took (p ∷ ps) (x ∷ xs) [] long = refl
  took_took (p ∷ ps) (x ∷ xs) (y ∷ ys) long =
      let here : took (took p x) y ≡ took p (x ++ y) = λ k. record p { answers = record p.answers { taken = append_assoc p.answers.taken x y k } } in
      ap (λ (q : Post A). q ∷ all_took (all_took ps xs) ys) here
      ∙ ap (λ (l : List (Post A)). took p (x ++ y) ∷ l) (took_took ps xs ys (omega (arith, long)))

  last_on : (a : Answer A) (x y : List (Answer A)) → last_of (last_of a x) y ≡ last_of a (x ++ y)
  last_on a [] y = refl
  last_on a (b ∷ x) y = last_on b x y

  pub lasts_lasts : (round : List (Answer A)) (xs ys : List (List (Answer A))) → length xs ≡ length round → lasts (lasts round xs) ys ≡ lasts round (joined xs ys)
  lasts_lasts [] xs ys long = refl
  lasts_lasts (a ∷ round) [] ys long = absurd (omega (arith, long))
  lasts_lasts (a ∷ round) (x ∷ xs) [] long = refl
  lasts_lasts (a ∷ round) (x ∷ xs) (y ∷ ys) long =
      ap (λ (b : Answer A). b ∷ lasts (lasts round xs) ys) (last_on a x y)
      ∙ ap (λ (l : List (Answer A)). last_of a (x ++ y) ∷ l) (lasts_lasts round xs ys (omega (arith, long)))

  abbrev nothing : ℕ → List (List (Answer A))
  nothing n = replicate n []

  joined-nothing : (ys : List (List (Answer A))) → joined (nothing (length ys)) ys ≡ ys
  joined-nothing [] = refl
  joined-nothing (y ∷ ys) = ap (λ (l : List (List (Answer A))). y ∷ l) (joined-nothing ys)

  put_joined : (round : List (List Report)) (xs ys : List (List (Answer A))) → joined (put round xs) ys ≡ put round (joined xs ys)
  put_joined [] xs ys = refl
  put_joined (t ∷ ts) [] ys = refl
  put_joined (t ∷ ts) (x ∷ xs) [] = refl
  put_joined (t ∷ ts) (x ∷ xs) (y ∷ ys) = ap (λ (l : List (List (Answer A))). (Tells t ∷ (x ++ y)) ∷ l) (put_joined ts xs ys)

  laid_joined : (rounds : List (List (List Report))) (xs ys : List (List (Answer A))) → joined (laid rounds xs) ys ≡ laid rounds (joined xs ys)
  laid_joined [] xs ys = refl
  laid_joined (round ∷ rounds) xs ys = put_joined round (laid rounds xs) ys ∙ ap (put round) (laid_joined rounds xs ys)

  laid-append : (xs ys : List (List (List Report))) (more : List (List (Answer A))) → laid (xs ++ ys) more ≡ laid xs (laid ys more)
  laid-append [] ys more = refl
  laid-append (x ∷ xs) ys more = ap (put x) (laid-append xs ys more)

  length-put : (round : List (List Report)) (rows : List (List (Answer A))) → length round ≡ length rows → length (put round rows) ≡ length rows
  length-put [] [] long = refl
  length-put [] (row ∷ rows) long = absurd (omega (arith, long))
  length-put (t ∷ ts) [] long = refl
  length-put (t ∷ ts) (row ∷ rows) long = ap suc (length-put ts rows (omega (arith, long)))

  pub length-laid : (n : ℕ) (rounds : List (List (List Report))) (more : List (List (Answer A))) → length more ≡ n → Wide n rounds → length (laid rounds more) ≡ n
  length-laid n [] more long wide = long
  length-laid n (round ∷ rounds) more long wide =
      let rest = length-laid n rounds more long wide.1 in
      length-put round (laid rounds more) (wide.0 ∙ sym rest) ∙ rest

  pub length-nothing : (n : ℕ) (x : List (Answer A)) → length (replicate n x) ≡ n
  length-nothing zero x = refl
  length-nothing (suc n) x = ap suc (length-nothing n x)

  pub lasts_nothing : (round : List (Answer A)) (n : ℕ) → round ≡ lasts round (nothing n)
  lasts_nothing [] n = refl
  lasts_nothing (a ∷ round) zero = refl
  lasts_nothing (a ∷ round) (suc n) = ap (λ (l : List (Answer A)). a ∷ l) (lasts_nothing round n)

  -- rounds, and then more rounds and these answers
  then_took : (ps now new : List (Post A)) (xs ys : List (List (List Report))) (more : List (List (Answer A))) → Wide (length ps) xs → Wide (length ps) ys → length more ≡ length ps
      → now ≡ all_took ps (laid xs (nothing (length ps))) → new ≡ all_took now (laid ys more) → new ≡ all_took ps (laid (xs ++ ys) more)
  then_took ps now new xs ys more wide later long is next =
      let first : length (laid xs (nothing (length ps))) ≡ length ps = length-laid (length ps) xs (nothing (length ps)) (length-nothing (length ps) []) wide in
      let second : length (laid ys more) ≡ length ps = length-laid (length ps) ys more long later in
      next
      ∙ ap (λ (l : List (Post A)). all_took l (laid ys more)) is
      ∙ took_took ps (laid xs (nothing (length ps))) (laid ys more) first
      ∙ ap (all_took ps) (laid_joined xs (nothing (length ps)) (laid ys more)
      ∙ ap (λ (n : ℕ). laid xs (joined (nothing n) (laid ys more))) (sym second)
      ∙ ap (laid xs) (joined-nothing (laid ys more))
      ∙ sym (laid-append xs ys more))

  -- ---- one round

  pub told_laid : (answers : List (Answer A)) (n : ℕ) → length answers ≡ n → all_tell answers ≡ true → one_each answers ≡ laid (map told_in_answer answers ∷ []) (nothing n)
  told_laid [] zero long is = refl
  told_laid [] (suc n) long is = absurd (omega (arith, long))
  told_laid (a ∷ answers) zero long is = absurd (omega (arith, long))
  told_laid (Tells t ∷ answers) (suc n) long is = ap (λ (l : List (List (Answer A))). (Tells t ∷ []) ∷ l) (told_laid answers n (omega (arith, long)) is)
  told_laid (Failed ∷ answers) (suc n) long is = absurd cc
  told_laid (Finished ∷ answers) (suc n) long is = absurd cc

  pub told_wide : (answers : List (Answer A)) → all_tell answers ≡ true → length (map told_in_answer answers) ≡ length answers
  told_wide [] is = refl
  told_wide (Tells t ∷ answers) is = ap suc (told_wide answers is)
  told_wide (Failed ∷ answers) is = absurd cc
  told_wide (Finished ∷ answers) is = absurd cc

  finished_laid : (answers : List (Answer A)) (n : ℕ) → length answers ≡ n → all_finish answers ≡ true → one_each answers ≡ replicate n (Finished ∷ [])
  finished_laid [] zero long is = refl
  finished_laid [] (suc n) long is = absurd (omega (arith, long))
  finished_laid (a ∷ answers) zero long is = absurd (omega (arith, long))
  finished_laid (Tells t ∷ answers) (suc n) long is = absurd cc
  finished_laid (Failed ∷ answers) (suc n) long is = absurd cc
  finished_laid (Finished ∷ answers) (suc n) long is = ap (λ (l : List (List (Answer A))). (Finished ∷ []) ∷ l) (finished_laid answers n (omega (arith, long)) is)

  -- ---- drained

  -- what came after each of these answers goes to the last
  ended_each : (round : List (Answer A)) (rows : List (List (Answer A))) → list_any is_told (lasts round rows) ≡ false → AllByRecursion IsToLast (joined (one_each round) rows)
  ended_each [] rows none = tt
  ended_each (a ∷ round) [] none = (none_first (is_told a) (list_any is_told round) none, ended_alone round (none_later (is_told a) (list_any is_told round) none))
    where
      ended_alone : (round : List (Answer A)) → list_any is_told round ≡ false → AllByRecursion IsToLast (one_each round)
      ended_alone [] none = tt
      ended_alone (a ∷ round) none = (none_first (is_told a) (list_any is_told round) none, ended_alone round (none_later (is_told a) (list_any is_told round) none))
  ended_each (a ∷ round) (row ∷ rows) none =
      (none_first (is_told (last_of a row)) (list_any is_told (lasts round rows)) none, ended_each round rows (none_later (is_told (last_of a row)) (list_any is_told (lasts round rows)) none))

  -- where each of these answers tells reports, it isn't the last
  told_ended : (round : List (Answer A)) (rows : List (List (Answer A))) → length rows ≡ length round → all_tell round ≡ true → list_any is_told (lasts round rows) ≡ false → AllByRecursion IsToLast rows
  told_ended round [] long told none = tt
  told_ended [] (row ∷ rows) long told none = absurd (omega (arith, long))
  told_ended (Failed ∷ round) (row ∷ rows) long told none = absurd cc
  told_ended (Finished ∷ round) (row ∷ rows) long told none = absurd cc
  told_ended (Tells t ∷ round) ([] ∷ rows) long told none = absurd cc
  told_ended (Tells t ∷ round) ((a ∷ row) ∷ rows) long told none =
      (none_first (is_told (last_of a row)) (list_any is_told (lasts round rows)) none, told_ended round rows (omega (arith, long)) told (none_later (is_told (last_of a row)) (list_any is_told (lasts round rows)) none))

  -- ---- a turn

  pub length-each : (answers : List (Answer A)) → length (one_each answers) ≡ length answers
  length-each [] = refl
  length-each (a ∷ answers) = ap suc (length-each answers)

  -- a round has as many answers as there are posts, after it was taken too
  pub many_taken : (old new : List (Post A)) (answers : List (Answer A)) → length answers ≡ length old → new ≡ all_took old (one_each answers) → length answers ≡ length new
  many_taken old new answers long is = long ∙ sym (ap length is ∙ length-took old (one_each answers))

  pub turned_all : (old new : Showing A) (answers : List (Answer A)) → length answers ≡ length old.posts → all_finish answers ≡ true
      → new.posts ≡ all_took old.posts (one_each answers) → new.taken ≡ old.taken → new.board ≡ old.board → HasAll old new
  turned_all old new answers long is took_is text steps = record {
    rounds = [];
    wide = tt;
    took_is = took_is ∙ ap (all_took old.posts) (finished_laid answers (length old.posts) long is);
    text = text ∙ sym (append-nil old.taken);
    steps = steps ∙ published_nothing old.board;
  }

  pub turned_on : (old new : Showing A) (posts : List (Post A)) (collector : View) (answers : List (Answer A)) → length answers ≡ length old.posts → all_tell answers ≡ true
      → posts ≡ all_took old.posts (one_each answers) → collector ≡ old.collector → new.posts ≡ posts
      → ShowsRound (record old { posts = posts; collector = collector }) new (map told_in_answer answers) → TakesOne old new
  turned_on old new posts collector answers long is took_is kept stays shows =
      let round = map told_in_answer answers in
      record {
        round = round;
        wide = told_wide answers is ∙ long;
        took_is = stays ∙ took_is ∙ ap (all_took old.posts) (told_laid answers (length old.posts) long is);
        shows = record {
          text = shows.text ∙ ap (λ (v : View). old.taken ++ text_of_batch v round) kept;
          steps = shows.steps;
          kept_is = shows.kept_is ∙ ap (λ (v : View). kept_after_batch v round) kept;
        };
      }

  pub turned_broken : (old new : Showing A) (posts : List (Post A)) (answers : List (Answer A)) (more : List (List (Answer A))) → length answers ≡ length old.posts → posts ≡ all_took old.posts (one_each answers)
      → new.posts ≡ all_took posts more → list_any is_told (lasts answers more) ≡ false → new.taken ≡ old.taken → new.board ≡ old.board → HasSome old new
  turned_broken old new posts answers more long took_is drained none text steps =
      let first : length (one_each answers) ≡ length old.posts = length-each answers ∙ long in
      record {
        rounds = [];
        wide = tt;
        more = joined (one_each answers) more;
        long = length-joined (one_each answers) more ∙ first;
        took_is = drained ∙ ap (λ (l : List (Post A)). all_took l more) took_is ∙ took_took old.posts (one_each answers) more first;
        to_last = ended_each answers more none;
        out = among_steps [] [] refl (text ∙ sym (append-nil old.taken)) (steps ∙ published_nothing old.board);
      }

  -- what went out of the one round
  out_of_round : (old new : Showing A) (posts posts' : List (Post A)) (collector collector' : View) (round : List (List Report)) → collector ≡ old.collector
      → CutShort (record old { posts = posts; collector = collector }) (record new { posts = posts'; collector = collector' }) round → IsCut old new (round ∷ [])
  out_of_round old new posts posts' collector collector' round kept (in_text n text same) =
      let whole = text_of_batch old.collector round in
      in_last [] round (take n whole) (drop n whole) refl (append-nil whole ∙ sym (take-append-drop n whole))
      (text ∙ ap (λ (v : View). old.taken ++ take n (text_of_batch v round)) kept) (same ∙ published_nothing old.board)
  out_of_round old new posts posts' collector collector' round kept (in_steps n text steps) =
      let all = steps_of_batch round in
      among_steps (take n all) (drop n all) (sym (steps-push [] round) ∙ sym (take-append-drop n all))
      (text ∙ ap (λ (v : View). old.taken ++ text_of_batch v round) kept ∙ ap (λ (t : List ℕ). old.taken ++ t) (sym (append-nil (text_of_batch old.collector round)))) steps

  pub turned_short : (old new : Showing A) (posts posts' : List (Post A)) (collector collector' : View) (answers : List (Answer A)) (more : List (List (Answer A))) → length answers ≡ length old.posts → all_tell answers ≡ true
      → posts ≡ all_took old.posts (one_each answers) → collector ≡ old.collector → length more ≡ length posts → new.posts ≡ all_took posts more → list_any is_told (lasts answers more) ≡ false
      → CutShort (record old { posts = posts; collector = collector }) (record new { posts = posts'; collector = collector' }) (map told_in_answer answers) → HasSome old new
  turned_short old new posts posts' collector collector' answers more long is took_is kept many drained none out =
      let same : length more ≡ length old.posts = many ∙ ap length took_is ∙ length-took old.posts (one_each answers) in
      let wide : Wide (length old.posts) (map told_in_answer answers ∷ []) = (told_wide answers is ∙ long, tt) in
      record {
        rounds = map told_in_answer answers ∷ [];
        wide = wide;
        more = more;
        long = same;
        took_is = then_took old.posts posts new.posts (map told_in_answer answers ∷ []) [] more wide tt same (took_is ∙ ap (all_took old.posts) (told_laid answers (length old.posts) long is)) drained;
        to_last = told_ended answers more (same ∙ sym long) is none;
        out = out_of_round old new posts posts' collector collector' (map told_in_answer answers) kept out;
      }

  -- ---- all turns

  pub took_nothing : (ps : List (Post A)) → ps ≡ all_took ps (nothing (length ps))
  took_nothing [] = refl
  took_nothing (p ∷ ps) =
      let here : p ≡ took p [] = λ k. record p { answers = record p.answers { taken = sym (append-nil p.answers.taken) k } } in
      ap (λ (q : Post A). q ∷ ps) here ∙ ap (λ (l : List (Post A)). took p [] ∷ l) (took_nothing ps)

  pub under_way_first : (old : Showing A) → IsCollecting old old
  under_way_first old = record {
    so_far = record { rounds = []; wide = tt; took_is = took_nothing old.posts; text = sym (append-nil old.taken); steps = published_nothing old.board };
    rest = λ more. refl;
  }

  same_long : (old now : Showing A) → (so_far : TakesRounds [] old now) → length now.posts ≡ length old.posts
  same_long old now so_far = ap length so_far.took_is ∙ length-took old.posts (laid so_far.rounds (nothing (length old.posts)))

  -- these rounds, and then those
  took_on : (last : List (Answer A)) (old now new : Showing A) → IsCollecting old now → TakesRounds last now new → TakesRounds last old new
  took_on last old now new under_way on =
      let so_far = under_way.so_far in
      let long : length now.posts ≡ length old.posts = same_long old now so_far in
      let wide : Wide (length old.posts) on.rounds = subst (λ (n : ℕ). Wide n on.rounds) long on.wide in
      record {
        rounds = so_far.rounds ++ on.rounds;
        wide = wide-append (length old.posts) so_far.rounds on.rounds so_far.wide wide;
        took_is = then_took old.posts now.posts new.posts so_far.rounds on.rounds (replicate (length old.posts) last) so_far.wide wide (length-nothing (length old.posts) last) so_far.took_is
            (on.took_is ∙ ap (λ (n : ℕ). all_took now.posts (laid on.rounds (replicate n last))) long);
        text =
            on.text
            ∙ ap (λ (t : List ℕ). t ++ text_of_batches now.collector on.rounds) so_far.text
            ∙ append_assoc old.taken (text_of_batches old.collector so_far.rounds) (text_of_batches now.collector on.rounds)
            ∙ ap (λ (t : List ℕ). old.taken ++ t) (sym (under_way.rest on.rounds));
        steps =
            published_more old.board now.board new.board (steps_of_batches so_far.rounds) (steps_of_batches on.rounds) so_far.steps on.steps
            ∙ ap (published_on old.board) (sym (steps-append so_far.rounds on.rounds));
      }

  one_taken : (old new : Showing A) → TakesOne old new → TakesRounds [] old new
  one_taken old new on = record {
    rounds = on.round ∷ [];
    wide = (on.wide, tt);
    took_is = on.took_is;
    text = on.shows.text ∙ ap (λ (t : List ℕ). old.taken ++ t) (sym (append-nil (text_of_batch old.collector on.round)));
    steps = on.shows.steps ∙ ap (published_on old.board) (steps-push [] on.round);
  }

  pub under_way_on : (old now new : Showing A) → TakesOne now new → IsCollecting old now → IsCollecting old new
  unfolding took_on one_taken
  under_way_on old now new on under_way =
      let rounds = under_way.so_far.rounds in
      let first = text_of_batches old.collector rounds in
      let next = text_of_batch now.collector on.round in
      record {
        so_far = took_on [] old now new under_way (one_taken now new on);
        rest = λ more.
            ap (text_of_batches old.collector) (append_assoc rounds (on.round ∷ []) more)
            ∙ under_way.rest (on.round ∷ more)
            ∙ ap (λ (z : View). first ++ (next ++ text_of_batches z more)) (sym on.shows.kept_is)
            ∙ sym (append_assoc first next (text_of_batches new.collector more))
            ∙ ap (λ (t : List ℕ). (first ++ t) ++ text_of_batches new.collector more) (sym (append-nil next))
            ∙ ap (λ (t : List ℕ). t ++ text_of_batches new.collector more) (sym (under_way.rest (on.round ∷ [])));
      }

  -- what went out of these rounds, all of which went out, and of more
  cut_on : (old now new : Showing A) (more : List (List (List Report))) → (under_way : IsCollecting old now) → IsCut now new more → IsCut old new (under_way.so_far.rounds ++ more)
  cut_on old now new more under_way (among_steps shown hidden all went published) =
      let rounds = under_way.so_far.rounds in
      let first = text_of_batches old.collector rounds in
      among_steps (steps_of_batches rounds ++ shown) hidden
      (steps-append rounds more ∙ ap (λ (l : List Step). steps_of_batches rounds ++ l) all ∙ sym (append_assoc (steps_of_batches rounds) shown hidden))
      (went ∙ ap (λ (t : List ℕ). t ++ text_of_batches now.collector more) under_way.so_far.text ∙ append_assoc old.taken first (text_of_batches now.collector more)
      ∙ ap (λ (t : List ℕ). old.taken ++ t) (sym (under_way.rest more)))
      (published_more old.board now.board new.board (steps_of_batches rounds) shown under_way.so_far.steps published)
  cut_on old now new more under_way (in_last done round sent left parts whole went published) =
      let rounds = under_way.so_far.rounds in
      let first = text_of_batches old.collector rounds in
      let next = text_of_batches now.collector done in
      in_last (rounds ++ done) round sent left
      (ap (λ (l : List (List (List Report))). rounds ++ l) parts ∙ sym (append_assoc rounds done (round ∷ [])))
      (under_way.rest more ∙ ap (λ (t : List ℕ). first ++ t) whole ∙ sym (append_assoc first next (sent ++ left)) ∙ ap (λ (t : List ℕ). t ++ (sent ++ left)) (sym (under_way.rest done)))
      (went ∙ ap (λ (t : List ℕ). t ++ (next ++ sent)) under_way.so_far.text ∙ append_assoc old.taken first (next ++ sent)
      ∙ ap (λ (t : List ℕ). old.taken ++ t) (sym (append_assoc first next sent) ∙ ap (λ (t : List ℕ). t ++ sent) (sym (under_way.rest done))))
      (published_more old.board now.board new.board (steps_of_batches rounds) (steps_of_batches done) under_way.so_far.steps published
      ∙ ap (published_on old.board) (sym (steps-append rounds done)))

  ended_some : (old now new : Showing A) → HasSome now new → IsCollecting old now → HasSome old new
  ended_some old now new last under_way =
      let so_far = under_way.so_far in
      let long : length now.posts ≡ length old.posts = same_long old now so_far in
      let wide : Wide (length old.posts) last.rounds = subst (λ (n : ℕ). Wide n last.rounds) long last.wide in
      record {
        rounds = so_far.rounds ++ last.rounds;
        wide = wide-append (length old.posts) so_far.rounds last.rounds so_far.wide wide;
        more = last.more;
        long = last.long ∙ long;
        took_is = then_took old.posts now.posts new.posts so_far.rounds last.rounds last.more so_far.wide wide (last.long ∙ long) so_far.took_is last.took_is;
        to_last = last.to_last;
        out = cut_on old now new last.rounds under_way last.out;
      }

  pub ended : (old now new : Showing A) (outcome : Result (Unit {0}) RunFault) → EndsCollecting now new outcome → IsCollecting old now → EndsCollecting old new outcome
  ended old now new (Ok done) last under_way = took_on (Finished ∷ []) old now new under_way last
  ended old now new (Err fault) last under_way = ended_some old now new last under_way

  pub each-push : (answers : List (Answer A)) (a : Answer A) → one_each (answers ++ a ∷ []) ≡ one_each answers ++ (a ∷ []) ∷ []
  each-push [] a = refl
  each-push (x ∷ answers) a = ap (λ (l : List (List (Answer A))). (x ∷ []) ∷ l) (each-push answers a)
