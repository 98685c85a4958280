-- What a worker has answered, one order after another.
use Rattle.std.proofs.Common.{◌≡◌, ℕ, Bool, true, false, List, [], ◌∷◌, ◌++◌, length, map, take, refl, sym, ap, ◌∙◌, subst, append_assoc, arith}
use Rattle.std.proofs.lemmas.List.{append-nil, map-append, length-append}
use Rattle.std.proofs.lemmas.List.Concat.{flat_map-append}
use Rattle.mdp_templates.specs.declared.instrument.Instrument.{Instrument}
use Rattle.mdp_lanes.specs.Queues.{LaneReceiverView, LaneSenderView}
use Rattle.mdp_arbiter.specs.Machine.{Move}
use Rattle.mdp_arbiter.specs.Machine.Move.{passed, jumped}
use Rattle.mdp_desks.specs.Desks.{desk_at_start}
use Rattle.mdp_desks.specs.Moments.{moments_after}
use Rattle.mdp_desks.specs.Reports.{Report, report_of}
use Rattle.mdp_desks.specs.Shares.{is_kept_by, own_moves, own_part, own_slots}
use Rattle.mdp_desks.proofs.Showing.{shows_nothing}
use Rattle.mdp_crew.specs.Sent.{moves_sent}
use Rattle.mdp_reports.specs.ReportLaw.{AreFull, StandBehind}
use Rattle.mdp_reports.specs.Reporting.{desks_after_moves, reports_of_moves}
use Rattle.mdp_reports.specs.Worker.{View}
use Rattle.mdp_reports.specs.declared.answer.Answer.{Answer}
use Rattle.mdp_reports.specs.declared.answer.Answer.TheVariants.{Tells}
use Rattle.mdp_reports.proofs.Moves.{law_of_reports}
use Rattle.mdp_crew.specs.declared.order.Order.{Order}
use Rattle.mdp_crew.specs.declared.order.Order.TheVariants.{Take, Done}
use Rattle.mdp_crew.specs.Answering.{HasDrained, HasEnded, HasTold, IsWorking}
use Rattle.mdp_crew.specs.declared.worker.WorkerEnds.{WorkerEnds}
use Rattle.mdp_crew.specs.declared.worker.Working.{Working}
use Rattle.mdp_crew.specs.Orders.{orders_of}
use Rattle.mdp_crew.specs.Shares.{WorkerShare}
use Rattle.mdp_crew.specs.Work.{HasAnswered, last_answer, reports_by}

-- ---- batches one after another

pub sent-append : (xs ys : List (List Move)) → moves_sent (xs ++ ys) ≡ moves_sent xs ++ moves_sent ys
sent-append xs ys = flat_map-append (λ (moves : List Move). moves) xs ys

full_parts : (listed : List Instrument) (xs ys : List Move) → AreFull listed (xs ++ ys) → AreFull listed xs × AreFull listed ys
full_parts listed [] ys full = (tt, full)
full_parts listed (passed packet ∷ xs) ys full = full_parts listed xs ys full
full_parts listed (jumped old new snapshots ∷ xs) ys full = let rest = full_parts listed xs ys full.1 in ((full.0, rest.0), rest.1)

full_batches : (listed : List Instrument) (xs ys : List (List Move)) → AreFull listed (moves_sent (xs ++ ys)) → AreFull listed (moves_sent xs) × AreFull listed (moves_sent ys)
full_batches listed xs ys full = full_parts listed (moves_sent xs) (moves_sent ys) (subst (AreFull listed) (sent-append xs ys) full)

reports-append : (share : WorkerShare) (before : List Move) (xs ys : List (List Move)) → reports_by share before (xs ++ ys) ≡ reports_by share before xs ++ reports_by share (before ++ moves_sent xs) ys
reports-append share before [] ys = ap (λ (b : List Move). reports_by share b ys) (sym (append-nil before))
reports-append share before (x ∷ xs) ys =
    ap (λ (l : List (List Report)). map (report_of (is_kept_by share.workers share.number)) (moments_after share.listed before x) ∷ l)
    (reports-append share (before ++ x) xs ys ∙ ap (λ (b : List Move). reports_by share (before ++ x) xs ++ reports_by share b ys) (append_assoc before x (moves_sent xs)))

first_reports : (share : WorkerShare) (before : List Move) (xs ys : List (List Move)) → take (length xs) (reports_by share before (xs ++ ys)) ≡ reports_by share before xs
first_reports share before [] ys = refl
first_reports share before (x ∷ xs) ys = ap (λ (l : List (List Report)). map (report_of (is_kept_by share.workers share.number)) (moments_after share.listed before x) ∷ l) (first_reports share (before ++ x) xs ys)

module _ {A : Type 0} where
  -- ---- orders taken one after another

  abbrev pub and_took : LaneReceiverView (Order A) → List (Order A) → LaneReceiverView (Order A)
  and_took orders more = record orders { taken = orders.taken ++ more }

  took_twice : (old now new : LaneReceiverView (Order A)) (xs ys : List (Order A)) → now ≡ and_took old xs → new ≡ and_took now ys → new ≡ and_took old (xs ++ ys)
  took_twice old now new xs ys first later = later ∙ ap (λ (s : LaneReceiverView (Order A)). and_took s ys) first ∙ (λ i. record old { taken = append_assoc old.taken xs ys i })

  pub drained_more : (old now new : LaneReceiverView (Order A)) (xs : List (List Move)) (x : List Move) (order : Order A) → now ≡ and_took old (map Take xs) → new ≡ and_took now (order ∷ []) → order ≡ Take x → new ≡ and_took old (map Take (xs ++ x ∷ []))
  drained_more old now new xs x order first later is =
      took_twice old now new (map Take xs) (order ∷ []) first later
      ∙ ap (λ (s : Order A). and_took old (map Take xs ++ s ∷ [])) is
      ∙ ap (and_took old) (sym (map-append Take xs (x ∷ [])))

  pub drained_end : (old now new : LaneReceiverView (Order A)) (xs : List (List Move)) (order : Order A) → now ≡ and_took old (map Take xs) → new ≡ and_took now (order ∷ []) → order ≡ Done → HasDrained old new
  drained_end old now new xs order first later is =
      record { batches = xs; took = took_twice old now new (map Take xs) (order ∷ []) first later ∙ ap (λ (s : Order A). and_took old (map Take xs ++ s ∷ [])) is }

  pub ends_failed : (old mid new : WorkerEnds A) (now : LaneReceiverView (Order A)) (x : List Move) (order : Order A) → now ≡ and_took old.orders (order ∷ []) → order ≡ Take x → mid ≡ record old { orders = now }
      → HasDrained mid.orders new.orders → new.answers ≡ record mid.answers { sent = mid.answers.sent ++ last_answer false ∷ [] } → HasEnded old new
  ends_failed old mid new now x order first is kept left sent =
      let drained : HasDrained now new.orders = subst (λ (e : WorkerEnds A). HasDrained e.orders new.orders) kept left in
      record {
        batches = x ∷ drained.batches;
        done = false;
        took = took_twice old.orders now new.orders (order ∷ []) (orders_of drained.batches) first drained.took ∙ ap (λ (s : Order A). and_took old.orders (s ∷ orders_of drained.batches)) is;
        sent = sent ∙ ap (λ (e : WorkerEnds A). record e.answers { sent = e.answers.sent ++ last_answer false ∷ [] }) kept;
        all = λ finished. absurd cc;
      }

  pub ends_done : (old new : WorkerEnds A) (order : Order A) → new.orders ≡ and_took old.orders (order ∷ []) → order ≡ Done
      → new.answers ≡ record old.answers { sent = old.answers.sent ++ last_answer true ∷ [] } → HasEnded old new
  ends_done old new order first is sent = record { batches = []; done = true; took = first ∙ ap (λ (s : Order A). and_took old.orders (s ∷ [])) is; sent = sent; all = λ finished. refl }

  -- ---- a worker at work

  pub working_first : (share : WorkerShare) (first : WorkerEnds A) (now : Working A) → first.orders.taken ≡ [] → first.answers.sent ≡ [] → now.ends ≡ first
      → now.worker ≡ record { slots = own_slots (is_kept_by share.workers share.number) 0 share.listed; desks = map desk_at_start (own_part (is_kept_by share.workers share.number) 0 share.listed) } → IsWorking share first now
  working_first share first now none nothing same is = record {
    batches = [];
    took = ap (λ (e : WorkerEnds A). e.orders) same ∙ λ i. record first.orders { taken = none i };
    answers_lane = ap (λ (e : WorkerEnds A). e.answers.lane) same;
    slots = ap (λ (v : View). v.slots) is;
    sent = λ full. ap (λ (e : WorkerEnds A). e.answers.sent) same ∙ nothing;
    stands = λ full. shows_nothing (own_part (is_kept_by share.workers share.number) 0 share.listed) now.worker.desks (ap (λ (v : View). v.desks) is);
  }

  pub working_on : (share : WorkerShare) (first : WorkerEnds A) (now new : Working A) → HasTold now new → IsWorking share first now → IsWorking share first new
  working_on share first now new told so_far = record {
    batches = xs ++ x ∷ [];
    took = told.took ∙ ap (λ (s : LaneReceiverView (Order A)). and_took s (Take x ∷ [])) so_far.took ∙ (λ i. record first.orders { taken = sym (map-append Take xs (x ∷ [])) i });
    answers_lane = ap (λ (s : LaneSenderView (Answer A)). s.lane) told.sent ∙ so_far.answers_lane;
    slots = ap (λ (v : View). v.slots) told.worker_is ∙ so_far.slots;
    sent = λ full.
        let parts = full_batches listed xs (x ∷ []) full in
        let here = law parts in
        ap (λ (s : LaneSenderView (Answer A)). s.sent) told.sent
        ∙ ap (λ (l : List (Answer A)). l ++ Tells (reports_of_moves now.worker.slots x now.worker.desks) ∷ []) (so_far.sent parts.0)
        ∙ ap (λ (r : List Report). map Tells (reports_by share [] xs) ++ Tells r ∷ []) (ap (λ (l : List ℕ). reports_of_moves l x now.worker.desks) so_far.slots ∙ here.0)
        ∙ sym (map-append Tells (reports_by share [] xs) (map (report_of mine) (moments_after listed (moves_sent xs) x) ∷ []))
        ∙ ap (map Tells) (sym (reports-append share [] xs (x ∷ [])));
    stands = λ full.
        let parts = full_batches listed xs (x ∷ []) full in
        let here = law parts in
        subst (λ (b : List Move). StandBehind own (own_moves mine b) new.worker.desks) (moved)
        (subst (StandBehind own (own_moves mine (moves_sent xs ++ x))) (sym (ap (λ (v : View). v.desks) told.worker_is ∙ ap (λ (l : List ℕ). desks_after_moves l x now.worker.desks) so_far.slots)) here.1);
  }
    where
      xs : List (List Move)
      xs = so_far.batches

      x : List Move
      x = told.moves

      listed : List Instrument
      listed = share.listed

      mine : ℕ → Bool
      mine = is_kept_by share.workers share.number

      own : List Instrument
      own = own_part (is_kept_by share.workers share.number) 0 share.listed

      moved : moves_sent so_far.batches ++ told.moves ≡ moves_sent (so_far.batches ++ told.moves ∷ [])
      moved = ap (λ (l : List Move). moves_sent so_far.batches ++ l) (sym (append-nil told.moves)) ∙ sym (sent-append so_far.batches (told.moves ∷ []))

      law : AreFull share.listed (moves_sent so_far.batches) × AreFull share.listed (moves_sent (told.moves ∷ []))
          → (reports_of_moves (own_slots (is_kept_by share.workers share.number) 0 share.listed) told.moves now.worker.desks ≡ map (report_of (is_kept_by share.workers share.number)) (moments_after share.listed (moves_sent so_far.batches) told.moves))
          × StandBehind (own_part (is_kept_by share.workers share.number) 0 share.listed) (own_moves (is_kept_by share.workers share.number) (moves_sent so_far.batches ++ told.moves)) (desks_after_moves (own_slots (is_kept_by share.workers share.number) 0 share.listed) told.moves now.worker.desks)
      law parts = law_of_reports (is_kept_by share.workers share.number) share.listed (moves_sent so_far.batches) told.moves now.worker.desks (subst (AreFull share.listed) (append-nil told.moves) parts.1) (so_far.stands parts.0)

  pub has_answered : (share : WorkerShare) (first : WorkerEnds A) (now : Working A) (last : WorkerEnds A) → HasEnded now.ends last → IsWorking share first now → HasAnswered share first last
  has_answered share first now last ended so_far =
      let xs = so_far.batches in
      let all : map Take xs ++ orders_of ended.batches ≡ orders_of {A = A} (xs ++ ended.batches) =
      sym (append_assoc (map Take xs) (map Take ended.batches) (Done ∷ [])) ∙ ap (λ (l : List (Order A)). l ++ Done ∷ []) (sym (map-append Take xs ended.batches)) in
      record {
        orders_lane = ap (λ (s : LaneReceiverView (Order A)). s.lane) ended.took ∙ ap (λ (s : LaneReceiverView (Order A)). s.lane) so_far.took;
        answers_lane = ap (λ (s : LaneSenderView (Answer A)). s.lane) ended.sent ∙ so_far.answers_lane;
        batches = xs ++ ended.batches;
        good = length xs;
        done = ended.done;
        taken = ap (λ (s : LaneReceiverView (Order A)). s.taken) ended.took ∙ ap (λ (s : LaneReceiverView (Order A)). s.taken ++ orders_of ended.batches) so_far.took ∙ all;
        sent = λ full.
            let parts = full_batches share.listed xs ended.batches full in
            ap (λ (s : LaneSenderView (Answer A)). s.sent) ended.sent
            ∙ ap (λ (l : List (Answer A)). l ++ last_answer ended.done ∷ []) (so_far.sent parts.0)
            ∙ ap (λ (l : List (List Report)). map Tells l ++ last_answer ended.done ∷ []) (sym (first_reports share [] xs ended.batches));
        all = λ finished. let none = ap length (ended.all finished) in let long = length-append xs ended.batches in omega (arith, none, long);
      }

  -- it never began
  pub has_failed : (share : WorkerShare) (first last : WorkerEnds A) → first.orders.taken ≡ [] → first.answers.sent ≡ []
      → HasDrained first.orders last.orders → last.answers ≡ record first.answers { sent = first.answers.sent ++ last_answer false ∷ [] } → HasAnswered share first last
  has_failed share first last none nothing drained sent = record {
    orders_lane = ap (λ (s : LaneReceiverView (Order A)). s.lane) drained.took;
    answers_lane = ap (λ (s : LaneSenderView (Answer A)). s.lane) sent;
    batches = drained.batches;
    good = 0;
    done = false;
    taken = ap (λ (s : LaneReceiverView (Order A)). s.taken) drained.took ∙ ap (λ (l : List (Order A)). l ++ orders_of drained.batches) none;
    sent = λ full. ap (λ (s : LaneSenderView (Answer A)). s.sent) sent ∙ ap (λ (l : List (Answer A)). l ++ last_answer false ∷ []) nothing;
    all = λ finished. absurd cc;
  }
