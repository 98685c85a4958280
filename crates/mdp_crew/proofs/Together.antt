-- Where all threads of a crew are joined, what went out is what the moves of the events show that were taken, or a beginning of it.
use Rattle.std.proofs.Common.{◌≡◌, ◌≢◌, ◌≤◌, ℕ, List, [], ◌++◌, sym, ap, ◌∙◌, subst}
use Rattle.std.specs.Prelude.{Option, Result, Ok, Err, IfOk, OnOk}
use Rattle.std.specs.List.{AllPairs, AllZip}
use Rattle.std.proofs.lemmas.List.{append-nil}
use Rattle.std.proofs.lemmas.List.Concat.{flat_map-append}
use Rattle.mdp_lanes.specs.Boards.{Published}
use Rattle.mdp_lanes.specs.Queues.{IntakeReceiverView, LaneSenderView}
use Rattle.mdp_arbiter.specs.Accepted.{Event}
use Rattle.mdp_templates.specs.Instrument.{ids_of}
use Rattle.mdp_arbiter.specs.Channel.{ListedChannel}
use Rattle.mdp_arbiter.specs.Machine.{Move, moves_of, stands_after}
use Rattle.mdp_desks.specs.Moments.{Moment, moments, moments_after, shown_lines}
use Rattle.mdp_desks.proofs.Moments.{moments-append}
use Rattle.mdp_reports.specs.RoundLaws.{Ascend}
use Rattle.mdp_reports.proofs.Ascending.{law_of_ascent}
use Rattle.mdp_crew.specs.Sent.{moves_sent}
use Rattle.mdp_reports.specs.BoardSteps.{board_steps}
use Rattle.mdp_reports.specs.Taking.{View}
use Rattle.mdp_reports.proofs.Behind.{behind_nothing}
use Rattle.mdp_reports.proofs.Full.{law_of_full_jumps}
use Rattle.mdp_crew.specs.declared.arbiter.ArbiterOutcome.{ArbiterOutcome}
use Rattle.mdp_arbiter.specs.declared.arbiter.Standing.{Standing}
use Rattle.mdp_crew.specs.declared.batch.Batch.{Batch}
use Rattle.mdp_crew.specs.declared.order.Order.{Order}
use Rattle.mdp_crew.specs.declared.fault.RunFault.{RunFault}
use Rattle.mdp_crew.specs.Arbitrating.{HasSent}
use Rattle.mdp_crew.specs.Batches.{events_taken}
use Rattle.mdp_crew.specs.Collecting.{EndsCollecting, HasAll, HasSome, Showing, text_of_batches}
use Rattle.mdp_crew.specs.Crew.{IsCrew, IsSettled}
use Rattle.mdp_crew.specs.Running.{HasShown, WentOut, outcome_of}
use Rattle.mdp_crew.specs.Outlets.{out}
use Rattle.mdp_crew.specs.Shares.{share_of}
use Rattle.mdp_crew.specs.Publishing.{published_on}
use Rattle.mdp_crew.proofs.Boards.{published_nothing}
use Rattle.mdp_crew.proofs.Leaving.{all_out, begun, out_more, out_of_rounds}
use Rattle.mdp_crew.proofs.Meeting.{ascend_front, steps_are_shown, text_is_shown}
use Rattle.mdp_crew.proofs.Settling.{AllSettled, all_published, all_written, rounds_of, some_rounds}

-- nothing went out
pub shown_nothing : (channel : ListedChannel) (events : List Event) (start : List ℕ) (board : Option Published) (fault : RunFault) → HasShown channel events (out start board) (out start board) (Err fault)
shown_nothing channel events start board fault = record {
  all = tt;
  some = record {
    sent = [];
    steps = [];
    taken_is = sym (append-nil start);
    board_is = published_nothing board;
    behind = behind_nothing (moments channel.listed (moves_of channel events)) [];
  };
}

module _ {A : Type 0} where
  sent_ascend : (channel : ListedChannel) (ss : List (LaneSenderView (Order A))) (receiver : IntakeReceiverView (Batch A)) (outcome : ArbiterOutcome A) → (sent : HasSent channel receiver ss outcome) → Ascend channel.listed 1 (moves_sent sent.batches)
  sent_ascend channel ss receiver outcome sent =
      ascend_front channel.listed 1 (moves_sent sent.batches) sent.sent.rest (subst (Ascend channel.listed 1) sent.sent.front (law_of_ascent channel (events_taken outcome.receiver.taken)))

  all_settled : (channel : ListedChannel) (n : ℕ) (ss : List (LaneSenderView (Order A))) (old new : Showing A) (receiver : IntakeReceiverView (Batch A)) (outcome : ArbiterOutcome A)
      → 1 ≤ n → IsCrew (share_of channel.listed n 0) n ss old.posts → (sent : HasSent channel receiver ss outcome) → AllZip IsSettled outcome.senders.items new.posts → AllSettled channel.listed n sent.batches ss old new
  all_settled channel n ss old new receiver outcome some crew sent settled_are = record {
    many = crew.long;
    some = some;
    fresh = crew.fresh;
    numbered = crew.numbered;
    full = law_of_full_jumps channel.listed 1 (moves_sent sent.batches) (sent_ascend channel ss receiver outcome sent);
    settled_are = subst (λ (l : List (LaneSenderView (Order A))). AllZip IsSettled l new.posts) sent.lanes settled_are;
  }

  pub met : (channel : ListedChannel) (n written : ℕ) (ss : List (LaneSenderView (Order A))) (old new : Showing A) (receiver : IntakeReceiverView (Batch A)) (outcome : ArbiterOutcome A) (collected : Result (Unit {0}) RunFault)
      → 1 ≤ n → AllPairs (λ a b. a ≢ b) (ids_of channel.listed) → IsCrew (share_of channel.listed n 0) n ss old.posts → old.collector ≡ begun channel.listed → HasSent channel receiver ss outcome → EndsCollecting old new collected
      → AllZip IsSettled outcome.senders.items new.posts → HasShown channel (events_taken outcome.receiver.taken) (out old.taken old.board) (out new.taken new.board) (outcome_of written collected outcome.standing)
  met channel n written ss old new receiver outcome collected some differ crew collector_is sent ends settled_are =
      by_both collected outcome.standing ends sent.sent.whole sent.stands
    where
      moves : List Move
      moves = moves_sent sent.batches

      ascend : Ascend channel.listed 1 moves
      ascend = sent_ascend channel ss receiver outcome sent

      is : AllSettled channel.listed n sent.batches ss old new
      is = all_settled channel n ss old new receiver outcome some crew sent settled_are

      all_text : HasAll old new → new.taken ≡ old.taken ++ shown_lines channel.listed moves
      all_text all =
          all_written channel.listed n sent.batches ss old new is all
          ∙ ap (λ (v : View). old.taken ++ text_of_batches v (rounds_of channel.listed n [] sent.batches)) collector_is
          ∙ ap (λ (t : List ℕ). old.taken ++ t) (text_is_shown channel.listed n sent.batches some differ ascend)

      all_steps : HasAll old new → new.board ≡ published_on old.board (board_steps channel.listed moves)
      all_steps all =
          all_published channel.listed n sent.batches ss old new is all
          ∙ ap (published_on old.board) (steps_are_shown channel.listed n sent.batches some)

      -- what went out of the moves that were sent, of all moves of the events
      of_all : WentOut (moments channel.listed moves) [] (out old.taken old.board) (out new.taken new.board) → WentOut (moments channel.listed (moves_of channel (events_taken outcome.receiver.taken))) [] (out old.taken old.board) (out new.taken new.board)
      of_all went =
          subst (λ (ms : List Moment). WentOut ms [] (out old.taken old.board) (out new.taken new.board)) (sym (ap (moments channel.listed) sent.sent.front ∙ moments-append channel.listed [] moves sent.sent.rest))
          (out_more (moments channel.listed moves) (moments_after channel.listed moves sent.sent.rest) [] (out old.taken old.board) (out new.taken new.board) went)

      -- the collector ended early
      of_first : HasSome old new → WentOut (moments channel.listed moves) [] (out old.taken old.board) (out new.taken new.board)
      of_first has =
          let at = some_rounds channel.listed n sent.batches ss old new is has in
          let first = moves_sent at.0 in
          let all : moves ≡ first ++ moves_sent at.1 = ap moves_sent at.2 ∙ flat_map-append (λ (l : List Move). l) at.0 at.1 in
          let went = out_of_rounds channel.listed n at.0 has.rounds old new some differ (ascend_front channel.listed 1 first (moves_sent at.1) (subst (Ascend channel.listed 1) all ascend)) collector_is at.3 has.out in
          subst (λ (ms : List Moment). WentOut ms [] (out old.taken old.board) (out new.taken new.board)) (sym (ap (moments channel.listed) all ∙ moments-append channel.listed [] first (moves_sent at.1)))
          (out_more (moments channel.listed first) (moments_after channel.listed first (moves_sent at.1)) [] (out old.taken old.board) (out new.taken new.board) went)

      by_both : {E : Type 0} (collected : Result (Unit {0}) RunFault) (standing : Result Standing E) → EndsCollecting old new collected → OnOk standing (sent.sent.rest ≡ [])
          → IfOk standing (λ (s : Standing). s ≡ stands_after channel (events_taken outcome.receiver.taken))
          → HasShown channel (events_taken outcome.receiver.taken) (out old.taken old.board) (out new.taken new.board) (outcome_of written collected standing)
      by_both (Ok done) (Ok standing) e whole stands =
          let same : moves ≡ moves_of channel (events_taken outcome.receiver.taken) = sym (append-nil moves) ∙ ap (λ (l : List Move). moves ++ l) (sym whole) ∙ sym sent.sent.front in
          record {
            all = record {
              shown = all_text e ∙ ap (λ (l : List Move). old.taken ++ shown_lines channel.listed l) same;
              published = all_steps e ∙ ap (λ (l : List Move). published_on old.board (board_steps channel.listed l)) same;
              standing_is = stands;
            };
            some = tt;
          }
      by_both (Ok done) (Err memory) e whole stands = record { all = tt; some = of_all (all_out (moments channel.listed moves) old.taken new.taken old.board new.board (all_text e) (all_steps e)) }
      by_both (Err fault) standing e whole stands = record { all = tt; some = of_all (of_first e) }
