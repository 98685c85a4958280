-- What of the first batches' rounds went out before an early end, moment by moment.
use Rattle.std.proofs.Common.{◌≡◌, ◌≢◌, ◌≤◌, ℕ, List, [], ◌∷◌, ◌++◌, map, refl, sym, ap, ◌∙◌, subst}
use Rattle.std.specs.Prelude.{Option}
use Rattle.std.specs.List.{AllPairs}
use Rattle.std.proofs.lemmas.List.{append-nil, append_cancel_left}
use Rattle.std.proofs.lemmas.List.Concat.{flat_map-append}
use Rattle.mdp_templates.specs.declared.instrument.Instrument.{Instrument}
use Rattle.mdp_lanes.specs.Boards.{Published}
use Rattle.mdp_templates.specs.Instrument.{ids_of}
use Rattle.mdp_arbiter.specs.Machine.{Move}
use Rattle.mdp_desks.specs.Moments.{Moment, moment_text, moments, moments_after, text_of_moments}
use Rattle.mdp_desks.specs.Reports.{Report}
use Rattle.mdp_desks.proofs.Moments.{moments-append}
use Rattle.mdp_reports.specs.RoundLaws.{Ascend}
use Rattle.mdp_reports.specs.Rounds.{batch_of, kept_at_start}
use Rattle.mdp_crew.specs.Sent.{moves_sent}
use Rattle.mdp_reports.specs.Behind.{IsBehind}
use Rattle.mdp_reports.specs.BoardSteps.{step_of_moment}
use Rattle.mdp_reports.specs.Taking.{View}
use Rattle.mdp_reports.proofs.Behind.{behind_in_steps, behind_in_text, behind_more}
use Rattle.mdp_crew.specs.Collecting.{IsCut, Showing, steps_of_batches, text_of_batches}
use Rattle.mdp_crew.specs.Collecting.IsCut.{among_steps, in_last}
use Rattle.mdp_crew.specs.Outlets.{Outlet, out}
use Rattle.mdp_crew.specs.Publishing.{published_on}
use Rattle.mdp_crew.specs.Running.{WentOut}
use Rattle.mdp_crew.proofs.Meeting.{ascend_front, steps_are_shown, text_is_shown}
use Rattle.mdp_crew.proofs.Settling.{rounds_of}

-- a collector before any round
abbrev pub begun : List Instrument → View
begun listed = record { listed = listed; kept = kept_at_start listed }

-- where all went out
pub all_out : (ms : List Moment) (start taken : List ℕ) (board board' : Option Published) → taken ≡ start ++ text_of_moments ms → board' ≡ published_on board (map step_of_moment ms) → WentOut ms [] (out start board) (out taken board')
all_out ms start taken board board' text steps = record {
  sent = text_of_moments ms;
  steps = map step_of_moment ms;
  taken_is = text;
  board_is = steps;
  behind = behind_in_steps ms (map step_of_moment ms) [] (sym (append-nil (map step_of_moment ms)));
}

-- where more moments come
pub out_more : (ms more : List Moment) (end : List ℕ) (old new : Outlet) → WentOut ms [] old new → WentOut (ms ++ more) end old new
out_more ms more end old new went = record {
  sent = went.sent;
  steps = went.steps;
  taken_is = went.taken_is;
  board_is = went.board_is;
  behind = behind_more ms more end went.sent went.steps went.behind;
}

-- the last of these rounds is of the last of these batches
last_round : (listed : List Instrument) (n : ℕ) (before : List Move) (xs : List (List Move)) (done : List (List (List Report))) (round : List (List Report)) → rounds_of listed n before xs ≡ done ++ round ∷ []
    → (first : List (List Move)) × (last : List Move) × (xs ≡ first ++ last ∷ []) × (done ≡ rounds_of listed n before first)
last_round listed n before [] [] round is = absurd cc
last_round listed n before [] (d ∷ done) round is = absurd cc
last_round listed n before (x ∷ []) [] round is = ([], x, refl, refl)
last_round listed n before (x ∷ y ∷ xs) [] round is = absurd cc
last_round listed n before (x ∷ xs) (d ∷ done) round is =
    let here : batch_of n (moments_after listed before x) ≡ d = cc in
    let rest : rounds_of listed n (before ++ x) xs ≡ done ++ round ∷ [] = cc in
    let at = last_round listed n (before ++ x) xs done round rest in (
      x ∷ at.0,
      at.1,
      ap (λ (l : List (List Move)). x ∷ l) at.2,
      ap (λ (r : List (List Report)). r ∷ done) (sym here) ∙ ap (λ (l : List (List (List Report))). batch_of n (moments_after listed before x) ∷ l) at.3,
    )

sent_push : (first : List (List Move)) (last : List Move) → moves_sent (first ++ last ∷ []) ≡ moves_sent first ++ last
sent_push first last =
    flat_map-append (λ (moves : List Move). moves) first (last ∷ [])
    ∙ ap (λ (l : List Move). moves_sent first ++ l) (append-nil last)

-- the moments of the first batches, and those of the last one
moments_push : (listed : List Instrument) (first : List (List Move)) (last : List Move) → moments listed (moves_sent (first ++ last ∷ [])) ≡ moments listed (moves_sent first) ++ moments_after listed (moves_sent first) last
moments_push listed first last = ap (moments listed) (sent_push first last) ∙ moments-append listed [] (moves_sent first) last

-- the text of all but the last batch, and of the last one's a beginning
out_in_last : (listed : List Instrument) (n : ℕ) (first : List (List Move)) (last : List Move) (sent rest start taken : List ℕ) (board board' : Option Published)
    → 1 ≤ n → AllPairs (λ a b. a ≢ b) (ids_of listed) → Ascend listed 1 (moves_sent (first ++ last ∷ []))
    → text_of_batches (begun listed) (rounds_of listed n [] (first ++ last ∷ [])) ≡ text_of_batches (begun listed) (rounds_of listed n [] first) ++ (sent ++ rest)
    → taken ≡ start ++ (text_of_batches (begun listed) (rounds_of listed n [] first) ++ sent) → board' ≡ published_on board (map step_of_moment (moments listed (moves_sent first)))
    → WentOut (moments listed (moves_sent (first ++ last ∷ []))) [] (out start board) (out taken board')
out_in_last listed n first last sent rest start taken board board' some differ ascend whole text steps =
    let ms = moments listed (moves_sent first) in
    let next = moments_after listed (moves_sent first) last in
    let ahead : Ascend listed 1 (moves_sent first) = ascend_front listed 1 (moves_sent first) last (subst (Ascend listed 1) (sent_push first last) ascend) in
    let front : text_of_batches (begun listed) (rounds_of listed n [] first) ≡ text_of_moments ms = text_is_shown listed n first some differ ahead in
    let both : text_of_moments ms ++ text_of_moments next ≡ text_of_moments ms ++ (sent ++ rest) =
    sym (flat_map-append moment_text ms next)
    ∙ ap text_of_moments (sym (moments_push listed first last))
    ∙ sym (text_is_shown listed n (first ++ last ∷ []) some differ ascend)
    ∙ whole
    ∙ ap (λ (t : List ℕ). t ++ (sent ++ rest)) front in
    record {
      sent = text_of_moments ms ++ sent;
      steps = map step_of_moment ms;
      taken_is = text ∙ ap (λ (t : List ℕ). start ++ (t ++ sent)) front;
      board_is = steps;
      behind =
          subst (λ (all : List Moment). IsBehind all [] (text_of_moments ms ++ sent) (map step_of_moment ms)) (sym (moments_push listed first last))
          (behind_in_text ms next sent rest (append_cancel_left (text_of_moments ms) (text_of_moments next) (sent ++ rest) both));
    }

-- of the rounds of these batches so much went out
pub out_of_rounds : {A : Type 0} (listed : List Instrument) (n : ℕ) (xs : List (List Move)) (rounds : List (List (List Report))) (old new : Showing A)
    → 1 ≤ n → AllPairs (λ a b. a ≢ b) (ids_of listed) → Ascend listed 1 (moves_sent xs) → old.collector ≡ begun listed → rounds ≡ rounds_of listed n [] xs → IsCut old new rounds
    → WentOut (moments listed (moves_sent xs)) [] (out old.taken old.board) (out new.taken new.board)
out_of_rounds listed n xs rounds old new some differ ascend begins are (among_steps shown hidden all text steps) =
    let ms = moments listed (moves_sent xs) in
    record {
      sent = text_of_moments ms;
      steps = shown;
      taken_is = text ∙ (λ i. old.taken ++ text_of_batches (begins i) (are i)) ∙ ap (λ (t : List ℕ). old.taken ++ t) (text_is_shown listed n xs some differ ascend);
      board_is = steps;
      behind = behind_in_steps ms shown hidden (sym (steps_are_shown listed n xs some) ∙ ap steps_of_batches (sym are) ∙ all);
    }
out_of_rounds listed n xs rounds old new some differ ascend begins are (in_last done round sent rest parts whole text steps) =
    let at = last_round listed n [] xs done round (sym are ∙ parts) in
    let first = at.0 in
    let last = at.1 in
    let of_done : text_of_batches old.collector done ≡ text_of_batches (begun listed) (rounds_of listed n [] first) = λ i. text_of_batches (begins i) (at.3 i) in
    let of_all : text_of_batches old.collector rounds ≡ text_of_batches (begun listed) (rounds_of listed n [] (first ++ last ∷ [])) =
    (λ i. text_of_batches (begins i) (are i)) ∙ ap (λ (l : List (List Move)). text_of_batches (begun listed) (rounds_of listed n [] l)) at.2 in
    subst (λ (l : List (List Move)). WentOut (moments listed (moves_sent l)) [] (out old.taken old.board) (out new.taken new.board)) (sym at.2)
    (out_in_last listed n first last sent rest old.taken new.taken old.board new.board some differ (subst (λ (l : List (List Move)). Ascend listed 1 (moves_sent l)) at.2 ascend)
    (sym of_all ∙ whole ∙ ap (λ (t : List ℕ). t ++ (sent ++ rest)) of_done)
    (text ∙ ap (λ (t : List ℕ). old.taken ++ (t ++ sent)) of_done)
    (steps ∙ ap (λ (l : List (List (List Report))). published_on old.board (steps_of_batches l)) at.3 ∙ ap (published_on old.board) (steps_are_shown listed n first some)))
