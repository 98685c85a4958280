-- What was taken of three readers, with what they did not hand over, is a merge of what their records bring.
use Rattle.std.proofs.Common.{◌≡◌, ℕ, Bool, true, false, cond, List, [], ◌∷◌, ◌++◌, take, refl, sym, ap, subst, ◌∙◌}
use Rattle.std.specs.Prelude.{MatchResult, Option, Result, Ok, Err, IfOk, IfErr, OnOk, ◌==◌, ◌<◌}
use Rattle.std.specs.List.{filter}
use Rattle.std.proofs.lemmas.List.{append-nil, map-append}
use Rattle.std.proofs.lemmas.List.Elements.{filter-append}
use Rattle.mdp_templates.specs.declared.feed.Feed.{Feed}
use Rattle.mdp_templates.specs.declared.feed.Feed.TheVariants as feeds
use Rattle.mdp_templates.specs.Feed.{feed_letter}
use Rattle.mdp_capture.specs.Record.{RecordContent}
use Rattle.mdp_arbiter.specs.Channel.{ListedChannel}
use Rattle.mdp_arbiter.specs.Accepted.{Event}
use Rattle.mdp_engine.proofs.Owing.{law_of_honest_moments}
use Rattle.mdp_desks.specs.Moments.{moments, text_of_moments}
use Rattle.mdp_lanes.specs.Boards.{Published}
use Rattle.mdp_lanes.specs.declared.step.Step.{Step}
use Rattle.mdp_reports.specs.Behind.{IsBehind}
use Rattle.mdp_reports.specs.BoardSteps.{board_steps}
use Rattle.mdp_reports.proofs.Behind.{behind_nothing, law_of_early_ends}
use Rattle.mdp_lanes.specs.Items.{is_same, items_of}
use Rattle.mdp_lanes.specs.Queues.{IntakeReceiverView, IntakeSenderView, IsFreshSenderOf}
use Rattle.mdp_arbiter.specs.declared.arbiter.Standing.{Standing}
use Rattle.mdp_crew.specs.declared.batch.Batch.{Batch}
use Rattle.mdp_crew.specs.declared.fault.RunFault.{RunFault}
use Rattle.mdp_crew.specs.Batches.{HasTakenMore, all_events, batch_events, events_taken}
use Rattle.mdp_crew.specs.Outlets.{out}
use Rattle.mdp_crew.specs.Publishing.{published_on}
use Rattle.mdp_crew.specs.Running.{HasShown, HasShownAll, WentOut}
use Rattle.mdp_crew.proofs.Boards.{published_nothing}
use Rattle.mdp_crew.specs.Faults.{FailsBy}
use Rattle.mdp_pipeline.specs.declared.feed_reader.ReaderOutcome.{ReaderOutcome}
use Rattle.mdp_crew.specs.declared.fault.RunFault.{RunFault}
use Rattle.mdp_pipeline.specs.declared.summary.Summary.{Summary}
use Rattle.mdp_pipeline.specs.Taken.{HasReadFor, tagged_as, tagged_taken}
use Rattle.mdp_pipeline.specs.Merge.{FeedRecords, arrivals}
use Rattle.mdp_pipeline.specs.Merging.{Tagged, IsMerge, events_from, events_in, is_from}
use Rattle.mdp_pipeline.specs.Output.{BeginsToPublish, Prints, SaysAll, SaysSome, end_lines, end_text, shown_output, standing_in}
use Rattle.mdp_pipeline.specs.Reading.{Readings, events_of, refusals_text}
use Rattle.mdp_pipeline.specs.Readers.{HasRead}
use Rattle.mdp_pipeline.specs.RefusalTexts.{RefusalTexts, all_refused}
use Rattle.mdp_pipeline.specs.Running.{EndsAs, joined_texts}
use Rattle.mdp_pipeline.proofs.Beginnings.{readings_exist}
use Rattle.mdp_pipeline.proofs.OnBoards.{publishes}
use Rattle.mdp_pipeline.proofs.Ending.{ends_behind, out_early, out_in_end, told_as}
use Rattle.mdp_arbiter.specs.Machine.{moves_of, stands_after}

-- ---- a reader that was begun

-- what it has come to, in its thread or here
module _ {A X : Type 0} (feed_of : X → Feed) (records_of : X → List RecordContent) (before_of : X → IntakeSenderView (Batch A)) where
  pub read_there : (begun : Result X (ReaderOutcome A)) (feed : Feed) (records : List RecordContent) (before : IntakeSenderView (Batch A)) (outcome : ReaderOutcome A)
      → MatchResult begun (λ h. (feed_of h ≡ feed) × (records_of h ≡ records) × (before_of h ≡ before)) (λ o. HasRead feed records before o)
      → MatchResult begun (λ h. HasRead (feed_of h) (records_of h) (before_of h) outcome) (λ o. outcome ≡ o) → HasRead feed records before outcome
  read_there (Ok h) feed records before outcome is kept =
      subst (λ (p : Feed × List RecordContent × IntakeSenderView (Batch A)). HasRead p.0 p.1 p.2 outcome) (λ i. (is.0 i, is.1 i, is.2 i)) kept
  read_there (Err o) feed records before outcome is same = subst (HasRead feed records before) (sym same) is

-- ---- one feed's events among those with feeds

untagged : (feed : Feed) (es : List Event) → events_in (tagged_as feed es) ≡ es
untagged feed [] = refl
untagged feed (e ∷ es) = ap (λ (t : List Event). e ∷ t) (untagged feed es)

from_all : (feed from : Feed) (es : List Event) (b : Bool) → (feed_letter from == feed_letter feed) ≡ b → events_from feed (tagged_as from es) ≡ cond b es []
from_all feed from [] true is = refl
from_all feed from [] false is = refl
from_all feed from (e ∷ es) true is =
    let t : Tagged = record { feed = from; event = e } in
    let rest : List Tagged = filter (is_from feed) (tagged_as from es) in
    ap (λ (b : Bool). events_in (cond b (t ∷ rest) rest)) is ∙ ap (λ (x : List Event). e ∷ x) (from_all feed from es true is)
from_all feed from (e ∷ es) false is =
    let t : Tagged = record { feed = from; event = e } in
    let rest : List Tagged = filter (is_from feed) (tagged_as from es) in
    ap (λ (b : Bool). events_in (cond b (t ∷ rest) rest)) is ∙ from_all feed from es false is

from-append : (feed : Feed) (xs ys : List Tagged) → events_from feed (xs ++ ys) ≡ events_from feed xs ++ events_from feed ys
from-append feed xs ys = ap events_in (filter-append (is_from feed) xs ys) ∙ map-append (λ (t : Tagged). t.event) (filter (is_from feed) xs) (filter (is_from feed) ys)

same_letter : (feed from : Feed) → (feed_letter from == feed_letter feed) ≡ is_same feed from
same_letter feeds.A feeds.A = refl
same_letter feeds.A feeds.B = refl
same_letter feeds.A feeds.S = refl
same_letter feeds.B feeds.A = refl
same_letter feeds.B feeds.B = refl
same_letter feeds.B feeds.S = refl
same_letter feeds.S feeds.A = refl
same_letter feeds.S feeds.B = refl
same_letter feeds.S feeds.S = refl

-- ---- events that were not handed over

abbrev rests : List Event → List Event → List Event → List Tagged
rests a b s = tagged_as feeds.A a ++ (tagged_as feeds.B b ++ tagged_as feeds.S s)

rests_in : (a b s : List Event) → events_in (rests a b s) ≡ a ++ (b ++ s)
rests_in a b s =
    map-append (λ (t : Tagged). t.event) (tagged_as feeds.A a) (tagged_as feeds.B b ++ tagged_as feeds.S s)
    ∙ ap (λ (t : List Event). t ++ events_in (tagged_as feeds.B b ++ tagged_as feeds.S s)) (untagged feeds.A a)
    ∙ ap (λ (t : List Event). a ++ t)
    (map-append (λ (t : Tagged). t.event) (tagged_as feeds.B b) (tagged_as feeds.S s)
    ∙ ap (λ (t : List Event). t ++ events_in (tagged_as feeds.S s)) (untagged feeds.B b)
    ∙ ap (λ (t : List Event). b ++ t) (untagged feeds.S s))

rests_from : (feed : Feed) (a b s : List Event) → events_from feed (rests a b s) ≡ events_from feed (tagged_as feeds.A a) ++ (events_from feed (tagged_as feeds.B b) ++ events_from feed (tagged_as feeds.S s))
rests_from feed a b s =
    from-append feed (tagged_as feeds.A a) (tagged_as feeds.B b ++ tagged_as feeds.S s)
    ∙ ap (λ (t : List Event). events_from feed (tagged_as feeds.A a) ++ t) (from-append feed (tagged_as feeds.B b) (tagged_as feeds.S s))

from_a : (a b s : List Event) → events_from feeds.A (rests a b s) ≡ a
from_a a b s =
    rests_from feeds.A a b s
    ∙ ap (λ (t : List Event). t ++ (events_from feeds.A (tagged_as feeds.B b) ++ events_from feeds.A (tagged_as feeds.S s))) (from_all feeds.A feeds.A a true refl)
    ∙ ap (λ (t : List Event). a ++ (t ++ events_from feeds.A (tagged_as feeds.S s))) (from_all feeds.A feeds.B b false refl)
    ∙ ap (λ (t : List Event). a ++ t) (from_all feeds.A feeds.S s false refl)
    ∙ append-nil a

from_b : (a b s : List Event) → events_from feeds.B (rests a b s) ≡ b
from_b a b s =
    rests_from feeds.B a b s
    ∙ ap (λ (t : List Event). t ++ (events_from feeds.B (tagged_as feeds.B b) ++ events_from feeds.B (tagged_as feeds.S s))) (from_all feeds.B feeds.A a false refl)
    ∙ ap (λ (t : List Event). t ++ events_from feeds.B (tagged_as feeds.S s)) (from_all feeds.B feeds.B b true refl)
    ∙ ap (λ (t : List Event). b ++ t) (from_all feeds.B feeds.S s false refl)
    ∙ append-nil b

from_s : (a b s : List Event) → events_from feeds.S (rests a b s) ≡ s
from_s a b s =
    rests_from feeds.S a b s
    ∙ ap (λ (t : List Event). t ++ (events_from feeds.S (tagged_as feeds.B b) ++ events_from feeds.S (tagged_as feeds.S s))) (from_all feeds.S feeds.A a false refl)
    ∙ ap (λ (t : List Event). t ++ events_from feeds.S (tagged_as feeds.S s)) (from_all feeds.S feeds.B b false refl)
    ∙ from_all feeds.S feeds.S s true refl

-- ---- text and board of one list of moments

begins_at : (channel : ListedChannel) (events : List Event) (end sent : List ℕ) (steps : List Step) → IsBehind (moments channel.listed (moves_of channel events)) end sent steps
    → BeginsToPublish channel events end sent steps
begins_at channel events end sent steps behind = record {
  shown = moments channel.listed (moves_of channel events);
  shown_is = refl;
  owed = λ feed honest. law_of_honest_moments channel feed events honest;
  behind = behind;
}

-- whatever the records say, nothing of its text went out, and nothing was published
pub begins_nothing : (channel : ListedChannel) (records : FeedRecords) (start : List ℕ) (board : Option Published)
    → SaysSome channel records (out start board) (out start board)
begins_nothing channel records start board =
    let read_a = readings_exist (arrivals feeds.A records.a) in
    let read_b = readings_exist (arrivals feeds.B records.b) in
    let read_s = readings_exist (arrivals feeds.S records.s) in
    let ea = events_of read_a.0 in
    let eb = events_of read_b.0 in
    let es = events_of read_s.0 in
    let readings : Readings = record { a = read_a.0; b = read_b.0; s = read_s.0 } in
    let merge = rests ea eb es in
    let text = shown_output channel (refusals_text readings) (events_in merge) in (
      [],
      published_nothing board,
      (
        merge,
        record {
          text = text;
          standing = stands_after channel (events_in merge);
          prints = record {
            readings = readings;
            are = record { a_are = read_a.1; b_are = read_b.1; s_are = read_s.1 };
            merges = record { a = from_a ea eb es; b = from_b ea eb es; s = from_s ea eb es };
            standing_is = refl;
            shown = refl;
            owed = λ feed honest. ap (λ (t : List ℕ). t ++ end_lines channel (refusals_text readings) (events_in merge)) (ap text_of_moments (law_of_honest_moments channel feed (events_in merge) honest));
          };
          sent = [];
          rest = text;
          taken_is = sym (append-nil start);
          whole = refl;
        },
        begins_at channel (events_in merge) (end_lines channel (refusals_text readings) (events_in merge)) [] [] (behind_nothing (moments channel.listed (moves_of channel (events_in merge))) (end_lines channel (refusals_text readings) (events_in merge))),
      ),
    )

-- ---- results

pub map_ok : {T E : Type 0} (result : Result T E) (P Q : T → Type 0) → ((x : T) → P x → Q x) → IfOk result P → IfOk result Q
map_ok (Ok x) P Q f is = f x is
map_ok (Err e) P Q f is = tt

pub map_err : {T E : Type 0} (result : Result T E) (P Q : E → Type 0) → ((e : E) → P e → Q e) → IfErr result P → IfErr result Q
map_err (Ok x) P Q f is = tt
map_err (Err e) P Q f is = f e is

-- ---- the refusals of the three feeds

told_all : {a b s x y z : List ℕ} → a ≡ x → b ≡ y → s ≡ z → a ++ (b ++ s) ≡ x ++ (y ++ z)
told_all {a} {b} {s} {x} {y} {z} p q r = ap (λ (t : List ℕ). t ++ (b ++ s)) p ∙ ap (λ (t : List ℕ). x ++ (t ++ s)) q ∙ ap (λ (t : List ℕ). x ++ (y ++ t)) r

-- what holds of each text holds where none is missing
together : {E : Type 0} {ra rb rs all : Type 0} (a b s : Result (List ℕ) E) (x y z : List ℕ) → (ra → rb → rs → all)
    → OnOk a ra → OnOk b rb → OnOk s rs → IfOk a (λ t. t ≡ x) → IfOk b (λ t. t ≡ y) → IfOk s (λ t. t ≡ z)
    → IfOk (all_refused a b s) (λ (texts : RefusalTexts). all × (joined_texts texts ≡ x ++ (y ++ z)))
together (Ok a) (Ok b) (Ok s) x y z join on_a on_b on_s p q r = (join on_a on_b on_s, told_all p q r)
together (Ok a) (Ok b) (Err e) x y z join on_a on_b on_s p q r = tt
together (Ok a) (Err e) s x y z join on_a on_b on_s p q r = tt
together (Err e) b s x y z join on_a on_b on_s p q r = tt

-- ---- what was taken

module _ {A : Type 0} where
  taken_in : (taken : List (Feed × Batch A)) → events_in (tagged_taken taken) ≡ events_taken taken
  taken_in [] = refl
  taken_in (m ∷ taken) =
      map-append (λ (t : Tagged). t.event) (tagged_as m.0 (batch_events m.1)) (tagged_taken taken)
      ∙ ap (λ (t : List Event). t ++ events_in (tagged_taken taken)) (untagged m.0 (batch_events m.1))
      ∙ ap (λ (t : List Event). batch_events m.1 ++ t) (taken_in taken)

  -- the events of one feed are those of its batches
  taken_from : (feed : Feed) (taken : List (Feed × Batch A)) → events_from feed (tagged_taken taken) ≡ all_events (items_of feed taken)
  taken_from feed [] = refl
  taken_from feed (m ∷ taken) =
      from-append feed (tagged_as m.0 (batch_events m.1)) (tagged_taken taken)
      ∙ ap (λ (t : List Event). t ++ events_from feed (tagged_taken taken)) (from_all feed m.0 (batch_events m.1) (is_same feed m.0) (same_letter feed m.0))
      ∙ ap (λ (t : List Event). cond (is_same feed m.0) (batch_events m.1) [] ++ t) (taken_from feed taken)
      ∙ by_feed (is_same feed m.0)
    where
      by_feed : (b : Bool) → cond b (batch_events m.1) [] ++ all_events (items_of feed taken) ≡ all_events (cond b (m.1 ∷ items_of feed taken) (items_of feed taken))
      by_feed true = refl
      by_feed false = refl

  -- ---- the merge

  -- a receiver that has taken more is of the same intake
  pub read_for : (first last : IntakeReceiverView (Batch A)) (feed : Feed) (records : List RecordContent) (before : IntakeSenderView (Batch A)) (outcome : ReaderOutcome A)
      → HasTakenMore first last → IsFreshSenderOf first feed before → HasRead feed records before outcome → HasReadFor last feed records outcome
  read_for first last feed records before outcome more fresh read = (before, (fresh.0 ∙ sym (ap (λ r. r.intake) more.1), fresh.1, fresh.2), read)

  -- what the sender of a feed has put, where all of it was taken
  put_all : (receiver : IntakeReceiverView (Batch A)) (feed : Feed) (records : List RecordContent) (outcome : ReaderOutcome A) → (read : HasReadFor receiver feed records outcome) → items_of feed receiver.taken ≡ outcome.sender.sent
      → items_of feed receiver.taken ≡ read.2.over.batches
  put_all receiver feed records outcome read all =
      all ∙ ap (λ s. s.sent) read.2.over.put ∙ ap (λ (t : List (Batch A)). t ++ read.2.over.batches) read.1.2

  -- the events of a feed, where all of its sender's batches were taken and these are the rest
  all_of : (receiver : IntakeReceiverView (Batch A)) (feed : Feed) (records : List RecordContent) (outcome : ReaderOutcome A) (others : List Tagged) → (read : HasReadFor receiver feed records outcome) → items_of feed receiver.taken ≡ outcome.sender.sent
      → events_from feed others ≡ read.2.over.rest → events_from feed (tagged_taken receiver.taken ++ others) ≡ events_of read.2.over.readings
  all_of receiver feed records outcome others read all rest =
      from-append feed (tagged_taken receiver.taken) others
      ∙ ap (λ (t : List Event). t ++ events_from feed others) (taken_from feed receiver.taken ∙ ap all_events (put_all receiver feed records outcome read all))
      ∙ ap (λ (t : List Event). all_events read.2.over.batches ++ t) rest
      ∙ sym read.2.over.front

  -- what the three readers have read, and what was taken of them
  pub record Joined (receiver : IntakeReceiverView (Batch A)) (records : FeedRecords) (left_a left_b left_s : ReaderOutcome A) : Type 0 where
    pub read_a : HasReadFor receiver feeds.A records.a left_a
    pub read_b : HasReadFor receiver feeds.B records.b left_b
    pub read_s : HasReadFor receiver feeds.S records.s left_s
    pub all_a : items_of feeds.A receiver.taken ≡ left_a.sender.sent
    pub all_b : items_of feeds.B receiver.taken ≡ left_b.sender.sent
    pub all_s : items_of feeds.S receiver.taken ≡ left_s.sender.sent

  abbrev pub readings_in : {receiver : IntakeReceiverView (Batch A)} {records : FeedRecords} {left_a left_b left_s : ReaderOutcome A} → Joined receiver records left_a left_b left_s → Readings
  readings_in joined = record { a = joined.read_a.2.over.readings; b = joined.read_b.2.over.readings; s = joined.read_s.2.over.readings }

  abbrev pub rest_in : {receiver : IntakeReceiverView (Batch A)} {records : FeedRecords} {left_a left_b left_s : ReaderOutcome A} → Joined receiver records left_a left_b left_s → List Event
  rest_in joined = joined.read_a.2.over.rest ++ (joined.read_b.2.over.rest ++ joined.read_s.2.over.rest)

  abbrev merge_in : {receiver : IntakeReceiverView (Batch A)} {records : FeedRecords} {left_a left_b left_s : ReaderOutcome A} → Joined receiver records left_a left_b left_s → List Tagged
  merge_in {receiver} joined = tagged_taken receiver.taken ++ rests joined.read_a.2.over.rest joined.read_b.2.over.rest joined.read_s.2.over.rest

  is_merge : (receiver : IntakeReceiverView (Batch A)) (records : FeedRecords) (left_a left_b left_s : ReaderOutcome A) (joined : Joined receiver records left_a left_b left_s) → IsMerge (readings_in joined) (merge_in joined)
  is_merge receiver records left_a left_b left_s joined =
      let ra = joined.read_a.2.over.rest in
      let rb = joined.read_b.2.over.rest in
      let rs = joined.read_s.2.over.rest in
      record {
        a = all_of receiver feeds.A records.a left_a (rests ra rb rs) joined.read_a joined.all_a (from_a ra rb rs);
        b = all_of receiver feeds.B records.b left_b (rests ra rb rs) joined.read_b joined.all_b (from_b ra rb rs);
        s = all_of receiver feeds.S records.s left_s (rests ra rb rs) joined.read_s joined.all_s (from_s ra rb rs);
      }

  merge_events : (receiver : IntakeReceiverView (Batch A)) (records : FeedRecords) (left_a left_b left_s : ReaderOutcome A) (joined : Joined receiver records left_a left_b left_s) → events_in (merge_in joined) ≡ events_taken receiver.taken ++ rest_in joined
  merge_events receiver records left_a left_b left_s joined =
      let ra = joined.read_a.2.over.rest in
      let rb = joined.read_b.2.over.rest in
      let rs = joined.read_s.2.over.rest in
      map-append (λ (t : Tagged). t.event) (tagged_taken receiver.taken) (rests ra rb rs)
      ∙ ap (λ (t : List Event). t ++ events_in (rests ra rb rs)) (taken_in receiver.taken)
      ∙ ap (λ (t : List Event). events_taken receiver.taken ++ t) (rests_in ra rb rs)

  -- the text of the merge
  prints : (receiver : IntakeReceiverView (Batch A)) (records : FeedRecords) (left_a left_b left_s : ReaderOutcome A) (joined : Joined receiver records left_a left_b left_s) (channel : ListedChannel)
      → Prints channel records (merge_in joined) (shown_output channel (refusals_text (readings_in joined)) (events_in (merge_in joined))) (stands_after channel (events_in (merge_in joined)))
  prints receiver records left_a left_b left_s joined channel =
      let es = events_in (merge_in joined) in
      record {
        readings = readings_in joined;
        are = record { a_are = joined.read_a.2.over.are; b_are = joined.read_b.2.over.are; s_are = joined.read_s.2.over.are };
        merges = is_merge receiver records left_a left_b left_s joined;
        standing_is = refl;
        shown = refl;
        owed = λ feed honest. ap (λ (t : List ℕ). t ++ end_lines channel (refusals_text (readings_in joined)) es) (ap text_of_moments (law_of_honest_moments channel feed es honest));
      }

  pub begins_merge : (receiver : IntakeReceiverView (Batch A)) (records : FeedRecords) (left_a left_b left_s : ReaderOutcome A) (joined : Joined receiver records left_a left_b left_s) (channel : ListedChannel) (start taken : List ℕ) (was now : Option Published)
      → WentOut (moments channel.listed (moves_of channel (events_taken receiver.taken ++ rest_in joined))) (end_lines channel (refusals_text (readings_in joined)) (events_taken receiver.taken ++ rest_in joined)) (out start was) (out taken now)
      → SaysSome channel records (out start was) (out taken now)
  unfolding prints
  begins_merge receiver records left_a left_b left_s joined channel start taken was now went =
      let es = events_in (merge_in joined) in
      let end = end_lines channel (refusals_text (readings_in joined)) es in
      let gone : WentOut (moments channel.listed (moves_of channel es)) end (out start was) (out taken now) =
      subst (λ (events : List Event). WentOut (moments channel.listed (moves_of channel events)) (end_lines channel (refusals_text (readings_in joined)) events) (out start was) (out taken now))
      (sym (merge_events receiver records left_a left_b left_s joined)) went in
      let left = (law_of_early_ends (moments channel.listed (moves_of channel es)) end gone.sent gone.steps gone.behind).0 in (
        gone.steps,
        gone.board_is,
        (
          merge_in joined,
          record {
            text = shown_output channel (refusals_text (readings_in joined)) es;
            standing = stands_after channel es;
            prints = prints receiver records left_a left_b left_s joined channel;
            sent = gone.sent;
            rest = left.0;
            taken_is = gone.taken_is;
            whole = left.1;
          },
          begins_at channel es end gone.sent gone.steps gone.behind,
        ),
      )

  pub prints_merge : (receiver : IntakeReceiverView (Batch A)) (records : FeedRecords) (left_a left_b left_s : ReaderOutcome A) (joined : Joined receiver records left_a left_b left_s) (channel : ListedChannel) (refusals start taken : List ℕ) (standing : Standing) (was now : Option Published)
      → rest_in joined ≡ [] → refusals ≡ refusals_text (readings_in joined) → (text : List ℕ) × (taken ≡ start ++ text) × EndsAs channel (events_taken receiver.taken) refusals text standing
      → now ≡ published_on was (board_steps channel.listed (moves_of channel (events_taken receiver.taken)))
      → SaysAll channel records (out start was) (out taken now) standing
  unfolding prints
  prints_merge receiver records left_a left_b left_s joined channel refusals start taken standing was now none told ends published =
      let es = events_in (merge_in joined) in
      let all : events_taken receiver.taken ≡ es = sym (append-nil (events_taken receiver.taken)) ∙ ap (λ (t : List Event). events_taken receiver.taken ++ t) (sym none) ∙ sym (merge_events receiver records left_a left_b left_s joined) in
      let is = prints receiver records left_a left_b left_s joined channel in
      let text_is : ends.0 ≡ shown_output channel (refusals_text (readings_in joined)) es = ends.2.shown ∙ ap (λ (r : List ℕ). shown_output channel r (events_taken receiver.taken)) told ∙ ap (shown_output channel (refusals_text (readings_in joined))) all in (
        ends.0,
        board_steps channel.listed (moves_of channel es),
        ends.1,
        published ∙ ap (λ (events : List Event). published_on was (board_steps channel.listed (moves_of channel events))) all,
        (
          merge_in joined,
          record {
            readings = is.readings;
            are = is.are;
            merges = is.merges;
            standing_is = ends.2.standing_is ∙ ap (stands_after channel) all;
            shown = text_is;
            owed = λ feed honest. text_is ∙ is.owed feed honest;
          },
          publishes channel es,
        ),
      )

  -- ---- what the end of a run answers

  -- memory sufficed in all readers
  none_left : (receiver : IntakeReceiverView (Batch A)) (records : FeedRecords) (left_a left_b left_s : ReaderOutcome A) (joined : Joined receiver records left_a left_b left_s)
      → joined.read_a.2.over.rest ≡ [] → joined.read_b.2.over.rest ≡ [] → joined.read_s.2.over.rest ≡ [] → rest_in joined ≡ []
  none_left receiver records left_a left_b left_s joined ra rb rs =
      ap (λ (t : List Event). t ++ (joined.read_b.2.over.rest ++ joined.read_s.2.over.rest)) ra
      ∙ ap (λ (t : List Event). t ++ joined.read_s.2.over.rest) rb
      ∙ rs

  -- where all readers had memory, nothing is left of their events, and what they refused is what is told
  pub all_told : (receiver : IntakeReceiverView (Batch A)) (records : FeedRecords) (left_a left_b left_s : ReaderOutcome A) (joined : Joined receiver records left_a left_b left_s)
      → IfOk (all_refused left_a.refusals left_b.refusals left_s.refusals)
      (λ (texts : RefusalTexts). (rest_in joined ≡ []) × (joined_texts texts ≡ refusals_text (readings_in joined)))
  all_told receiver records left_a left_b left_s joined =
      together left_a.refusals left_b.refusals left_s.refusals _ _ _
      (none_left receiver records left_a left_b left_s joined)
      joined.read_a.2.whole joined.read_b.2.whole joined.read_s.2.whole
      joined.read_a.2.refusals joined.read_b.2.refusals joined.read_s.2.refusals

  pub ends_well : (receiver : IntakeReceiverView (Batch A)) (records : FeedRecords) (left_a left_b left_s : ReaderOutcome A) (joined : Joined receiver records left_a left_b left_s)
      (taken after : List ℕ) (outcome : Result Standing RunFault) (standing : Standing) (refusals : RefusalTexts) (result : Result Summary RunFault)
      → outcome ≡ Ok standing → rest_in joined ≡ [] → joined_texts refusals ≡ refusals_text (readings_in joined)
      → IfOk result (λ (summary : Summary). standing_in summary ≡ standing) → OnOk result (after ≡ taken ++ end_text (joined_texts refusals) standing)
      → IfOk result (λ (summary : Summary). (channel : ListedChannel) (start : List ℕ) (was now : Option Published) → HasShown channel (events_taken receiver.taken) (out start was) (out taken now) outcome
      → SaysAll channel records (out start was) (out after now) (standing_in summary))
  ends_well receiver records left_a left_b left_s joined taken after outcome standing refusals (Ok summary) is none told tells went = λ channel start was now shown.
      let events = events_taken receiver.taken in
      let all = subst (λ (o : Result Standing RunFault). IfOk o (λ (st : Standing). HasShownAll channel events (out start was) (out taken now) st)) is shown.all in
      prints_merge receiver records left_a left_b left_s joined channel (joined_texts refusals) start after (standing_in summary) was now none told
      (told_as channel events (joined_texts refusals) start after standing (standing_in summary) tells (ends_behind channel events start taken after was now standing refusals went all)) all.published
  ends_well receiver records left_a left_b left_s joined taken after outcome standing refusals (Err fault) is none told tells went = tt

  pub ends_early : (receiver : IntakeReceiverView (Batch A)) (records : FeedRecords) (left_a left_b left_s : ReaderOutcome A) (joined : Joined receiver records left_a left_b left_s)
      (taken after : List ℕ) (outcome : Result Standing RunFault) (standing : Standing) (refusals : RefusalTexts) (result : Result Summary RunFault)
      → outcome ≡ Ok standing → rest_in joined ≡ [] → joined_texts refusals ≡ refusals_text (readings_in joined)
      → IfErr result (λ (fault : RunFault). (n : ℕ) × (after ≡ taken ++ take n (end_text (joined_texts refusals) standing)))
      → IfErr result (λ (fault : RunFault). (channel : ListedChannel) (start : List ℕ) (was now : Option Published) → HasShown channel (events_taken receiver.taken) (out start was) (out taken now) outcome
      → SaysSome channel records (out start was) (out after now))
  ends_early receiver records left_a left_b left_s joined taken after outcome standing refusals (Ok summary) is none told begins = tt
  ends_early receiver records left_a left_b left_s joined taken after outcome standing refusals (Err fault) is none told begins = λ channel start was now shown.
      let events = events_taken receiver.taken in
      let all = subst (λ (o : Result Standing RunFault). IfOk o (λ (st : Standing). HasShownAll channel events (out start was) (out taken now) st)) is shown.all in
      begins_merge receiver records left_a left_b left_s joined channel start after was now
      (subst (λ (r : List ℕ). WentOut (moments channel.listed (moves_of channel (events ++ rest_in joined))) (end_lines channel r (events ++ rest_in joined)) (out start was) (out after now)) told
      (subst (λ (es : List Event). WentOut (moments channel.listed (moves_of channel es)) (end_lines channel (joined_texts refusals) es) (out start was) (out after now)) (sym (append-nil events) ∙ ap (λ (t : List Event). events ++ t) (sym none))
      (out_in_end channel events start taken after was now standing refusals begins.0 begins.1 all)))

  -- the crew stopped early, or a reader met want of memory
  pub ends_short : (receiver : IntakeReceiverView (Batch A)) (records : FeedRecords) (left_a left_b left_s : ReaderOutcome A) → Joined receiver records left_a left_b left_s
      → (taken : List ℕ) (outcome : Result Standing RunFault) (channel : ListedChannel) (start : List ℕ) (was now : Option Published) → HasShown channel (events_taken receiver.taken) (out start was) (out taken now) outcome
      → SaysSome channel records (out start was) (out taken now)
  ends_short receiver records left_a left_b left_s joined taken outcome channel start was now shown =
      begins_merge receiver records left_a left_b left_s joined channel start taken was now
      (out_early channel (events_taken receiver.taken) (rest_in joined) (end_lines channel (refusals_text (readings_in joined)) (events_taken receiver.taken ++ rest_in joined)) start taken was now outcome shown)

-- a run that has not stopped early met no failed write
pub none_failed : (outcome : Result Standing RunFault) (before after most : ℕ) → before < most → FailsBy outcome before after → IfOk outcome (λ (standing : Standing). after < most)
none_failed (Ok standing) before after most below fails = subst (λ (n : ℕ). n < most) (sym fails) below
none_failed (Err fault) before after most below fails = tt
