-- What a run has written when it ends, at the events that it took.
use Rattle.std.proofs.Common.{◌≡◌, ℕ, Bool, List, [], ◌++◌, map, take, drop, refl, sym, ap, subst, ◌∙◌, append_assoc}
use Rattle.std.specs.Prelude.{Option, Result, Ok, Err, IfOk, IfErr, OnOk}
use Rattle.std.proofs.lemmas.List.{append-nil, take-append-drop}
use Rattle.mdp_templates.specs.declared.instrument.Instrument.{Instrument}
use Rattle.mdp_arbiter.specs.Accepted.{Event}
use Rattle.mdp_arbiter.specs.Channel.{Channel, ListedChannel, channel_of}
use Rattle.mdp_arbiter.specs.Machine.{go_on, is_lost, moves_of, stands_after, stands_at, state_at, trace}
use Rattle.mdp_arbiter.proofs.Runs.{law_of_fronts}
use Rattle.mdp_desks.specs.Moments.{Moment, moments, moments_after, shown_lines, text_of_moments}
use Rattle.mdp_engine.specs.Engine.{View, Stands}
use Rattle.mdp_engine.proofs.Owing.{text_so_far}
use Rattle.mdp_arbiter.specs.declared.arbiter.Standing.{Standing}
use Rattle.mdp_crew.specs.declared.fault.RunFault.{RunFault}
use Rattle.mdp_crew.specs.Outlets.{out}
use Rattle.mdp_crew.specs.Running.{HasShown, HasShownAll, WentOut}
use Rattle.mdp_desks.proofs.Moments.{moments-append, shown_lines-append}
use Rattle.mdp_lanes.specs.Boards.{Published}
use Rattle.mdp_reports.specs.Behind.{IsBehind}
use Rattle.mdp_reports.specs.BoardSteps.{step_of_moment}
use Rattle.mdp_reports.proofs.Behind.{behind_in_end}
use Rattle.mdp_crew.proofs.Leaving.{all_out, out_more}
use Rattle.mdp_pipeline.specs.declared.progress.Run.{Run}
use Rattle.mdp_crew.specs.declared.fault.RunFault.{RunFault}
use Rattle.mdp_pipeline.specs.declared.summary.Summary.{Summary}
use Rattle.mdp_pipeline.specs.Merge.{Arrival}
use Rattle.mdp_pipeline.specs.Output.{end_lines, end_text, shown_output, standing_in}
use Rattle.mdp_pipeline.specs.Reading.{by_feed, events_of, refusals_text}
use Rattle.mdp_pipeline.specs.RefusalTexts.{RefusalTexts}
use Rattle.mdp_pipeline.specs.Running.{BeginsAll, EndsAs, EndsEarly, HandsOn, HasWritten, PrintsAll, Writes, joined_texts}

-- ---- the text so far

-- what was sent and what is held is what the moves show
shown_so_far : (channel : ListedChannel) (events : List Event) (start taken : List ℕ) (engine : View) → (so_far : HasWritten channel events start taken engine) → so_far.sent ++ engine.held ≡ shown_lines channel.listed (moves_of channel events)
shown_so_far channel events start taken engine so_far =
    ap (λ (t : List ℕ). t ++ engine.held) so_far.stands.sent_is
    ∙ text_so_far channel.listed events so_far.stands.gone engine so_far.stands.keeps so_far.stands.stands
    ∙ ap (λ (c : Channel). shown_lines channel.listed (trace c events)) so_far.channel_is

-- what more events show
abbrev shown_later : ListedChannel → List Event → List Event → List ℕ
shown_later channel events more =
    let machine = channel_of channel in
    text_of_moments (moments_after channel.listed (moves_of channel events) (go_on machine events (state_at machine events) more))

shown_front : (channel : ListedChannel) (events more : List Event) → shown_lines channel.listed (moves_of channel (events ++ more)) ≡ shown_lines channel.listed (moves_of channel events) ++ shown_later channel events more
shown_front channel events more =
    let machine = channel_of channel in
    ap (shown_lines channel.listed) (law_of_fronts machine events more)
    ∙ shown_lines-append channel.listed (moves_of channel events) (go_on machine events (state_at machine events) more)

-- of the text that is held so many bytes went out; whatever comes behind these events, it is a beginning of the whole
pub early : (channel : ListedChannel) (events more : List Event) (refusals start taken taken' : List ℕ) (engine : View) (n : ℕ) → taken' ≡ taken ++ take n engine.held
    → HasWritten channel events start taken engine → EndsEarly channel (events ++ more) refusals start taken'
early channel events more refusals start taken taken' engine n went so_far =
    let held = engine.held in
    let later = shown_later channel events more in
    let end = end_lines channel refusals (events ++ more) in
    record {
      sent = so_far.sent ++ take n held;
      rest = drop n held ++ (later ++ end);
      taken_is = went ∙ ap (λ (t : List ℕ). t ++ take n held) so_far.taken_is ∙ append_assoc start so_far.sent (take n held);
      whole =
          ap (λ (t : List ℕ). t ++ end) (shown_front channel events more)
          ∙ ap (λ (t : List ℕ). (t ++ later) ++ end) (sym (shown_so_far channel events start taken engine so_far))
          ∙ append_assoc (so_far.sent ++ held) later end
          ∙ ap (λ (t : List ℕ). (so_far.sent ++ t) ++ (later ++ end)) (sym (take-append-drop n held))
          ∙ ap (λ (t : List ℕ). t ++ (later ++ end)) (sym (append_assoc so_far.sent (take n held) (drop n held)))
          ∙ append_assoc (so_far.sent ++ take n held) (drop n held) (later ++ end);
    }

pub early_here : (channel : ListedChannel) (events : List Event) (refusals start taken taken' : List ℕ) (engine : View) (n : ℕ) → taken' ≡ taken ++ take n engine.held
    → HasWritten channel events start taken engine → EndsEarly channel events refusals start taken'
early_here channel events refusals start taken taken' engine n went so_far =
    subst (λ (es : List Event). EndsEarly channel es refusals start taken') (append-nil events) (early channel events [] refusals start taken taken' engine n went so_far)

-- ---- the end

abbrev pub Tells : View → Standing → Type 0
Tells engine standing = (listed : List Instrument) (es : List Event) (gone : List Moment) → Stands listed es gone engine → standing ≡ stands_at engine.arbiter.channel es

pub tells_both : (engine : View) (next : ℕ) (lost : Bool)
    → ((listed : List Instrument) (es : List Event) (gone : List Moment) → Stands listed es gone engine → next ≡ (state_at engine.arbiter.channel es).next)
    → ((listed : List Instrument) (es : List Event) (gone : List Moment) → Stands listed es gone engine → lost ≡ is_lost engine.arbiter.channel es (state_at engine.arbiter.channel es))
    → Tells engine (record { next = next; lost = lost })
tells_both engine next lost next_is lost_is = λ listed es gone stands i. record { next = next_is listed es gone stands i; lost = lost_is listed es gone stands i }

pub ends_as : (channel : ListedChannel) (events : List Event) (start taken taken' : List ℕ) (engine : View) (end : List ℕ) (refusals : RefusalTexts) (standing : Standing)
    → taken' ≡ (taken ++ engine.held) ++ end → end ≡ end_text (joined_texts refusals) standing → Tells engine standing
    → HasWritten channel events start taken engine → (text : List ℕ) × (taken' ≡ start ++ text) × EndsAs channel events (joined_texts refusals) text standing
ends_as channel events start taken taken' engine end refusals standing went end_is tells so_far =
    let held = engine.held in
    let front = so_far.sent ++ held in
    let there : standing ≡ stands_after channel events = tells channel.listed events so_far.stands.gone so_far.stands.stands ∙ ap (λ (c : Channel). stands_at c events) so_far.channel_is in
    let ending : end ≡ end_lines channel (joined_texts refusals) events = end_is ∙ ap (end_text (joined_texts refusals)) there in (
      front ++ end,
      went ∙ ap (λ (t : List ℕ). (t ++ held) ++ end) so_far.taken_is ∙ ap (λ (t : List ℕ). t ++ end) (append_assoc start so_far.sent held) ∙ append_assoc start front end,
      record {
        standing_is = there;
        shown =
            ap (λ (t : List ℕ). t ++ end) (shown_so_far channel events start taken engine so_far)
            ∙ ap (λ (t : List ℕ). shown_lines channel.listed (moves_of channel events) ++ t) ending;
      },
    )

-- the text went out, and of the refusals and the last line so many bytes
pub early_in_end : (channel : ListedChannel) (events : List Event) (start taken taken' : List ℕ) (engine : View) (end : List ℕ) (refusals : RefusalTexts) (standing : Standing) (n : ℕ)
    → taken' ≡ (taken ++ engine.held) ++ take n end → end ≡ end_text (joined_texts refusals) standing → Tells engine standing
    → HasWritten channel events start taken engine → EndsEarly channel events (joined_texts refusals) start taken'
unfolding ends_as
early_in_end channel events start taken taken' engine end refusals standing n went end_is tells so_far =
    let held = engine.held in
    let all = ends_as channel events start taken ((taken ++ held) ++ end) engine end refusals standing refl end_is tells so_far in
    let front = so_far.sent ++ held in
    record {
      sent = front ++ take n end;
      rest = drop n end;
      taken_is = went ∙ ap (λ (t : List ℕ). (t ++ held) ++ take n end) so_far.taken_is ∙ ap (λ (t : List ℕ). t ++ take n end) (append_assoc start so_far.sent held) ∙ append_assoc start front (take n end);
      whole = sym all.2.shown ∙ ap (λ (t : List ℕ). front ++ t) (sym (take-append-drop n end)) ∙ sym (append_assoc front (take n end) (drop n end));
    }

-- ends told of the same standing
pub told_as : (channel : ListedChannel) (events : List Event) (refusals start taken : List ℕ) (standing standing' : Standing) → standing' ≡ standing
    → (text : List ℕ) × (taken ≡ start ++ text) × EndsAs channel events refusals text standing → (text : List ℕ) × (taken ≡ start ++ text) × EndsAs channel events refusals text standing'
told_as channel events refusals start taken standing standing' same ends = subst (λ (s : Standing). (text : List ℕ) × (taken ≡ start ++ text) × EndsAs channel events refusals text s) (sym same) ends

-- what the end comes to, where all of the text went out
pub ends_of : (taken mid after : List ℕ) (engine : View) (refusals : RefusalTexts) (standing : Standing) (result : Result Summary RunFault)
    → Tells engine standing → mid ≡ taken ++ engine.held
    → IfOk result (λ (summary : Summary). standing_in summary ≡ standing) → OnOk result (after ≡ mid ++ (end_text (joined_texts refusals) standing))
    → IfOk result (λ (summary : Summary). (channel : ListedChannel) (events : List Event) (start : List ℕ) → HasWritten channel events start taken engine
    → (text : List ℕ) × (after ≡ start ++ text) × EndsAs channel events (joined_texts refusals) text (standing_in summary))
ends_of taken mid after engine refusals standing (Ok summary) tells text same went = λ channel events start so_far.
    let end = end_text (joined_texts refusals) standing in
    let ends = ends_as channel events start taken after engine end refusals standing (went ∙ ap (λ (t : List ℕ). t ++ end) text) refl tells so_far in
    told_as channel events (joined_texts refusals) start after standing (standing_in summary) same ends
ends_of taken mid after engine refusals standing (Err fault) tells text same went = tt

pub early_of : (taken mid after : List ℕ) (engine : View) (refusals : RefusalTexts) (standing : Standing) (result : Result Summary RunFault)
    → Tells engine standing → mid ≡ taken ++ engine.held
    → IfErr result (λ (fault : RunFault). (n : ℕ) × (after ≡ mid ++ take n (end_text (joined_texts refusals) standing)))
    → IfErr result (λ (fault : RunFault). (channel : ListedChannel) (events : List Event) (start : List ℕ) → HasWritten channel events start taken engine
    → EndsEarly channel events (joined_texts refusals) start after)
early_of taken mid after engine refusals standing (Ok summary) tells text begins = tt
early_of taken mid after engine refusals standing (Err fault) tells text begins = λ channel events start so_far.
    let end = end_text (joined_texts refusals) standing in
    early_in_end channel events start taken after engine end refusals standing begins.0 (begins.1 ∙ ap (λ (t : List ℕ). t ++ take begins.0 end) text) refl tells so_far

-- ---- the end of a run over threads

-- the refusals and the last line went out behind what the moves show
pub ends_behind : (channel : ListedChannel) (events : List Event) (start taken after : List ℕ) (was now : Option Published) (standing : Standing) (refusals : RefusalTexts)
    → after ≡ taken ++ (end_text (joined_texts refusals) standing) → HasShownAll channel events (out start was) (out taken now) standing
    → (text : List ℕ) × (after ≡ start ++ text) × EndsAs channel events (joined_texts refusals) text standing
ends_behind channel events start taken after was now standing refusals went shown =
    let lines = shown_lines channel.listed (moves_of channel events) in
    let end = end_text (joined_texts refusals) standing in (
      lines ++ end,
      went ∙ ap (λ (t : List ℕ). t ++ end) shown.shown ∙ append_assoc start lines end,
      record {
        standing_is = shown.standing_is;
        shown = ap (λ (s : Standing). lines ++ end_text (joined_texts refusals) s) shown.standing_is;
      },
    )

-- so many bytes of them went out, behind a text whose steps were published
pub out_in_end : (channel : ListedChannel) (events : List Event) (start taken after : List ℕ) (was now : Option Published) (standing : Standing) (refusals : RefusalTexts) (n : ℕ)
    → after ≡ taken ++ take n (end_text (joined_texts refusals) standing) → HasShownAll channel events (out start was) (out taken now) standing
    → WentOut (moments channel.listed (moves_of channel events)) (end_lines channel (joined_texts refusals) events) (out start was) (out after now)
out_in_end channel events start taken after was now standing refusals n went shown =
    let ms = moments channel.listed (moves_of channel events) in
    let end = end_lines channel (joined_texts refusals) events in
    let told : end_text (joined_texts refusals) standing ≡ end =
    ap (end_text (joined_texts refusals)) shown.standing_is in
    record {
      sent = text_of_moments ms ++ take n end;
      steps = map step_of_moment ms;
      taken_is = went ∙ ap (λ (t : List ℕ). taken ++ take n t) told ∙ ap (λ (t : List ℕ). t ++ take n end) shown.shown ∙ append_assoc start (text_of_moments ms) (take n end);
      board_is = shown.published;
      behind =
          subst (λ (e : List ℕ). IsBehind ms e (text_of_moments ms ++ take n end) (map step_of_moment ms)) (take-append-drop n end)
          (behind_in_end ms (take n end) (drop n end));
    }

-- whatever the crew came to, a beginning went out of what it was to show
went_out : (channel : ListedChannel) (events : List Event) (start taken : List ℕ) (was now : Option Published) (outcome : Result Standing RunFault) → HasShown channel events (out start was) (out taken now) outcome
    → WentOut (moments channel.listed (moves_of channel events)) [] (out start was) (out taken now)
went_out channel events start taken was now (Ok standing) shown = all_out (moments channel.listed (moves_of channel events)) start taken was now shown.all.shown shown.all.published
went_out channel events start taken was now (Err fault) shown = shown.some

-- and of what more events show too, whatever stands behind that
pub out_early : (channel : ListedChannel) (events more : List Event) (end start taken : List ℕ) (was now : Option Published) (outcome : Result Standing RunFault) → HasShown channel events (out start was) (out taken now) outcome
    → WentOut (moments channel.listed (moves_of channel (events ++ more))) end (out start was) (out taken now)
out_early channel events more end start taken was now outcome shown =
    let machine = channel_of channel in
    let before = moves_of channel events in
    let later = go_on machine events (state_at machine events) more in
    subst (λ (ms : List Moment). WentOut ms end (out start was) (out taken now)) (sym (ap (moments channel.listed) (law_of_fronts machine events more) ∙ moments-append channel.listed [] before later))
    (out_more (moments channel.listed before) (moments_after channel.listed before later) end (out start was) (out taken now) (went_out channel events start taken was now outcome shown))

-- ---- runs over records of all feeds in one list

pub writes_shown : {A : Type 0} (channel : ListedChannel) (arrivals : List Arrival) (start taken : List ℕ) (run : Run A)
    → (so_far : Writes channel arrivals start taken run) → HasWritten channel (events_of so_far.over.readings) start taken run.handler
writes_shown channel arrivals start taken run so_far = record {
  sent = so_far.sent;
  taken_is = so_far.taken_is;
  stands = so_far.over.run.stands;
  channel_is = so_far.over.run.channel_is;
}

pub prints_all : {A : Type 0} (channel : ListedChannel) (arrivals : List Arrival) (start taken taken' : List ℕ) (run : Run A) (standing : Standing)
    → (so_far : Writes channel arrivals start taken run) → (ends : (text : List ℕ) × (taken' ≡ start ++ text) × EndsAs channel (events_of so_far.over.readings) (joined_texts run.refusals) text standing)
    → (text : List ℕ) × (taken' ≡ start ++ text) × PrintsAll channel arrivals text standing
prints_all channel arrivals start taken taken' run standing so_far ends = (
  ends.0,
  ends.1,
  record {
    readings = so_far.over.readings;
    are = so_far.over.are;
    standing_is = ends.2.standing_is;
    shown = ends.2.shown ∙ ap (λ (t : RefusalTexts). shown_output channel (joined_texts t) (events_of so_far.over.readings)) so_far.over.run.refusals_are;
  },
)

pub begins_all : {A : Type 0} (channel : ListedChannel) (arrivals : List Arrival) (start taken taken' : List ℕ) (run : Run A)
    → (so_far : Writes channel arrivals start taken run) → EndsEarly channel (events_of so_far.over.readings) (joined_texts run.refusals) start taken'
    → BeginsAll channel arrivals start taken'
begins_all channel arrivals start taken taken' run so_far ends =
    let events = events_of so_far.over.readings in
    record {
      text = shown_output channel (refusals_text (by_feed so_far.over.readings)) events;
      standing = stands_after channel events;
      prints = record { readings = so_far.over.readings; are = so_far.over.are; standing_is = refl; shown = refl };
      sent = ends.sent;
      rest = ends.rest;
      taken_is = ends.taken_is;
      whole = sym (ap (λ (t : RefusalTexts). shown_output channel (joined_texts t) events) so_far.over.run.refusals_are) ∙ ends.whole;
    }

-- ---- lines of the engine go out

pub writes_on : {A : Type 0} (channel : ListedChannel) (arrivals : List Arrival) (start taken taken' : List ℕ) (old new : Run A) → HandsOn taken taken' old new
    → Writes channel arrivals start taken old → Writes channel arrivals start taken' new
writes_on channel arrivals start taken taken' old new on so_far =
    let over = so_far.over in
    record {
      sent = so_far.sent ++ on.sent;
      taken_is = on.went ∙ ap (λ (t : List ℕ). t ++ on.sent) so_far.taken_is ∙ append_assoc start so_far.sent on.sent;
      over = record {
        readings = over.readings;
        are = over.are;
        run = record {
          stands = on.stands channel.listed (events_of over.readings) so_far.sent over.run.stands;
          channel_is = on.channel ∙ over.run.channel_is;
          refusals_are = on.refusals ∙ over.run.refusals_are;
        };
      };
    }
