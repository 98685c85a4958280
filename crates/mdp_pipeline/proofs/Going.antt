-- What a run makes of a record, and of the lines that go out.
use Rattle.std.proofs.Common.{◌≡◌, ℕ, List, [], ◌++◌, refl, sym, ap, subst, ◌∙◌}
use Rattle.std.proofs.lemmas.List.{append-nil}
use Rattle.mdp_templates.specs.declared.instrument.Instrument.{Instrument}
use Rattle.mdp_arbiter.specs.Accepted.{Event}
use Rattle.mdp_arbiter.specs.Machine.{trace}
use Rattle.mdp_desks.specs.Moments.{Moment, moments}
use Rattle.mdp_engine.specs.Engine.{Stands, View}
use Rattle.mdp_engine.proofs.Owing.{text_so_far}
use Rattle.mdp_pipeline.specs.declared.progress.Run.{Run}
use Rattle.mdp_pipeline.specs.Running.{HandsOn, StandsSent}

-- ---- lines

pub hands_on_nothing : {A : Type 0} (taken : List ℕ) (run : Run A) → HandsOn taken taken run run
hands_on_nothing taken run = record {
  sent = [];
  went = sym (append-nil taken);
  stands = λ listed events before stands. subst (λ (t : List ℕ). StandsSent listed events t run.handler) (sym (append-nil before)) stands;
  channel = refl;
  refusals = refl;
}

-- what a handler held was sent and let go
pub sent_on : (listed : List Instrument) (events : List Event) (before : List ℕ) (old new : View)
    → ((listed : List Instrument) (events : List Event) (gone : List Moment) → Stands listed events gone old → Stands listed events (moments listed (trace old.arbiter.channel events)) new)
    → new.keeps_lines ≡ old.keeps_lines → StandsSent listed events before old → StandsSent listed events (before ++ old.held) new
sent_on listed events before old new stands keeps so_far = record {
  gone = moments listed (trace old.arbiter.channel events);
  stands = stands listed events so_far.gone so_far.stands;
  keeps = keeps ∙ so_far.keeps;
  sent_is = ap (λ (t : List ℕ). t ++ old.held) so_far.sent_is ∙ text_so_far listed events so_far.gone old so_far.keeps so_far.stands;
}
