-- A handler goes on, event by event.
use Rattle.std.proofs.Common.{◌≡◌, List, [], ◌++◌, refl, sym, subst, ◌∙◌, append_assoc}
use Rattle.std.proofs.lemmas.List.{append-nil}
use Rattle.mdp_templates.specs.declared.instrument.Instrument.{Instrument}
use Rattle.mdp_arbiter.specs.Accepted.{Event}
use Rattle.std.specs.Prelude.{Result, Ok, Err, OnOk, ◌∷◌}
use Rattle.mdp_desks.specs.Moments.{Moment}
use Rattle.mdp_engine.specs.Engine.{View, Stands}
use Rattle.mdp_receiver.specs.Handling.{GoesOn}

pub goes_none : (v : View) → GoesOn [] v v
goes_none v = record {
  stands = λ listed before gone stands. subst (λ (es : List Event). Stands listed es gone v) (sym (append-nil before)) stands;
  channel = refl;
  keeps = refl;
}

pub goes_more : (es fs : List Event) (first mid last : View) → GoesOn es first mid → GoesOn fs mid last → GoesOn (es ++ fs) first last
goes_more es fs first mid last one two = record {
  stands = λ listed before gone stands.
      subst (λ (events : List Event). Stands listed events gone last) (append_assoc before es fs) (two.stands listed (before ++ es) gone (one.stands listed before gone stands));
  channel = two.channel ∙ one.channel;
  keeps = two.keeps ∙ one.keeps;
}

pub goes_on : {T E : Type 0} (event : Event) (old new : View) (result : Result T E) → OnOk result ((listed : List Instrument) (before : List Event) (gone : List Moment) → Stands listed before gone old → Stands listed (before ++ event ∷ []) gone new) → OnOk result (new.arbiter.channel ≡ old.arbiter.channel) → new.keeps_lines ≡ old.keeps_lines → OnOk result (GoesOn (event ∷ []) old new)
goes_on event old new (Ok done) stands channel keeps = record { stands = stands; channel = channel; keeps = keeps }
goes_on event old new (Err fault) stands channel keeps = tt
