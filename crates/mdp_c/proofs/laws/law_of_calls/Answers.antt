use Rattle.std.proofs.Common.{List, ◌++◌, ◌∙◌, subst}
use Rattle.mdp_arbiter.specs.Accepted.{Event}
use Rattle.mdp_arbiter.specs.Channel.{Channel, ListedChannel}
use Rattle.mdp_arbiter.specs.Machine.{trace}
use Rattle.mdp_desks.specs.Moments.{Moment, moments}
use Rattle.mdp_engine.specs.Engine.{Stands, View}
use Rattle.mdp_receiver.specs.Handling.{GoesOn, Handles}
use Rattle.mdp_c.specs.Lines.{cleared}
use Rattle.mdp_c.proofs.laws.law_of_calls.Goals as goal

-- further events were taken in
goes_on : (channel : ListedChannel) (events further : List Event) (gone : List Moment) (old new : View) → Handles channel events gone old → GoesOn further old new → Handles channel (events ++ further) gone new
goes_on channel events further gone old new holds goes = record {
  stands = goes.stands channel.listed events gone holds.stands;
  channel_is = goes.channel ∙ holds.channel_is;
}

pub returns : goal.returns
returns c channel events gone v holds = record {
  datagram = λ feed bytes b new b' r takes. (takes.taken.0, takes.taken.1, goes_on channel events _ gone v new holds takes.taken.2.goes);
  close = λ new r takes. goes_on channel events _ gone v new holds takes.goes;
  lines = λ lets. record {
    stands = subst (λ (on : Channel). Stands channel.listed events (moments channel.listed (trace on events)) (cleared v)) holds.channel_is (lets channel.listed events gone holds.stands);
    channel_is = holds.channel_is;
  };
}
