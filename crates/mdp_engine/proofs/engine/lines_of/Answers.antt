use Rattle.std.proofs.Common.{◌≡◌, ◌++◌, ◌∙◌, List, [], map, take, ap, refl, subst, arith}
use Rattle.std.proofs.lemmas.List.{take_all}
use Rattle.mdp_arbiter.specs.Accepted.{Event as Accepted}
use Rattle.mdp_engine.specs.Engine.{Stands}
use Rattle.mdp_engine.specs.Steps.{event_of}
use Rattle.mdp_engine.proofs.Owing.{taken_more}
use Rattle.mdp_engine.proofs.engine.lines_of.Goals as goal

pub loop-event-init : goal.loop-event-init
loop-event-init g c = record { stands = λ listed stands. stands; keeps = refl; channel = refl }

pub loop-event-preserved : goal.loop-event-preserved
loop-event-preserved g c = record {
  stands = λ listed stands.
      subst (λ (es : List Accepted). Stands listed es [] c.on.new.self)
      (taken_more c.args.events.now c.loop-event.event-index c.event-item.result (event_of c.in_ok-copy.field-0) c.loop-event-test.true c.event-item.is c.in_ok-copy.ensures)
      (c.in_ok-on.ensures.stands listed (map event_of (take c.loop-event.event-index c.args.events.now)) [] (c.loop-event.invariant.stands listed stands));
  keeps = c.on.ensures.takes.keeps ∙ c.loop-event.invariant.keeps;
  channel = c.in_ok-on.ensures.takes.channel ∙ c.loop-event.invariant.channel;
}

pub returns : goal.returns
returns g c = λ listed stands.
    let engine = c.loop-event.engine in
    let all : take c.loop-event.event-index c.args.events.now ≡ c.args.events.now = take_all c.loop-event.event-index c.args.events.now (omega (arith, c.loop-event-test.false)) in (
      engine,
      subst (λ events. Stands listed (map event_of events) [] engine) all (c.loop-event.invariant.stands listed stands),
      c.loop-event.invariant.keeps,
      c.loop-event.invariant.channel,
      c.in_ok-drain_lines.ensures.text ∙ ap (λ t. t ++ engine.held) c.new-text.ensures.items,
    )
