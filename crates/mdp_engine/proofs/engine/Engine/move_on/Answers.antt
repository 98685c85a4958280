use Rattle.std.proofs.Common.{ℕ, List, refl, sym, ap, subst, rules, ◌∙◌}
use Rattle.mdp_print.specs.Pieces.{BeginsWith}
use Rattle.mdp_print.proofs.Fronts.{begins_first, begins_more}
use Rattle.mdp_arbiter.specs.Arbiter.{View as ArbiterView}
use Rattle.mdp_engine.specs.Engine.{BreaksOffOnWay, View}
use Rattle.mdp_engine.proofs.Breaking.{way_breaks_off}
use Rattle.mdp_engine.proofs.Moving.{MovesTo, moves_further, moves_settled}
use Rattle.mdp_engine.proofs.engine.Engine.move_on.Goals as goal

pub loop-step-preserved : goal.loop-step-preserved
loop-step-preserved g c =
    let so_far = subst (λ (v : View). MovesTo c.args.self.now v) (sym c.self.view_is) c.loop-step.invariant.moves in
    let kept = ap (λ (v : View). v.arbiter.channel) c.self.view_is ∙ c.loop-step.invariant.channel in
    record {
      moves = moves_further c.args.self.now _ c.take_step.new.self c.step.new.self c.in-Some.step so_far kept c.in-Some.ensures.steps c.in-Some.ensures.channel c.in_ok-take_step.ensures.desks
          (record { lines = c.in_ok-take_step.ensures.text; changed = c.in_ok-take_step.ensures.changed; keeps = c.take_step.ensures.keeps }) c.in_ok-take_step.ensures.arbiter;
      channel = ap (λ (v : ArbiterView). v.channel) c.in_ok-take_step.ensures.arbiter ∙ c.in-Some.ensures.channel ∙ kept;
      keeps = c.take_step.ensures.keeps ∙ ap (λ (v : View). v.keeps_lines) c.self.view_is ∙ c.loop-step.invariant.keeps;
      sound = c.in_ok-take_step.ensures.sound ∙ ap (λ (v : View). v.has_failed) c.self.view_is ∙ c.loop-step.invariant.sound;
      front =
          let so_far = subst (λ (v : View). BeginsWith v.held c.args.self.now.held) (sym c.self.view_is) c.loop-step.invariant.front in
          subst (λ (t : List ℕ). BeginsWith t c.args.self.now.held) (sym c.in_ok-take_step.ensures.text) (begins_more c.args.self.now.held _ _ so_far);
    }

pub returns-clause-advances : goal.returns-clause-advances
returns-clause-advances g c =
    let so_far = subst (λ (v : View). MovesTo c.args.self.now v) (sym c.self.view_is) c.loop-step.invariant.moves in
    let kept = ap (λ (v : View). v.arbiter.channel) c.self.view_is ∙ c.loop-step.invariant.channel in
    moves_settled c.args.self.now _ _ c.step.result c.in_default.is so_far kept c.step.ensures.steps c.in_default.ensures.channel (record { desks = refl; held = refl; changed = refl; keeps = refl })

pub returns-in_err-take_step-clause-front : goal.returns-in_err-take_step-clause-front
returns-in_err-take_step-clause-front g c =
    let so_far = subst (λ (v : View). BeginsWith v.held c.args.self.now.held) (sym c.self.view_is) c.loop-step.invariant.front in
    let front : BeginsWith c.take_step.new.self.held c.args.self.now.held = begins_first c.args.self.now.held _ c.take_step.new.self.held so_far c.in_err-take_step.ensures.err.kept in
    search rules

pub returns-in_err-take_step-clause-begins : goal.returns-in_err-take_step-clause-begins
returns-in_err-take_step-clause-begins g c =
    let so_far = subst (λ (v : View). MovesTo c.args.self.now v) (sym c.self.view_is) c.loop-step.invariant.moves in
    let kept = ap (λ (v : View). v.arbiter.channel) c.self.view_is ∙ c.loop-step.invariant.channel in
    let breaks : BreaksOffOnWay c.args.self.now c.take_step.new.self =
    way_breaks_off c.args.self.now _ c.take_step.new.self c.step.new.self c.in-Some.step so_far kept (ap (λ (v : View). v.keeps_lines) c.self.view_is ∙ c.loop-step.invariant.keeps) c.in-Some.ensures.steps c.in-Some.ensures.channel c.in_err-take_step.ensures.err in
    search rules
