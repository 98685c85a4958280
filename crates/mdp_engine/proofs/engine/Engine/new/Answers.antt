use Rattle.std.proofs.Common.{Bool, [], refl, sym, ap, ◌∙◌}
use Rattle.mdp_arbiter.specs.Channel.{Channel}
use Rattle.mdp_engine.specs.Kept.{kept_lines}
use Rattle.mdp_engine.proofs.Moving.{stands_at_start}
use Rattle.mdp_engine.proofs.engine.Engine.new.Goals as goal

pub returns-clause-stands : goal.returns-clause-stands
returns-clause-stands g c =
    stands_at_start c.args.instruments.now c.in_ok-new.field-0 c.in_ok-new-2.field-0 _ refl refl (c.in_ok-nothing.ensures.text ∙ ap (λ (b : Bool). kept_lines b []) (sym c.in_ok-nothing.ensures.keeps)) c.in_ok-nothing.ensures.changed c.in_ok-new.ensures.stands c.in_ok-new.ensures.start (ap (λ (channel : Channel). channel.ids) c.in_ok-new.ensures.channel) c.in_ok-new-2.ensures
