use Rattle.std.proofs.Common.{◌≡◌, List, sym, ap, subst, ◌∙◌}
use Rattle.mdp_arbiter.specs.Accepted.{Event}
use Rattle.mdp_arbiter.specs.Arbiter.{View as ArbiterView, state}
use Rattle.mdp_arbiter.specs.Fates.{packet_fate}
use Rattle.mdp_arbiter.specs.Standing.{StandsAt}
use Rattle.std.proofs.lemmas.Result.{on_err_weaker}
use Rattle.mdp_engine.specs.Engine.{HasBrokenOff, View}
use Rattle.mdp_receiver.specs.Handling.{HasBrokenOffAt}
use Rattle.mdp_receiver.specs.Said.{brought_by, said_of}
use Rattle.mdp_receiver.proofs.Copying.{takes_copy}
use Rattle.mdp_receiver.proofs.handler.Handler.take.Goals as goal

pub returns-in-Some-clause-taken : goal.returns-in-Some-clause-taken
returns-in-Some-clause-taken g c =
    let v = c.args.self.now in
    let number = c.in-Some.number in
    let fate = c.fate_of.result in
    let same : c.arbiter.result.now ≡ v.arbiter = c.arbiter.ensures ∙ ap (λ (e : View). e.arbiter) c.self.view_is in
    let told : (es : List Event) → StandsAt es v.arbiter → fate ≡ packet_fate v.arbiter.channel es (state v.arbiter) number =
    λ es stands. subst (λ (a : ArbiterView). fate ≡ packet_fate a.channel es (state a) number) same (c.fate_of.ensures.stands es (subst (StandsAt es) (sym same) stands)) in
    takes_copy c.args.feed c.args.bytes.now number fate v told c.in-Some.ensures

pub returns-clause-begins : goal.returns-clause-begins
returns-clause-begins g c =
    let decoded = c.in_ok-decoded.decoded in
    let broken : HasBrokenOff (brought_by (said_of decoded)) c.keep.new.self c.take_in.new.self → HasBrokenOffAt c.args.feed c.args.bytes.now c.args.self.now c.take_in.new.self =
    λ b. (said_of decoded, c.in_ok-decoded.ensures, subst (λ (v : View). HasBrokenOff (brought_by (said_of decoded)) v c.take_in.new.self) c.keep.ensures b) in
    on_err_weaker c.take_in.result broken c.take_in.ensures.begins
