use Rattle.std.proofs.Common.{◌≡◌, List, [], ◌∷◌, refl, sym, ap, subst, ◌∙◌}
use Rattle.std.proofs.lemmas.Result.{err_from_is_err_and, on_err_weaker}
use Rattle.mdp_sbe.specs.declared.refusal.Refusal.{Refusal}
use Rattle.mdp_templates.specs.Answer.{OnRefusal}
use Rattle.mdp_templates.specs.Refused.{IsRefusedAs}
use Rattle.mdp_templates.specs.Refused.FeedKind.{incremental}
use Rattle.mdp_templates.specs.declared.fault.Fault.{Fault}
use Rattle.mdp_templates.specs.declared.fault.Fault.TheVariants as faults
use Rattle.mdp_templates.specs.declared.feed.Feed.TheVariants as feeds
use Rattle.mdp_arbiter.specs.Accepted.{Event, came}
use Rattle.mdp_arbiter.specs.Arbiter.{View as ArbiterView, state}
use Rattle.mdp_arbiter.specs.Fates.{packet_fate}
use Rattle.mdp_arbiter.specs.Standing.{StandsAt}
use Rattle.mdp_engine.specs.Engine.{HasBrokenOff, View}
use Rattle.mdp_receiver.specs.Handling.{HasBrokenOffAt}
use Rattle.mdp_receiver.proofs.Breaking.{nothing_brought, packet_brought}
use Rattle.mdp_receiver.proofs.NextPackets.{takes_packet, takes_refused}
use Rattle.mdp_receiver.proofs.handler.Handler.take_next.Goals as goal

-- the fault that was answered is this refusal
pub returns-in-Err-Refused-clause-taken : goal.returns-in-Err-Refused-clause-taken
returns-in-Err-Refused-clause-taken g c =
    let is = c.in-Err-Refused.field-0-is ∙ ap (λ (r : Refusal). faults.Refused r) (sym c.in-Err-Refused.refusal-is) in
    let refused = subst (λ (f : Fault). OnRefusal (IsRefusedAs incremental c.args.bytes.now) f) is c.in-Err-Refused.ensures.refused in
    rw c.self.view_is (takes_refused c.args.bytes.now _ c.args.self.now refused)

pub returns-then-branch-clause-taken : goal.returns-then-branch-clause-taken
returns-then-branch-clause-taken g c =
    let v = c.args.self.now in
    let packet = c.read_packet_into.new.packet in
    let fate = c.fate_of-fate.result in
    let same : c.arbiter.result.now ≡ v.arbiter = c.arbiter.ensures ∙ ap (λ (e : View). e.arbiter) c.self.view_is in
    let told : (es : List Event) → StandsAt es v.arbiter → fate ≡ packet_fate v.arbiter.channel es (state v.arbiter) packet.number =
    λ es stands. rw (← c.number-number.ensures) (subst (λ (a : ArbiterView). fate ≡ packet_fate a.channel es (state a) c.number-number.result) same (c.fate_of-fate.ensures.stands es (subst (StandsAt es) (sym same) stands))) in
    takes_packet c.args.bytes.now packet fate v c.on_next.new.self c.in-Ok.ensures.ok told (record {
      stands = rw (← c.self.view_is) (c.in_ok-on_next.ensures.passed c.if-branch.true);
      channel = rw (← c.self.view_is) c.in_ok-on_next.ensures.takes.channel;
      keeps = rw (← c.self.view_is) c.on_next.ensures.takes.keeps;
    })

pub returns-in-Err-Memory-clause-begins : goal.returns-in-Err-Memory-clause-begins
returns-in-Err-Memory-clause-begins g c = rw c.self.view_is (nothing_brought feeds.A c.args.bytes.now c.args.self.now c.args.self.now refl)

pub returns-in_err-keep-clause-begins : goal.returns-in_err-keep-clause-begins
returns-in_err-keep-clause-begins g c =
    let fault = err_from_is_err_and c.from_residual.result c.from_residual.ensures.1 in
    rw (fault.1, c.self.view_is) (nothing_brought feeds.A c.args.bytes.now c.args.self.now c.args.self.now refl)

pub returns-in_err-on_next-clause-begins : goal.returns-in_err-on_next-clause-begins
returns-in_err-on_next-clause-begins g c =
    let fault = err_from_is_err_and c.from_residual-in_err-on_next.result c.from_residual-in_err-on_next.ensures.1 in
    let packet = c.read_packet_into.new.packet in
    let broken = subst (λ (v : View). HasBrokenOff (came packet ∷ []) v c.on_next.new.self) c.self.view_is c.in_err-on_next.ensures.takes.begins in
    rw fault.1 (packet_brought c.args.bytes.now packet c.args.self.now c.on_next.new.self c.in-Ok.ensures.ok broken)

pub returns-clause-begins : goal.returns-clause-begins
returns-clause-begins g c =
    let packet = c.read_packet_into.new.packet in
    let stays = c.in_ok-on_next.ensures.kept c.if-branch.false ∙ c.self.view_is in
    let broken : HasBrokenOff (came c.replace-packet.result ∷ []) c.on_next.new.self c.pass.new.self → HasBrokenOffAt feeds.A c.args.bytes.now c.args.self.now c.pass.new.self =
    λ b. packet_brought c.args.bytes.now packet c.args.self.now c.pass.new.self c.in-Ok.ensures.ok
    (subst (λ (v : View). HasBrokenOff (came packet ∷ []) v c.pass.new.self) stays (rw (← c.replace-packet.ensures.value) b)) in
    on_err_weaker c.pass.result broken c.pass.ensures.begins
