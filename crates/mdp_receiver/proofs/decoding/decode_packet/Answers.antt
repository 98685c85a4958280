use Rattle.std.proofs.Common.{ap, subst, ◌∙◌}
use Rattle.mdp_sbe.specs.declared.refusal.Refusal.{Refusal}
use Rattle.mdp_templates.specs.Answer.{OnRefusal}
use Rattle.mdp_templates.specs.Refused.{IsRefusedAs}
use Rattle.mdp_templates.specs.Refused.FeedKind.{incremental}
use Rattle.mdp_templates.specs.declared.fault.Fault.{Fault}
use Rattle.mdp_templates.specs.declared.fault.Fault.TheVariants as faults
use Rattle.mdp_receiver.proofs.decoding.decode_packet.Goals as goal

-- the fault that was answered is this refusal
pub returns-in-Err-Refused : goal.returns-in-Err-Refused
returns-in-Err-Refused g c =
    let is = c.in-Err-Refused.field-0-is ∙ ap (λ (r : Refusal). faults.Refused r) c.in-Err-Refused.refusal-is in
    subst (λ (f : Fault). OnRefusal (IsRefusedAs incremental c.args.bytes.now) f) is c.in-Err-Refused.ensures.refused
