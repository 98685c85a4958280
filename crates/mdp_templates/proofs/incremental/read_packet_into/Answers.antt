use Rattle.std.proofs.Common.{List, ℕ, subst}
use Rattle.std.specs.Prelude.{IfErr}
use Rattle.std.proofs.lemmas.List.{take_rest}
use Rattle.mdp_sbe.specs.Framing.{AreRefused}
use Rattle.mdp_templates.specs.Answer.{OnRefusal}
use Rattle.mdp_templates.specs.Incremental.{IsIncremental, IsRefusedIncremental}
use Rattle.mdp_templates.proofs.Messages.{refused_packet_result}
use Rattle.mdp_templates.proofs.incremental.read_packet_into.Goals as goal

pub returns-then-is_err-clause-refused : goal.returns-then-is_err-clause-refused
returns-then-is_err-clause-refused g c =
    let bad = subst (λ (rest : List ℕ). IfErr c.read_messages-outcome.result (OnRefusal (AreRefused IsIncremental IsRefusedIncremental rest))) (take_rest c.args.text.now 12) c.read_messages-outcome.ensures.refused in
    refused_packet_result c.args.text.now c.in_ok-header.header c.read_messages-outcome.result c.in_ok-header.ensures.header c.in_ok-header.ensures.positive bad
