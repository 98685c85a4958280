use Rattle.std.proofs.Common.{List, ℕ, subst}
use Rattle.std.proofs.lemmas.List.{take_rest}
use Rattle.std.specs.Prelude.{IfErr}
use Rattle.mdp_sbe.specs.Framing.{AreRefused}
use Rattle.mdp_templates.specs.Answer.{OnRefusal}
use Rattle.mdp_templates.specs.Recovery.{IsRecovery, IsRefusedRecovery}
use Rattle.mdp_templates.proofs.Messages.{refused_snapshots_result}
use Rattle.mdp_templates.proofs.recovery.read_snapshots.Goals as goal

pub returns-clause-refused : goal.returns-clause-refused
returns-clause-refused g c =
    refused_snapshots_result c.args.text.now c.in_ok-_header._header c.read_messages.result c.in_ok-_header.ensures.ok
    (subst (λ (rest : List ℕ). IfErr c.read_messages.result (OnRefusal (AreRefused IsRecovery IsRefusedRecovery rest))) (take_rest c.args.text.now 12) c.read_messages.ensures.refused)
