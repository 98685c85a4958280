use Rattle.std.proofs.Common.{List, ℕ, subst}
use Rattle.std.proofs.lemmas.List.{take_rest}
use Rattle.std.proofs.lemmas.Result.{err_from_is_err_and}
use Rattle.mdp_sbe.specs.Framing.{AreRefused}
use Rattle.mdp_templates.specs.Answer.{OnRefusal}
use Rattle.mdp_templates.specs.Incremental.{IsIncremental, IsRefusedIncremental}
use Rattle.mdp_templates.proofs.Messages.{refused_packet}
use Rattle.mdp_templates.proofs.incremental.read_packet.Goals as goal

pub returns-in_err-read_messages-clause-refused : goal.returns-in_err-read_messages-clause-refused
returns-in_err-read_messages-clause-refused g c =
    let p = err_from_is_err_and c.from_residual-in_err-read_messages.result c.from_residual-in_err-read_messages.ensures.1 in
    let bad = subst (λ (rest : List ℕ). OnRefusal (AreRefused IsIncremental IsRefusedIncremental rest) c.in_err-read_messages.field-0.0) (take_rest c.args.text.now 12) c.in_err-read_messages.ensures.refused in
    rw (p.1, p.2) (refused_packet c.args.text.now c.in_ok-header.header c.in_err-read_messages.field-0.0 c.in_ok-header.ensures.header c.in_ok-header.ensures.positive bad)
