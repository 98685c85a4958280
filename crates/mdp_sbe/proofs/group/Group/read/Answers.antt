use Rattle.std.proofs.Common.{arith, refl}
use Rattle.std.proofs.lemmas.List.{take_rest}
use Rattle.mdp_sbe.proofs.Pieces.{is_group}
use Rattle.mdp_sbe.proofs.group.Group.read.Goals as goal

pub returns-clause-ok : goal.returns-clause-ok
returns-clause-ok c = is_group c.args.rest.now c.args.least c.u16_at-entry_length.result _ _ (take_rest c.args.rest.now 3) (omega arith) c.u16_at-entry_length.ensures refl (λ some. omega arith) (omega arith)
