use Rattle.std.proofs.lemmas.Result.{err_from_is_err_and}
use Rattle.mdp_sbe.specs.Group.IsRefusedGrouped.{at_group}
use Rattle.mdp_templates.proofs.layout.read_blocks.Goals as goal

pub returns-in_err-group-clause-refused : goal.returns-in_err-group-clause-refused
returns-in_err-group-clause-refused c =
    let p = err_from_is_err_and c.from_residual-in_err-group.result c.from_residual-in_err-group.ensures.1 in
    rw (p.1, p.2) (at_group c.in_ok-root.root.now c.in_ok-root.rest.now c.in_ok-root.ensures.ok c.in_err-group.ensures.err)
