use Rattle.std.proofs.Common.{◌≡◌, rules, subst, append-nil}
use Rattle.mdp_handler.specs.Faults.{Tells, output_line}
use Rattle.mdp_handler.proofs.faults.tell_output.Goals as goal

pub returns : goal.returns
unfolding output_line
returns g c =
    let text : c.as_slice.result.now ≡ output_line c.args.written = search (rules, append-nil) in
    subst (λ told. Tells g.F.CountedWrite.failed g.F.CountedWrite.taken c.args.faults.now c.tell.new.faults told) text c.tell.ensures
