use Rattle.std.proofs.Common.{◌∙◌, sym, arith}
use Rattle.mdp_arbiter.proofs.Passing.{free_passes}
use Rattle.mdp_arbiter.proofs.arbiter.Arbiter.pass_at_once.Goals as goal

pub returns-clause-passes : goal.returns-clause-passes
returns-clause-passes g c = λ passed es stands.
    free_passes es c.args.packet.now c.args.self.now c.pass_next.new.self stands (rw c.number.ensures at (sym c.is_free.ensures ∙ c.if-not-is_free.false))
    c.pass_next.ensures (omega (arith, c.number.ensures, c.number.type_inv))
