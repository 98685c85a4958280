use Rattle.std.proofs.Common.{◌<◌, arith}
use Rattle.std.proofs.lemmas.Bool.Decides.{nat_tests}
use Rattle.mdp_engine.proofs.Repeating.{old_stands}
use Rattle.mdp_engine.proofs.engine.Engine.is_past.Goals as goal

pub returns-clause-stands : goal.returns-clause-stands
returns-clause-stands g c = λ past listed es gone packet is stands.
    let old : packet.number < c.args.self.now.arbiter.next = grind (arith, nat_tests, past, is, c.from.ensures, c.next.ensures.next) in
    old_stands listed es gone packet c.args.self.now old stands
