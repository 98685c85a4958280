use Rattle.std.proofs.Common.{◌∙◌}
use Rattle.mdp_arbiter.proofs.Fates.{fate_stands}
use Rattle.mdp_arbiter.proofs.arbiter.Arbiter.fate_of_snapshot.Goals as goal

pub returns-clause-stands : goal.returns-clause-stands
returns-clause-stands g c = λ es stands. c.see_fate.ensures ∙ fate_stands es c.args.self.now c.args.snapshot.now stands
