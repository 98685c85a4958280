use Rattle.std.proofs.Common.{◌∙◌}
use Rattle.mdp_sbe.proofs.Numbers.{number_at-rest}
use Rattle.mdp_sbe.proofs.number.u16_at.Goals as goal

pub returns : goal.returns
returns c = c.read_u16.ensures ∙ number_at-rest c.args.offset 2 c.args.text.now
