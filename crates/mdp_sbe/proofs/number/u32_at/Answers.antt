use Rattle.std.proofs.Common.{◌∙◌}
use Rattle.mdp_sbe.proofs.Numbers.{number_at-rest}
use Rattle.mdp_sbe.proofs.number.u32_at.Goals as goal

pub returns : goal.returns
returns c = c.read_u32.ensures ∙ number_at-rest c.args.offset 4 c.args.text.now
