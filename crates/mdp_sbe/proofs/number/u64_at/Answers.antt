use Rattle.std.proofs.Common.{◌∙◌}
use Rattle.mdp_sbe.proofs.Numbers.{number_at-rest}
use Rattle.mdp_sbe.proofs.number.u64_at.Goals as goal

pub returns : goal.returns
returns c = c.read_u64.ensures ∙ number_at-rest c.args.offset 8 c.args.text.now
