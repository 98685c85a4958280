use Rattle.std.proofs.Common.{refl}
use Rattle.mdp_templates.specs.Incremental.IsRefusedPacket.{number_zero}
use Rattle.mdp_templates.proofs.incremental.read_header.Goals as goal

pub returns-then-header-eq0-clause-refused : goal.returns-then-header-eq0-clause-refused
returns-then-header-eq0-clause-refused c = number_zero c.in_ok-header.header c.in_ok-header.ensures.ok c.if-header-eq0.true refl
