use Rattle.mdp_templates.proofs.OneAnswer.{one_packet, one_datagram}
use Rattle.mdp_templates.proofs.laws.one_answer.Goals as goal

pub returns-clause-incremental : goal.returns-clause-incremental
returns-clause-incremental c = one_packet

pub returns-clause-recovery : goal.returns-clause-recovery
returns-clause-recovery c = one_datagram
