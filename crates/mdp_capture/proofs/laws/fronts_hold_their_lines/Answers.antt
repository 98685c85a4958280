use Rattle.mdp_capture.proofs.Refusals.{front_holds, wholes}
use Rattle.mdp_capture.proofs.laws.fronts_hold_their_lines.Goals as goal

pub returns-clause-lines : goal.returns-clause-lines
returns-clause-lines c = front_holds

pub returns-clause-whole : goal.returns-clause-whole
returns-clause-whole c = wholes
