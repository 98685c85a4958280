use Rattle.mdp_capture.proofs.Bringing.{holds_its_lines}
use Rattle.mdp_capture.proofs.Holding.{is_not_refused}
use Rattle.mdp_capture.proofs.laws.captures_hold_their_lines.Goals as goal

pub returns : goal.returns
returns c = λ text capture. (holds_its_lines text capture, is_not_refused text capture)
