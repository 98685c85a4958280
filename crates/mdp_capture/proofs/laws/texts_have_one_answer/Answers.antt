use Rattle.mdp_capture.proofs.Refusals.{one_answer}
use Rattle.mdp_capture.proofs.laws.texts_have_one_answer.Goals as goal

pub returns : goal.returns
returns c = one_answer
