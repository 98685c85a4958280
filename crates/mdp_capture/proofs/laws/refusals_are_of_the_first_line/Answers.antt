use Rattle.mdp_capture.proofs.Refusals.{refused_by_lines, refused_in_reading}
use Rattle.mdp_capture.proofs.laws.refusals_are_of_the_first_line.Goals as goal

pub returns : goal.returns
returns c = λ text refused. (refused_by_lines text refused, refused_in_reading text refused)
