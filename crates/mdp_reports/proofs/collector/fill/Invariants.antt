use Rattle.std.proofs.Common.{◌≡◌, map, take}
use Rattle.mdp_reports.specs.FromAnswers.{told_in_answer}
use Rattle.mdp_reports.specs.Contents.{told_at}
use Rattle.mdp_reports.proofs.collector.fill.Given as goal

abbrev pub invariant-loop-answer : goal.invariant-loop-answer
invariant-loop-answer g l = l.left.items ≡ map (told_at l.n) (map told_in_answer (take l.answer-index l.round))
