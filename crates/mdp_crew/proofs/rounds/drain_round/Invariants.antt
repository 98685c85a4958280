use Rattle.std.proofs.Common.{◌≡◌, List, length}
use Rattle.mdp_reports.specs.declared.answer.Answer.{Answer}
use Rattle.mdp_crew.specs.TakenRounds.{all_took, lasts}
use Rattle.mdp_crew.proofs.rounds.drain_round.Given as goal

abbrev pub invariant-loop-n : goal.invariant-loop-n
invariant-loop-n g l = (more : List (List (Answer g.row.A.Denot))) × (length more ≡ l.n) × (l.posts ≡ all_took l.fn.posts more) × (l.round ≡ lasts l.fn.round more)
