use Rattle.std.proofs.Common.{◌≡◌, ◌++◌, map}
use Rattle.mdp_reports.specs.Rounds.{text_from}
use Rattle.mdp_reports.specs.FromAnswers.{told_in_answer}
use Rattle.mdp_reports.specs.BoardSteps.{steps_in}
use Rattle.mdp_reports.specs.Taking.{rounds_left, kept_after_rounds}
use Rattle.mdp_reports.proofs.collector.Collector.take.Given as goal

-- what is made of the rounds that are left is what is made of all
abbrev pub invariant-loop-n : goal.invariant-loop-n
invariant-loop-n g l = record {
  listed : l.self.listed ≡ l.initial.self.listed;
  text : l.out.items ++ text_from l.self.listed l.self.kept (rounds_left l.n (map told_in_answer l.round)) ≡ l.initial.out.items ++ text_from l.initial.self.listed l.initial.self.kept (rounds_left 0 (map told_in_answer l.round));
  steps : l.steps ++ steps_in (rounds_left l.n (map told_in_answer l.round)) ≡ l.initial.steps ++ steps_in (rounds_left 0 (map told_in_answer l.round));
  kept : kept_after_rounds l.self.kept (rounds_left l.n (map told_in_answer l.round)) ≡ kept_after_rounds l.initial.self.kept (rounds_left 0 (map told_in_answer l.round));
}
