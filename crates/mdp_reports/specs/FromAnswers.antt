-- What a worker's answer tells.
use Rattle.std.specs.Prelude.{List, []}
use Rattle.mdp_desks.specs.Reports.{Report}
use Rattle.mdp_reports.specs.declared.answer.Answer.{Answer}
use Rattle.mdp_reports.specs.declared.answer.Answer.TheVariants.{Tells, Failed, Finished}

-- the reports of a batch; none of a worker that failed or has finished
abbrev pub told_in_answer : {A : Type 0} → Answer A → List Report
told_in_answer (Tells reports) = reports
told_in_answer Failed = []
told_in_answer Finished = []
