use Rattle.std.proofs.Common.{true, refl}
use Rattle.mdp_pipeline.proofs.LinesBehind.{begins_run}
use Rattle.mdp_pipeline.proofs.streamed_lines.StreamedLines.begin.Goals as goal

pub returns-clause-begins : goal.returns-clause-begins
returns-clause-begins g c = begins_run c.args.self.now (record c.args.self.now { run = c.in_ok-run.run'; has_record = true }) c.if-self.false refl c.in_ok-run.ensures
