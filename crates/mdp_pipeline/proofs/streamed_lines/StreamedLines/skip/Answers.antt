use Rattle.std.proofs.Common.{refl}
use Rattle.mdp_pipeline.proofs.LinesBehind.{skipped_taken}
use Rattle.mdp_pipeline.proofs.streamed_lines.StreamedLines.skip.Goals as goal

pub returns-clause-taken : goal.returns-clause-taken
returns-clause-taken g c = skipped_taken c.args.self.now (record c.args.self.now { notes = c.push.new.self }) c.args.skip refl c.in_ok-push.ensures.items
