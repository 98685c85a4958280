use Rattle.std.proofs.Common.{refl}
use Rattle.mdp_pipeline.specs.Streamed.{setup_of}
use Rattle.mdp_pipeline.proofs.LinesBehind.{before_all}
use Rattle.mdp_pipeline.proofs.streamed_lines.StreamedLines.new.Goals as goal

pub returns : goal.returns
returns g c = before_all (setup_of c.args.window c.args.start) _ c.requires.some c.requires.most refl refl refl c.new.ensures refl refl c.new-3.ensures.items
