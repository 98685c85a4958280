use Rattle.std.proofs.Common.{refl}
use Rattle.mdp_pipeline.proofs.LinesBehind.{cleared}
use Rattle.mdp_pipeline.proofs.streamed_lines.StreamedLines.clear.Goals as goal

pub returns : goal.returns
returns g c =
    let old = c.args.self.now in
    cleared old (record old { run = c.clear_text.new.run; notes = c.clear.new.self }) (record { but_run = refl; no_notes = c.clear.ensures.items }) c.clear_text.ensures
