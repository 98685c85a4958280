use Rattle.std.proofs.Common.{◌≡◌, None, refl}
use Rattle.mdp_capture.specs.Capture.{refusal_after}
use Rattle.mdp_pipeline.proofs.LinesBehind.{listing_taken}
use Rattle.mdp_pipeline.proofs.streamed_lines.StreamedLines.list.Goals as goal

pub returns-in-None-clause-taken : goal.returns-in-None-clause-taken
returns-in-None-clause-taken g c =
    let old = c.args.self.now in
    let after : refusal_after old.instruments c.args.instrument ≡ None = rw (← c.in_ok-refusal.ensures.answer) c.in-None.is in
    listing_taken old (record old { instruments = c.add.new.self }) c.args.instrument c.if-self.false after refl c.in_ok-refusal.ensures.list
