use Rattle.std.proofs.Common.{◌<◌, List, length, refl, ap, arith, subst, ◌∙◌}
use Rattle.std.proofs.lemmas.Bool.Decides.{nat_tests}
use Rattle.mdp_arbiter.specs.Channel.{ListedChannel}
use Rattle.mdp_templates.specs.declared.instrument.Instrument.{Instrument}
use Rattle.mdp_pipeline.specs.Streamed.{IsRunOrFirst, channel_with, setup_of}
use Rattle.mdp_pipeline.proofs.StreamedText.{ends_as_capture}
use Rattle.mdp_pipeline.proofs.streamed_lines.StreamedLines.into_ended.Goals as goal

pub returns-clause-ended : goal.returns-clause-ended
returns-clause-ended g c =
    let old = c.args.self in
    let there : 0 < length c.as_slice.result.now = grind (arith, nat_tests) in
    let some : 0 < length old.instruments = subst (λ (xs : List Instrument). 0 < length xs) c.as_slice.ensures.items there in
    ends_as_capture old (record { instruments = old.instruments; run = c.in_ok-run.run' }) refl some
    (λ least most.
    subst (λ (channel : ListedChannel). IsRunOrFirst channel old.run c.in_ok-run.run')
    (c.plan_over-plan.ensures.channel least most ∙ ap (λ (xs : List Instrument). channel_with xs (setup_of old.window old.start)) c.as_slice-2.ensures.items) c.in_ok-run.ensures)
