use Rattle.std.proofs.Common.{List, [], false, refl, subst}
use Rattle.mdp_templates.specs.declared.instrument.Instrument.{Instrument}
use Rattle.mdp_pipeline.specs.Running.{HasRun}
use Rattle.mdp_pipeline.specs.Streamed.{channel_with, setup_of}
use Rattle.mdp_recording.specs.Frames.{beside}
use Rattle.mdp_recording.proofs.Recording.{follows_none, holds_none, none_held}
use Rattle.mdp_recording.proofs.run.RecordedRun.new.Goals as goal

pub returns-clause-before : goal.returns-clause-before
returns-clause-before g c =
    let setup = setup_of c.args.window c.args.start in
    let channel = channel_with c.args.instruments setup in
    let has : HasRun channel [] [] c.in_ok-run.run' = subst (λ (xs : List Instrument). HasRun (channel_with xs setup) [] [] c.in_ok-run.run') c.as_slice.ensures.items c.in_ok-run.ensures.run in
    follows_none channel c.args.addresses _ refl c.requires.listed (holds_none (beside channel c.args.addresses [] []) _ refl has refl refl c.new-3.ensures.items) c.new-2.ensures

pub returns-clause-idle : goal.returns-clause-idle
returns-clause-idle g c =
    let setup = setup_of c.args.window c.args.start in
    let channel = channel_with c.args.instruments setup in
    let has : HasRun channel [] [] c.in_ok-run.run' = subst (λ (xs : List Instrument). HasRun (channel_with xs setup) [] [] c.in_ok-run.run') c.as_slice.ensures.items c.in_ok-run.ensures.run in
    none_held channel c.args.addresses [] []
    (record { alloc = c.args.alloc; addresses = c.args.addresses; run = c.in_ok-run.run'; notes = c.new-3.result; has_cut = false }) c.requires.listed
    (holds_none (beside channel c.args.addresses [] []) _ refl has refl refl c.new-3.ensures.items)
