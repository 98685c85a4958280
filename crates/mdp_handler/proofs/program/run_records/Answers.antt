use Rattle.std.proofs.Common.{◌≡◌, false, rules}
use Rattle.mdp_pipeline.specs.Output.{standing_in}
use Rattle.mdp_pipeline.proofs.Joining.{map_err, map_ok}
use Rattle.mdp_handler.proofs.Printing.{lines_begun, lines_printed, merge_begun, merge_printed}
use Rattle.mdp_handler.proofs.program.run_records.Goals as goal

pub returns-clause-printed : goal.returns-clause-printed
returns-clause-printed g c =
    let threads : c.args.settings.in_order ≡ false = search rules in
    map_ok c.run.result _ _
    (λ summary is. merge_printed c.args.capture.now c.args.settings (g.O.CountedWrite.taken c.args.output.now) (g.O.CountedWrite.taken c.run.new.writer) _ _ c.instruments.ensures c.of-feeds.ensures (standing_in summary) threads is)
    c.run.ensures.text

pub returns-clause-begun : goal.returns-clause-begun
returns-clause-begun g c =
    let threads : c.args.settings.in_order ≡ false = search rules in
    map_err c.run.result _ _
    (λ _ is. merge_begun c.args.capture.now c.args.settings (g.O.CountedWrite.taken c.args.output.now) (g.O.CountedWrite.taken c.run.new.writer) _ _ c.instruments.ensures c.of-feeds.ensures threads is)
    c.run.ensures.begins

pub returns-then-settings-clause-printed : goal.returns-then-settings-clause-printed
returns-then-settings-clause-printed g c =
    map_ok c.run_in_order.result _ _
    (λ summary is. lines_printed c.args.capture.now c.args.settings (g.O.CountedWrite.taken c.args.output.now) (g.O.CountedWrite.taken c.run_in_order.new.writer) _ _ c.instruments.ensures c.of-feeds.ensures (standing_in summary) is)
    c.run_in_order.ensures.text

pub returns-then-settings-clause-begun : goal.returns-then-settings-clause-begun
returns-then-settings-clause-begun g c =
    map_err c.run_in_order.result _ _
    (λ _ is. lines_begun c.args.capture.now c.args.settings (g.O.CountedWrite.taken c.args.output.now) (g.O.CountedWrite.taken c.run_in_order.new.writer) _ _ c.instruments.ensures c.of-feeds.ensures is)
    c.run_in_order.ensures.begins
