use Rattle.std.proofs.Common.{List, ap, ◌∙◌}
use Rattle.mdp_templates.specs.declared.instrument.Instrument.{Instrument}
use Rattle.mdp_capture.specs.Capture.{has_legs}
use Rattle.mdp_capture.proofs.Fit.{tells_legs}
use Rattle.mdp_capture.proofs.instrument_list.InstrumentList.has_its_legs.Goals as goal

pub returns : goal.returns
returns g c =
    let kind = c.args.instrument.now.kind in
    tells_legs c.has_legs.result c.as_slice.result.now kind c.has_legs.ensures
    ∙ ap (λ (xs : List Instrument). has_legs xs kind) (c.as_slice.ensures.value ∙ c.self.view_is)
