use Rattle.std.proofs.Common.{◌≡◌, List, None, sym, ap, ◌∙◌}
use Rattle.mdp_templates.specs.declared.instrument.Instrument.{Instrument}
use Rattle.mdp_capture.specs.Capture.{refusal_after}
use Rattle.mdp_capture.proofs.Accepted.{none_found}
use Rattle.mdp_capture.proofs.Fit.{one_more}
use Rattle.mdp_capture.proofs.instrument_list.InstrumentList.add.Goals as goal

pub invariant_of-self-2 : goal.invariant_of-self-2
invariant_of-self-2 g c =
    let listed = c.self.inside.instruments.items in
    let instrument = c.args.instrument in
    let none = none_found c.refusal_of-refusal.result (sym c.is_some.ensures ∙ c.if-is_some.false) in
    let free : refusal_after listed instrument ≡ None = ap (λ (xs : List Instrument). refusal_after xs instrument) c.self.view_is ∙ sym c.refusal_of-refusal.ensures ∙ none in
    rw c.in_ok-push.ensures.items (one_more listed instrument c.requires free c.self.invariant)
