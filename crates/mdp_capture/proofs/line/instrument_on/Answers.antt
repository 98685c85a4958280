use Rattle.std.proofs.Common.{sym, subst}
use Rattle.std.specs.Prelude.{IfSome}
use Rattle.mdp_templates.specs.Instrument.{HasDepth}
use Rattle.mdp_capture.specs.Parsed.{fields_left}
use Rattle.mdp_capture.proofs.Depths.{described_fits}
use Rattle.mdp_capture.proofs.line.instrument_on.Goals as goal

pub returns-clause-depth : goal.returns-clause-depth
returns-clause-depth c = subst (λ found. IfSome found HasDepth) (sym c.instrument_of.ensures) (described_fits (fields_left c.next_field.result.1))
