use Rattle.std.proofs.Common.{sym, subst}
use Rattle.mdp_capture.specs.Parsed.{ListsDepth, fields_left}
use Rattle.mdp_capture.proofs.Depths.{instrument_of_fits}
use Rattle.mdp_capture.proofs.line.line_of.Goals as goal

pub returns-then-is_letter-clause-depth : goal.returns-then-is_letter-clause-depth
returns-then-is_letter-clause-depth g c = subst ListsDepth (sym c.listing_of.ensures) (instrument_of_fits (fields_left c.next_field.result.1))
