use Rattle.std.proofs.Common.{sym}
use Rattle.mdp_capture.proofs.Fields.{fields_some, closing_of_more}
use Rattle.mdp_capture.proofs.line.closing_of.Goals as goal

pub returns-in-Some : goal.returns-in-Some
returns-in-Some g c = rw c.in-Some.is (sym (closing_of_more _ (fields_some c.in-Some.field-0.now)))
