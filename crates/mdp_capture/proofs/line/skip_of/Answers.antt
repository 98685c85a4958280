use Rattle.mdp_capture.proofs.Spelling.{bad_digits, two_fields}
use Rattle.mdp_capture.proofs.line.skip_of.Goals as goal

pub returns-in-Some : goal.returns-in-Some
returns-in-Some c = λ bad. two_fields c.args.digits.now c.in-Some.field-0 c.in-Some.ensures

pub returns-in-None : goal.returns-in-None
returns-in-None c = bad_digits c.args.digits.now c.in-None.ensures
