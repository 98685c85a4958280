use Rattle.std.proofs.Common.{◌<◌, sym, arith, ◌+◌, take}
use Rattle.mdp_capture.specs.Line.{decimal}
use Rattle.mdp_capture.proofs.Numbers.{number_too_large, one_digit_more}
use Rattle.mdp_capture.proofs.field.number_of.Goals as goal

pub returns-then-number-most-clause-is : goal.returns-then-number-most-clause-is
returns-then-number-most-clause-is c =
    let n = c.loop-digit.digit-index in
    let large : c.args.most < decimal (take (n + 1) c.args.field.now) = omega (arith, one_digit_more c.args.field.now n c.loop-digit-test.true) in
    sym (number_too_large c.args.most c.args.field.now (n + 1) large)
