use Rattle.std.proofs.Common.{◌≡◌, ◌<◌, ◌≤◌, length, arith}
use Rattle.std.proofs.lemmas.Bool.Decides.{nat_tests}
use Rattle.mdp_capture.proofs.Spelling.{no_digits, spells, too_long}
use Rattle.mdp_capture.proofs.line.bytes_of.Goals as goal

pub returns-in-Ok : goal.returns-in-Ok
returns-in-Ok g c =
    let bytes = c.in-Ok.bytes.items in
    let none : length bytes ≡ 0 = grind (arith, nat_tests) in
    no_digits c.args.digits.now bytes c.in-Ok.ensures.ok none

pub returns-in-Ok-2 : goal.returns-in-Ok-2
returns-in-Ok-2 g c =
    let bytes = c.in-Ok.bytes.items in
    let some : 0 < length bytes = grind (arith, nat_tests) in
    let short : length bytes ≤ 2048 = grind (arith, nat_tests) in
    spells c.args.digits.now bytes c.in-Ok.ensures.ok some short

pub returns-in-Ok-3 : goal.returns-in-Ok-3
returns-in-Ok-3 g c =
    let bytes = c.in-Ok.bytes.items in
    let long : 2048 < length bytes = grind (arith, nat_tests) in
    too_long c.args.digits.now bytes c.in-Ok.ensures.ok long
