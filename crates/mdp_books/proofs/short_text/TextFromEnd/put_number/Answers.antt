use Rattle.std.proofs.Common.{arith, ap, length, length-append, decimal, drop, ◌∙◌}
use Rattle.std.proofs.lemmas.Fmt.{length-decimal-le}
use Rattle.std.proofs.lemmas.List.{length-drop}
use Rattle.mdp_books.proofs.short_text.TextFromEnd.put_number.Goals as goal

pub write_digits-self-inside-requires : goal.write_digits-self-inside-requires
write_digits-self-inside-requires g c =
    let short = length-decimal-le 20 c.args.number (omega arith) (omega arith) c.ranges.number.fits in
    let left = length-drop c.self.inside.start c.self.inside.bytes in
    (omega (arith, ap length c.self.view_is), omega arith)

pub returns-else-number-lt10000-clause-size : goal.returns-else-number-lt10000-clause-size
returns-else-number-lt10000-clause-size g c =
    let short = length-decimal-le 20 c.args.number (omega arith) (omega arith) c.ranges.number.fits in
    let more = ap length c.write_digits-self-inside.ensures.written ∙ length-append (decimal c.args.number) (drop c.self.inside.start c.self.inside.bytes) in
    omega (arith, ap length c.self.view_is)
