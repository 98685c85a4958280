use Rattle.std.proofs.Common.{arith, ap, ◌+◌, length, length-append, decimal, refl}
use Rattle.std.proofs.lemmas.Fmt.{length-decimal-le}
use Rattle.std.proofs.lemmas.List.{length-drop}
use Rattle.mdp_books.proofs.Decimals.{padded_by, left_of}
use Rattle.mdp_books.proofs.short_text.TextFromEnd.put_small.Goals as goal

pub write_digits-one-requires : goal.write_digits-one-requires
write_digits-one-requires g c =
    let p = padded_by c.args.number _ _ _ c.requires.below refl refl refl in
    let left = length-drop c.self.inside.start c.self.inside.bytes in
    (omega (arith, p.five, ap length c.self.view_is), omega arith)

pub invariant_of-self : goal.invariant_of-self
invariant_of-self g c =
    let p = padded_by c.args.number c.from.result c.from-2.result c.from-3.result c.requires.below c.from.ensures c.from-2.ensures c.from-3.ensures in
    omega (arith, p.few, p.five, c.write_digits-one.ensures.start)

pub returns-clause-text : goal.returns-clause-text
returns-clause-text g c =
    let p = padded_by c.args.number c.from.result c.from-2.result c.from-3.result c.requires.below c.from.ensures c.from-2.ensures c.from-3.ensures in
    left_of c.args.number (c.from.result + c.from-2.result + c.from-3.result) c.write_digits-one.result c.self.inside.start c.self.inside.bytes c.write_digits-one.new.buf c.args.self.now p c.write_digits-one.ensures.written c.self.view_is

pub returns-clause-size : goal.returns-clause-size
returns-clause-size g c =
    let short = length-decimal-le 4 c.args.number (omega arith) (omega arith) c.ranges.number.fits in
    omega (arith, short, ap length (returns-clause-text g c), length-append (decimal c.args.number) c.args.self.now)
