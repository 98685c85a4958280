use Rattle.std.proofs.Common.{arith, refl, ap, ◌+◌, ◌-◌, ◌≤◌, length, length-take-le}
use Rattle.std.proofs.lemmas.Slice.{put_mid-paste}
use Rattle.mdp_books.proofs.Pieces.{two_copies}
use Rattle.mdp_books.proofs.text.Text.splice.Goals as goal

pub returns : goal.returns
returns g c =
    let from = c.args.from in
    let end = c.self.inside.end in
    let buffer = c.self.inside.bytes in
    let piece = c.args.piece.now in
    let whole : end ≤ length buffer = omega (arith, c.self.told, c.self.invariant) in
    let first = length-take-le end buffer whole in
    let same = ap length c.self.view_is in
    let inside : c.args.to ≤ end = omega (arith, first, same, c.requires.inside) in
    let room : end + length piece ≤ length buffer + (c.args.to - from) = omega (arith, first, same, c.self.told, c.requires.room) in
    let all = c.move_part.new.all in
    let written = c.copy_from_slice.ensures.after in
    let size = length piece in
    let pasted = put_mid-paste from (from + size - from) all c.copy_from_slice.new.self piece size written (omega arith) refl in
    rw (← c.self.view_is) (two_copies buffer all _ piece from c.args.to end c.requires.order inside whole room c.move_part.ensures pasted)
