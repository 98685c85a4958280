use Rattle.std.proofs.Common.{arith, [], ◌∷◌, ◌++◌, ◌+◌, ◌≤◌, ◌∙◌, ap, append_assoc, length, length-append}
use Rattle.std.proofs.lemmas.Result.{err_from_is_err_and}
use Rattle.mdp_print.specs.Texts.{sides_line}
use Rattle.mdp_print.proofs.Fronts.{begins_less}
use Rattle.mdp_print.proofs.book_lines.put_sides.Goals as goal

pub returns-in_err-put_offers_letter : goal.returns-in_err-put_offers_letter
returns-in_err-put_offers_letter g c =
    let before = c.args.out.now.items in
    let head = c.args.letter ∷ c.args.head.now in
    let first = c.in_ok-put_head.ensures in
    let second = c.in_ok-put.ensures in
    let third = c.in_err-put_offers_letter.ensures in
    let now = second.ok ∙ ap (λ ys. ys ++ c.args.bids.now) first.ok ∙ append_assoc before head c.args.bids.now in
    let front = head ++ c.args.bids.now in
    let long : length front + 2 ≤ length (sides_line (c.args.letter ∷ []) c.args.head.now c.args.bids.now c.args.offers.now) = grind (arith, length-append) in
    let fault = err_from_is_err_and c.from_residual-in_err-put_offers_letter.result c.from_residual-in_err-put_offers_letter.ensures.1 in
    rw fault.1 (record {
      ok = tt;
      err = begins_less before front c.put.new.out.items _ now third.err;
      len = tt;
      room = omega (arith, third.room, second.room, first.room);
      full = omega (arith, third.full, second.len, second.room, first.len, first.room, long, length-append head c.args.bids.now);
    })
