use Rattle.std.proofs.Common.{◌≡◌, rules, ℕ, List, subst}
use Rattle.std.proofs.lemmas.Result.{err_from_is_err_and}
use Rattle.mdp_books.specs.declared.book.Book.TheVariants.{Good}
use Rattle.mdp_print.specs.Pieces.{BreaksOff}
use Rattle.mdp_print.proofs.Fronts.{breaks_late, breaks_nowhere}
use Rattle.mdp_desks.specs.Lines.{sides_lines}
use Rattle.mdp_desks.proofs.lines.put_book.Goals as goal

pub returns-in_err-top-in-Good-clause-err : goal.returns-in_err-top-in-Good-clause-err
returns-in_err-top-in-Good-clause-err g c =
    let before = c.args.out.now.items in
    let first = c.put_direct.new.out.items in
    let after = c.put_totals.new.out.items in
    let fault = err_from_is_err_and c.from_residual-in_err-top-in-Good.result c.from_residual-in_err-top-in-Good.ensures.1 in
    let live : c.args.live.now ≡ Good c.in-Good.sides = search rules in
    let behind = breaks_late _ _ first c.put_implied.new.out.items after c.in_ok-put_implied-in-Good.ensures.ok (breaks_nowhere _ c.put_implied.new.out.items after c.in_err-top-in-Good.ensures.err) in
    let off = breaks_late _ _ before first after c.in_ok-put_direct-in-Good.ensures.ok behind in
    rw (fault.1, live) (subst (λ (h : List ℕ). BreaksOff (sides_lines h c.in-Good.sides) before after) c.new-head.ensures off)
