use Rattle.std.proofs.Common.{rules, arith, ap, sym, ◌≡◌, ◌∙◌, ◌≤◌, length}
use Rattle.mdp_books.proofs.Ends.{begins}
use Rattle.mdp_books.proofs.Printed.{within, part_is}
use Rattle.mdp_books.proofs.printed_levels.PrintedLevels.text_of.Goals as goal

pub part-requires : goal.part-requires
part-requires g c =
    let xs = c.self.inside.levels.items in
    let from = c.args.from in
    let to = c.args.to in
    let inside : to ≤ length xs = omega (arith, ap length c.self.view_is, c.requires.inside) in
    let bounds = within c.self.invariant from to c.requires.order inside in
    let start : c.start_of-start.result ≡ begins from xs = c.start_of-start.ensures.value ∙ sym (ap (begins from) c.self.view_is) in
    let end : c.start_of-end.result ≡ begins to xs = c.start_of-end.ensures.value ∙ sym (ap (begins to) c.self.view_is) in
    rw (start, end) (search rules, (bounds.order, bounds.inside))

pub returns : goal.returns
returns g c =
    let xs = c.self.inside.levels.items in
    let from = c.args.from in
    let to = c.args.to in
    let inside : to ≤ length xs = omega (arith, ap length c.self.view_is, c.requires.inside) in
    let start : c.start_of-start.result ≡ begins from xs = c.start_of-start.ensures.value ∙ sym (ap (begins from) c.self.view_is) in
    let end : c.start_of-end.result ≡ begins to xs = c.start_of-end.ensures.value ∙ sym (ap (begins to) c.self.view_is) in
    rw (← c.self.view_is, c.part.ensures, start, end) (part_is c.self.invariant from to c.requires.order inside)
