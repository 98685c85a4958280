use Rattle.std.proofs.Common.{suc, rules, arith, ap, sym, ◌≡◌, ◌∙◌, [], ◌≤◌, ◌+◌, ◌-◌, ◌++◌, take, drop, length, refl}
use Rattle.mdp_books.proofs.Ends.{begins, can_move, moved_behind}
use Rattle.mdp_books.proofs.Printed.{within, has_room, count_of_ends, ends_behind, none_is_long, GaveWay, printed_again}
use Rattle.mdp_books.proofs.printed_levels.PrintedLevels.remove.Goals as goal

pub splice-requires : goal.splice-requires
splice-requires g c =
    let xs = c.self.inside.levels.items in
    let at = c.args.at in
    let inside : at + 1 ≤ length xs = omega (arith, ap length c.self.view_is, c.requires) in
    let left : at + 0 + (length xs - (at + 1)) ≤ g.row.CAPACITY = omega (arith, inside, c.self.invariant.few) in
    let bounds = within c.self.invariant at (at + 1) (omega arith) inside in
    let room = has_room c.self.invariant at (at + 1) 0 [] (omega arith) inside (omega arith) left in
    let start : c.start_of-start.result ≡ begins at xs = c.start_of-start.ensures.value ∙ sym (ap (begins at) c.self.view_is) in
    let end : c.start_of-end.result ≡ begins (at + 1) xs = c.start_of-end.ensures.value ∙ sym (ap (begins (at + 1)) c.self.view_is) in
    rw (start, end) (search rules, (bounds.order, (bounds.inside, room)))

pub remove-requires : goal.remove-requires
remove-requires g c = (search rules, omega (arith, count_of_ends c.self.invariant, ap length c.self.view_is, c.requires))

pub overflow_sub-end : goal.overflow_sub-end
overflow_sub-end g c =
    let at = c.args.at in
    let bounds = within c.self.invariant at (at + 1) (omega arith) (omega (arith, ap length c.self.view_is, c.requires)) in
    let first = ap (begins at) c.self.view_is in
    let last = ap (begins (at + 1)) c.self.view_is in
    omega (arith, c.start_of-start.ensures.value, c.start_of-end.ensures.value, bounds.order, first, last)

pub move_ends-requires : goal.move_ends-requires
move_ends-requires g c =
    let ends = c.self.inside.ends.items in
    let at = c.args.at in
    let first = begins (at + 1) c.self.inside.levels.items in
    let less = c.start_of-end.result - c.start_of-start.result in
    let inside : at ≤ length ends = omega (arith, count_of_ends c.self.invariant, ap length c.self.view_is, c.requires) in
    let bounds = ends_behind c.self.invariant (at + 1) (at + 1) (omega arith) in
    let low : less ≤ first = omega (arith, c.start_of-end.ensures.value, ap (begins (at + 1)) c.self.view_is) in
    let next : suc at ≡ at + 1 = omega arith in
    let gone = c.remove.ensures.items ∙ ap (λ k. take at ends ++ drop k ends) next in
    let can = can_move at less 0 ends (drop (at + 1) ends) c.remove.new.self.items inside gone first bounds low (omega arith) in
    (search rules, (can.inside, (can.enough, can.room)))

pub invariant_of-self : goal.invariant_of-self
invariant_of-self g c =
    let xs = c.self.inside.levels.items in
    let ends = c.self.inside.ends.items in
    let at = c.args.at in
    let less = c.start_of-end.result - c.start_of-start.result in
    let moves = c.move_ends.new.ends.items in
    let inside : at + 1 ≤ length xs = omega (arith, ap length c.self.view_is, c.requires) in
    let left : at + 0 + (length xs - (at + 1)) ≤ g.row.CAPACITY = omega (arith, inside, c.self.invariant.few) in
    let lies : at ≤ length ends = omega (arith, count_of_ends c.self.invariant, inside) in
    let bounds = within c.self.invariant at (at + 1) (omega arith) inside in
    let start : c.start_of-start.result ≡ begins at xs = c.start_of-start.ensures.value ∙ sym (ap (begins at) c.self.view_is) in
    let end : c.start_of-end.result ≡ begins (at + 1) xs = c.start_of-end.ensures.value ∙ sym (ap (begins (at + 1)) c.self.view_is) in
    let next : suc at ≡ at + 1 = omega arith in
    let gone = c.remove.ensures.items ∙ ap (λ k. take at ends ++ drop k ends) next in
    let edit : GaveWay at (at + 1) less 0 xs [] c.remove-2.new.self.items ends moves c.self.inside.text [] c.splice.new.self = record {
      levels = c.remove-2.ensures.items ∙ ap (λ k. take at xs ++ drop k xs) next;
      gone = omega (arith, start, end, bounds.order);
      come = refl;
      ended = moved_behind at less 0 ends (drop (at + 1) ends) c.remove.new.self.items lies gone moves c.move_ends.ensures;
      bytes = rw (← start, ← end) c.splice.ensures;
      says = refl;
      short = none_is_long;
    } in
    printed_again c.self.invariant edit (omega arith) inside left
