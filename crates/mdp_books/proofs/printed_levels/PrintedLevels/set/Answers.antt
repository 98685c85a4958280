use Rattle.std.proofs.Common.{suc, rules, arith, ap, sym, ◌≡◌, ◌∙◌, ◌∷◌, [], ◌≤◌, ◌<◌, ◌+◌, ◌-◌, ◌*◌, ◌++◌, take, drop, length, map, get_or}
use Rattle.std.proofs.lemmas.List.{take-append-drop, at_drop_more}
use Rattle.mdp_books.specs.Levels.{quote_text}
use Rattle.mdp_books.proofs.Ends.{begins, moved, can_move}
use Rattle.mdp_books.proofs.Printed.{within, has_room, count_of_ends, end_is, ends_behind, put_alone}
use Rattle.mdp_books.proofs.Printed.{one_is_short, set_between, GaveWay, printed_again}
use Rattle.mdp_books.proofs.printed_levels.PrintedLevels.set.Goals as goal

pub splice-requires : goal.splice-requires
splice-requires g c =
    let xs = c.self.inside.levels.items in
    let at = c.args.at in
    let piece = c.as_slice-2.result.now in
    let inside : at + 1 ≤ length xs = omega (arith, ap length c.self.view_is, c.requires) in
    let left : at + 1 + (length xs - (at + 1)) ≤ g.row.CAPACITY = omega (arith, inside, c.self.invariant.few) in
    let short : length piece ≤ 44 * 1 =
    omega (arith, ap length c.as_slice-2.ensures, ap length c.new-text.ensures, c.put_quote.ensures.size) in
    let bounds = within c.self.invariant at (at + 1) (omega arith) inside in
    let room = has_room c.self.invariant at (at + 1) 1 piece (omega arith) inside short left in
    let start : c.start_of-start.result ≡ begins at xs = c.start_of-start.ensures.value ∙ sym (ap (begins at) c.self.view_is) in
    let end : c.start_of-end.result ≡ begins (at + 1) xs = c.start_of-end.ensures.value ∙ sym (ap (begins (at + 1)) c.self.view_is) in
    rw (start, end) (search rules, (bounds.order, (bounds.inside, room)))

pub overflow_sub-end : goal.overflow_sub-end
overflow_sub-end g c =
    let at = c.args.at in
    let bounds = within c.self.invariant at (at + 1) (omega arith) (omega (arith, ap length c.self.view_is, c.requires)) in
    let first = ap (begins at) c.self.view_is in
    let last = ap (begins (at + 1)) c.self.view_is in
    omega (arith, c.start_of-start.ensures.value, c.start_of-end.ensures.value, bounds.order, first, last)

pub move_ends-requires : goal.move_ends-requires
move_ends-requires g c =
    let ends = c.self.inside.ends.items in
    let at = c.args.at in
    let first = begins (at + 1) c.self.inside.levels.items in
    let less = c.start_of-end.result - c.start_of-start.result in
    let size = length c.as_slice.result.now in
    let inside : at ≤ length ends = omega (arith, count_of_ends c.self.invariant, ap length c.self.view_is, c.requires) in
    let bounds = ends_behind c.self.invariant (at + 1) at (omega arith) in
    let low : less ≤ first = omega (arith, c.start_of-end.ensures.value, ap (begins (at + 1)) c.self.view_is) in
    let short : size ≤ 44 = omega (arith, ap length c.as_slice.ensures, ap length c.new-text.ensures, c.put_quote.ensures.size) in
    let can = can_move at less size ends (drop at ends) ends inside (sym (take-append-drop at ends)) first bounds low short in
    (search rules, (can.inside, (can.enough, can.room)))

pub invariant_of-self : goal.invariant_of-self
invariant_of-self g c =
    let xs = c.self.inside.levels.items in
    let ends = c.self.inside.ends.items in
    let at = c.args.at in
    let x = c.args.level in
    let piece = c.as_slice-2.result.now in
    let size = length c.as_slice.result.now in
    let less = c.start_of-end.result - c.start_of-start.result in
    let moves = c.move_ends.new.ends.items in
    let inside : at + 1 ≤ length xs = omega (arith, ap length c.self.view_is, c.requires) in
    let left : at + 1 + (length xs - (at + 1)) ≤ g.row.CAPACITY = omega (arith, inside, c.self.invariant.few) in
    let lies : at < length ends = omega (arith, count_of_ends c.self.invariant, inside) in
    let bounds = within c.self.invariant at (at + 1) (omega arith) inside in
    let start : c.start_of-start.result ≡ begins at xs = c.start_of-start.ensures.value ∙ sym (ap (begins at) c.self.view_is) in
    let end : c.start_of-end.result ≡ begins (at + 1) xs = c.start_of-end.ensures.value ∙ sym (ap (begins (at + 1)) c.self.view_is) in
    let next : suc at ≡ at + 1 = omega arith in
    let put : c.put_quote.new.self ≡ quote_text x.price x.size ++ c.new-text.result = search rules in
    let printed = put_alone x c.new-text.result c.put_quote.new.self c.new-text.ensures put c.put_quote.ensures.size in
    let long : size ≡ length (quote_text x.price x.size) = ap length (c.as_slice.ensures ∙ printed.only) in
    let was = end_is c.self.invariant at 0 (omega (arith, inside)) in
    let new_end : moved less size (get_or ends at 0) ≡ begins at xs + length (quote_text x.price x.size) =
    omega (arith, was, start, end, long, bounds.order) in
    let next_levels = c.put_at.new.items.items in
    let edit : GaveWay at (at + 1) less size xs (x ∷ []) next_levels ends moves c.self.inside.text piece c.splice.new.self = record {
      levels = c.put_at.ensures ∙ set_between xs at x (omega arith) ∙ ap (λ k. take at xs ++ (x ∷ drop k xs)) next;
      gone = omega (arith, start, end, bounds.order);
      come = omega (arith, long, ap length (c.as_slice-2.ensures ∙ printed.only));
      ended = c.move_ends.ensures ∙ at_drop_more (λ es. take at ends ++ map (moved less size) es) ends at 0 lies
          ∙ ap (λ e. take at ends ++ (e ∷ map (moved less size) (drop (at + 1) ends))) new_end;
      bytes = rw (← start, ← end) c.splice.ensures;
      says = c.as_slice-2.ensures ∙ printed.says;
      short = one_is_short x printed.short;
    } in
    printed_again c.self.invariant edit (omega arith) inside left
