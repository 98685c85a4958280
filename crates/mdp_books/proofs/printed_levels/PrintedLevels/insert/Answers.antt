use Rattle.std.proofs.Common.{rules, arith, ap, sym, ◌≡◌, ◌∙◌, ◌∷◌, [], ◌≤◌, ◌+◌, ◌-◌, ◌*◌, ◌++◌, take, drop, length, map}
use Rattle.std.proofs.lemmas.List.Elements.{All-cons}
use Rattle.mdp_books.specs.Levels.{quote_text}
use Rattle.mdp_books.proofs.Ends.{begins, moved, IsEndBehind, can_move, moved_behind}
use Rattle.mdp_books.proofs.Printed.{within, has_room, count_of_ends, ends_behind, put_alone, one_is_short, GaveWay, printed_again}
use Rattle.mdp_books.proofs.printed_levels.PrintedLevels.insert.Goals as goal

pub splice-requires : goal.splice-requires
splice-requires g c =
    let xs = c.self.inside.levels.items in
    let at = c.args.at in
    let piece = c.as_slice-2.result.now in
    let same = ap length c.self.view_is in
    let inside : at ≤ length xs = omega (arith, same, c.requires.inside) in
    let left : at + 1 + (length xs - at) ≤ g.row.CAPACITY = omega (arith, same, inside, c.requires.room) in
    let short : length piece ≤ 44 * 1 =
    omega (arith, ap length c.as_slice-2.ensures, ap length c.new-text.ensures, c.put_quote.ensures.size) in
    let bounds = within c.self.invariant at at (omega arith) inside in
    let room = has_room c.self.invariant at at 1 piece (omega arith) inside short left in
    let start : c.start_of-start.result ≡ begins at xs = c.start_of-start.ensures.value ∙ sym (ap (begins at) c.self.view_is) in
    rw start (search rules, (bounds.order, (bounds.inside, room)))

pub insert-requires : goal.insert-requires
insert-requires g c =
    let count = count_of_ends c.self.invariant in
    let same = ap length c.self.view_is in
    (search rules, (omega (arith, count, same, c.requires.inside), omega (arith, count, same, c.requires.room)))

pub move_ends-requires : goal.move_ends-requires
move_ends-requires g c =
    let ends = c.self.inside.ends.items in
    let at = c.args.at in
    let start = c.start_of-start.result in
    let size = length c.as_slice.result.now in
    let inside : at ≤ length ends = omega (arith, count_of_ends c.self.invariant, ap length c.self.view_is, c.requires.inside) in
    let first : IsEndBehind 0 start = record { low = omega arith; high = c.start_of-start.ensures.small } in
    let bounds = All-cons (IsEndBehind 0) start (drop at ends) first (ends_behind c.self.invariant 0 at (omega arith)) in
    let short : size ≤ 44 = omega (arith, ap length c.as_slice.ensures, ap length c.new-text.ensures, c.put_quote.ensures.size) in
    let changed = c.insert.new.self.items in
    let can = can_move at 0 size ends (start ∷ drop at ends) changed inside c.insert.ensures.items 0 bounds (omega arith) short in
    (search rules, (can.inside, (can.enough, can.room)))

pub invariant_of-self : goal.invariant_of-self
invariant_of-self g c =
    let xs = c.self.inside.levels.items in
    let ends = c.self.inside.ends.items in
    let at = c.args.at in
    let x = c.args.level in
    let size = length c.as_slice.result.now in
    let here = c.start_of-start.result in
    let moves = c.move_ends.new.ends.items in
    let same = ap length c.self.view_is in
    let inside : at ≤ length xs = omega (arith, same, c.requires.inside) in
    let lies : at ≤ length ends = omega (arith, count_of_ends c.self.invariant, inside) in
    let left : at + 1 + (length xs - at) ≤ g.row.CAPACITY = omega (arith, same, inside, c.requires.room) in
    let start : here ≡ begins at xs = c.start_of-start.ensures.value ∙ sym (ap (begins at) c.self.view_is) in
    let put : c.put_quote.new.self ≡ quote_text x.price x.size ++ c.new-text.result = search rules in
    let printed = put_alone x c.new-text.result c.put_quote.new.self c.new-text.ensures put c.put_quote.ensures.size in
    let long : size ≡ length (quote_text x.price x.size) = ap length (c.as_slice.ensures ∙ printed.only) in
    let end : moved 0 size here ≡ begins at xs + length (quote_text x.price x.size) = omega (arith, start, long) in
    let changed = c.insert.new.self.items in
    let behind = moved_behind at 0 size ends (here ∷ drop at ends) changed lies c.insert.ensures.items moves c.move_ends.ensures in
    let next = c.insert-2.new.self.items in
    let piece = c.as_slice-2.result.now in
    let edit : GaveWay at at 0 size xs (x ∷ []) next ends moves c.self.inside.text piece c.splice.new.self = record {
      levels = c.insert-2.ensures.items;
      gone = omega arith;
      come = omega (arith, long, ap length (c.as_slice-2.ensures ∙ printed.only));
      ended = behind ∙ ap (λ e. take at ends ++ (e ∷ map (moved 0 size) (drop at ends))) end;
      bytes = rw (← start) c.splice.ensures;
      says = c.as_slice-2.ensures ∙ printed.says;
      short = one_is_short x printed.short;
    } in
    printed_again c.self.invariant edit (omega arith) inside left
