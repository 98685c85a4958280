use Rattle.std.proofs.Common.{rules, arith, ap, sym, ◌≡◌, ◌∙◌, [], ◌≤◌, ◌+◌, ◌-◌, ◌++◌, take, length, map, refl, append-nil}
use Rattle.std.proofs.lemmas.List.{at_drop_all}
use Rattle.mdp_books.proofs.Ends.{begins, moved}
use Rattle.mdp_books.proofs.Printed.{within, has_room, count_of_ends, none_is_long, none_behind, GaveWay, printed_again}
use Rattle.mdp_books.proofs.printed_levels.PrintedLevels.truncate.Goals as goal

pub splice-requires : goal.splice-requires
splice-requires g c =
    let xs = c.self.inside.levels.items in
    let count = c.args.count in
    let all = c.len-all.result in
    let inside : all ≤ length xs = omega (arith, c.len-all.ensures.value) in
    let left : count + 0 + (length xs - all) ≤ g.row.CAPACITY = omega (arith, c.len-all.ensures.value, c.self.invariant.few) in
    let bounds = within c.self.invariant count all (omega arith) inside in
    let room = has_room c.self.invariant count all 0 [] (omega arith) inside (omega arith) left in
    let start : c.start_of-start.result ≡ begins count xs = c.start_of-start.ensures.value ∙ sym (ap (begins count) c.self.view_is) in
    let end : c.start_of-end.result ≡ begins all xs = c.start_of-end.ensures.value ∙ sym (ap (begins all) c.self.view_is) in
    rw (start, end) (search rules, (bounds.order, (bounds.inside, room)))

pub invariant_of-self : goal.invariant_of-self
invariant_of-self g c =
    let xs = c.self.inside.levels.items in
    let ends = c.self.inside.ends.items in
    let count = c.args.count in
    let all = c.len-all.result in
    let less = c.start_of-end.result - c.start_of-start.result in
    let next = c.truncate-then-count-all.new.self.items in
    let inside : all ≤ length xs = omega (arith, c.len-all.ensures.value) in
    let left : count + 0 + (length xs - all) ≤ g.row.CAPACITY = omega (arith, c.len-all.ensures.value, c.self.invariant.few) in
    let many : length ends ≤ all = omega (arith, c.len-all.ensures.value, count_of_ends c.self.invariant) in
    let bounds = within c.self.invariant count all (omega arith) inside in
    let start : c.start_of-start.result ≡ begins count xs = c.start_of-start.ensures.value ∙ sym (ap (begins count) c.self.view_is) in
    let end : c.start_of-end.result ≡ begins all xs = c.start_of-end.ensures.value ∙ sym (ap (begins all) c.self.view_is) in
    let none = at_drop_all (λ es. take count ends ++ map (moved less 0) es) ends all many ∙ append-nil (take count ends) in
    let edit : GaveWay count all less 0 xs [] next ends c.truncate.new.self.items c.self.inside.text [] c.splice.new.self = record {
      levels = c.truncate-then-count-all.ensures.items ∙ none_behind count all xs c.len-all.ensures.value;
      gone = omega (arith, start, end, bounds.order);
      come = refl;
      ended = c.truncate.ensures.items ∙ sym none;
      bytes = rw (← start, ← end) c.splice.ensures;
      says = refl;
      short = none_is_long;
    } in
    printed_again c.self.invariant edit (omega arith) inside left
