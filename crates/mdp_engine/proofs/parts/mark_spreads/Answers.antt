use Rattle.std.proofs.Common.{◌≡◌, ◌<◌, ◌∙◌, ℕ, List, [], true, false, length, get_or, ap, sym, subst, arith}
use Rattle.std.specs.Prelude.{All}
use Rattle.std.specs.List.{Contains}
use Rattle.mdp_engine.specs.Parts.{lists_in}
use Rattle.mdp_engine.proofs.Noting.{all_of, due_more, list_there}
use Rattle.mdp_engine.proofs.parts.mark_spreads.Goals as goal

pub mark_each-requires : goal.mark_each-requires
mark_each-requires g c =
    let slot = c.in-Some.slot in
    let parts = c.args.parts.now in
    let less : slot < length parts = omega (arith, c.in-Some.ensures.some.inside, c.requires.many) in
    let here : c.deref.result.now ≡ get_or (lists_in parts) slot [] = c.deref.ensures.value ∙ ap (λ v. v.items) c.index-parts-slot.is ∙ sym (list_there parts slot _ less) in
    let long = c.loop-slot.invariant.long in
    all_of (λ n. n < length c.loop-slot.due) c.deref.result.now (λ n there.
    let below = c.requires.within slot n (subst (λ (xs : List ℕ). Contains xs n) here there) in
    omega (arith, below, long))

pub loop-slot-preserved : goal.loop-slot-preserved
loop-slot-preserved g c =
    let slot = c.in-Some.slot in
    let parts = c.args.parts.now in
    let first = c.in-Some.ensures.some in
    let less : slot < length parts = omega (arith, first.inside, c.requires.many) in
    let here : c.deref.result.now ≡ get_or (lists_in parts) slot [] = c.deref.ensures.value ∙ ap (λ v. v.items) c.index-parts-slot.is ∙ sym (list_there parts slot _ less) in
    let marked = subst (λ (xs : List ℕ). All (λ n. get_or c.mark_each.new.due n false ≡ true) xs) here c.mark_each.ensures.marked in
    record {
      inside = omega (arith, first.inside);
      long = c.mark_each.ensures.long ∙ c.loop-slot.invariant.long;
      due = due_more c.args.marked.now (lists_in parts) c.loop-slot.due c.mark_each.new.due c.loop-slot.from slot _ first c.mark_each.ensures.kept marked c.loop-slot.invariant.due;
    }
