use Rattle.std.proofs.Common.{◌≡◌, List, ℕ, ◌+◌, ◌∷◌, length, drop, refl, ap, ◌∙◌, arith}
use Rattle.std.proofs.Math.ListN.{set}
use Rattle.mdp_c.specs.Changed.{slots_of}
use Rattle.mdp_c.proofs.Filling.{all_filled, one_filled}
use Rattle.mdp_c.proofs.Slots.{next_found, no_more, none_found, one_less, slots_left, some_left}
use Rattle.mdp_c.proofs.changed.put_slots.Goals as goal

pub loop-slot-init : goal.loop-slot-init
loop-slot-init c = record { left = refl; few = omega arith; put = refl }

pub bounds-slots-count : goal.bounds-slots-count
bounds-slots-count c =
    let marks = c.args.marked.now in
    let slot = c.in-Some.slot in
    let left : drop c.loop-slot.count (slots_of marks) ≡ slot ∷ slots_left marks (slot + 1) = c.loop-slot.invariant.left ∙ next_found marks c.loop-slot.from slot c.in-Some.ensures.some in
    omega (arith, some_left (slots_of marks) (slots_left marks (slot + 1)) c.loop-slot.count slot left)

pub loop-slot-preserved : goal.loop-slot-preserved
loop-slot-preserved c =
    let marks = c.args.marked.now in
    let slot = c.in-Some.slot in
    let count = c.loop-slot.count in
    let all = slots_of marks in
    let more = slots_left marks (slot + 1) in
    let left : drop count all ≡ slot ∷ more = c.loop-slot.invariant.left ∙ next_found marks c.loop-slot.from slot c.in-Some.ensures.some in
    record {
      left = one_less all more count slot left;
      few = omega (arith, some_left all more count slot left);
      put = ap (λ (slots : List ℕ). set slots count slot) c.loop-slot.invariant.put ∙ one_filled count all c.args.slots.now more slot left c.requires;
    }

pub returns : goal.returns
returns c =
    let marks = c.args.marked.now in
    let all = slots_of marks in
    let every : c.loop-slot.count ≡ length all = no_more all c.loop-slot.count (c.loop-slot.invariant.left ∙ none_found marks c.loop-slot.from c.in_default.ensures.none) c.loop-slot.invariant.few in
    record { count = every; slots = c.loop-slot.invariant.put ∙ all_filled c.loop-slot.count all c.args.slots.now every }
