use Rattle.std.proofs.Common.{◌≡◌, ◌<◌, ◌+◌, ◌∷◌, length, drop, refl, ◌∙◌, arith}
use Rattle.mdp_c.specs.Changed.{slots_of}
use Rattle.mdp_c.proofs.Slots.{few_slots, next_found, no_more, none_found, one_less, slots_left, some_left}
use Rattle.mdp_c.proofs.changed.count_slots.Goals as goal

pub loop-slot-init : goal.loop-slot-init
loop-slot-init c = record { left = refl; few = omega arith }

pub overflow_add-count : goal.overflow_add-count
overflow_add-count c =
    let marks = c.args.marked.now in
    let slot = c.in-Some.slot in
    let left : drop c.loop-slot.count (slots_of marks) ≡ slot ∷ slots_left marks (slot + 1) = c.loop-slot.invariant.left ∙ next_found marks c.loop-slot.from slot c.in-Some.ensures.some in
    let below : c.loop-slot.count < length (slots_of marks) = some_left (slots_of marks) (slots_left marks (slot + 1)) c.loop-slot.count slot left in
    grind (arith, below, few_slots marks)

pub loop-slot-preserved : goal.loop-slot-preserved
loop-slot-preserved c =
    let marks = c.args.marked.now in
    let slot = c.in-Some.slot in
    let more = slots_left marks (slot + 1) in
    let left : drop c.loop-slot.count (slots_of marks) ≡ slot ∷ more = c.loop-slot.invariant.left ∙ next_found marks c.loop-slot.from slot c.in-Some.ensures.some in
    record { left = one_less (slots_of marks) more c.loop-slot.count slot left; few = omega (arith, some_left (slots_of marks) more c.loop-slot.count slot left) }

pub returns : goal.returns
returns c =
    let marks = c.args.marked.now in
    no_more (slots_of marks) c.loop-slot.count (c.loop-slot.invariant.left ∙ none_found marks c.loop-slot.from c.in_default.ensures.none) c.loop-slot.invariant.few
