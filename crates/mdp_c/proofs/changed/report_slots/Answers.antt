use Rattle.std.proofs.Common.{◌<◌, ℕ, length, refl, subst}
use Rattle.mdp_c.specs.Changed.{slots_of}
use Rattle.mdp_c.proofs.Filling.{fits, full}
use Rattle.mdp_c.proofs.changed.report_slots.Goals as goal

pub returns-in-Some-clause-status : goal.returns-in-Some-clause-status
returns-in-Some-clause-status c =
    let room = length c.args.slots.now in
    rw (full (length (slots_of c.args.marked.now)) room (subst (λ (many : ℕ). room < many) c.in-Some.ensures.some.0 c.in-Some.ensures.some.1)) refl

pub returns-in-Some-clause-slots : goal.returns-in-Some-clause-slots
returns-in-Some-clause-slots c =
    let room = length c.args.slots.now in
    rw (full (length (slots_of c.args.marked.now)) room (subst (λ (many : ℕ). room < many) c.in-Some.ensures.some.0 c.in-Some.ensures.some.1)) refl

pub returns-clause-status : goal.returns-clause-status
returns-clause-status c = rw (fits (length (slots_of c.args.marked.now)) (length c.args.slots.now) c.in_default.ensures.none) refl

pub returns-clause-slots : goal.returns-clause-slots
returns-clause-slots c = rw (fits (length (slots_of c.args.marked.now)) (length c.args.slots.now) c.in_default.ensures.none) c.put_slots.ensures.slots
