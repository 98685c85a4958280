use Rattle.std.proofs.Common.{length, refl, ap, ◌∙◌, arith}
use Rattle.mdp_c.proofs.Filling.{fits}
use Rattle.mdp_c.proofs.Slots.{none_changed}
use Rattle.mdp_c.proofs.changed.mdp_changed.Goals as goal

pub returns-then-is_clear-clause-status : goal.returns-then-is_clear-clause-status
returns-then-is_clear-clause-status c =
    let none = none_changed _ _ c.args.handle.now.held (c.is_clear.ensures.0 c.if-is_clear.true) c.changed-marked.ensures.now (c.session.ensures.session ∙ ap (λ h. h.held) c.is_open.ensures.0) in
    rw (none, fits 0 (length c.args.slots.now) (omega arith)) refl

pub returns-then-is_clear-clause-slots : goal.returns-then-is_clear-clause-slots
returns-then-is_clear-clause-slots c =
    let none = none_changed _ _ c.args.handle.now.held (c.is_clear.ensures.0 c.if-is_clear.true) c.changed-marked.ensures.now (c.session.ensures.session ∙ ap (λ h. h.held) c.is_open.ensures.0) in
    rw (none, fits 0 (length c.args.slots.now) (omega arith)) refl

pub returns-then-is_clear-clause-count : goal.returns-then-is_clear-clause-count
returns-then-is_clear-clause-count c =
    let none = none_changed _ _ c.args.handle.now.held (c.is_clear.ensures.0 c.if-is_clear.true) c.changed-marked.ensures.now (c.session.ensures.session ∙ ap (λ h. h.held) c.is_open.ensures.0) in
    rw none refl
