use Rattle.std.proofs.Common.{sym, ap, ◌∙◌}
use Rattle.mdp_desks.specs.Shares.{is_kept_by}
use Rattle.mdp_reports.proofs.Owning.{own_taken, own_left, slot_taken, slot_left}
use Rattle.mdp_reports.proofs.worker.own_part.Goals.{then-is_own+in_ok-push+in_ok-push-2, else-is_own}
use Rattle.mdp_reports.proofs.worker.own_part.Goals as goal

pub loop-slot-preserved : goal.loop-slot-preserved
loop-slot-preserved g c =
    let mine = is_kept_by c.args.count c.args.number in
    let listed = c.args.listed.now in
    let slot = c.loop-slot.slot in
    let within = c.loop-slot-test.true in
    elim c.if-is_own.branch [
      | then-is_own+in_ok-push+in_ok-push-2 w ↦ record {
        slots = slot_taken mine listed slot c.loop-slot.slots.items c.if-is_own.slots.items _ within (sym c.is_own.ensures ∙ w.if-is_own.true) (ap (λ v. v.items) w.slots-is ∙ w.in_ok-push.ensures.items) c.loop-slot.invariant.slots;
        securities = own_taken mine listed slot _ _ c.loop-slot.securities.items c.if-is_own.securities.items _ within (sym c.is_own.ensures ∙ w.if-is_own.true) (w.copy.ensures ∙ w.index-listed-slot.is) (ap (λ v. v.items) w.securities-is ∙ w.in_ok-push-2.ensures.items) c.loop-slot.invariant.securities;
      }
      | else-is_own w ↦ record {
        slots = slot_left mine listed slot c.loop-slot.slots.items c.if-is_own.slots.items _ within (sym c.is_own.ensures ∙ w.if-is_own.false) (ap (λ v. v.items) w.slots-is) c.loop-slot.invariant.slots;
        securities = own_left mine listed slot c.loop-slot.securities.items c.if-is_own.securities.items _ within (sym c.is_own.ensures ∙ w.if-is_own.false) (ap (λ v. v.items) w.securities-is) c.loop-slot.invariant.securities;
      }
    ]
