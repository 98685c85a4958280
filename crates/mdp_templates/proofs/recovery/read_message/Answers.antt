use Rattle.std.proofs.lemmas.Result.{err_from_is_err_and}
use Rattle.mdp_sbe.specs.Framing.{parts}
use Rattle.mdp_templates.proofs.Messages.{adds_nothing, adds_snapshot, refused_recovery}
use Rattle.mdp_templates.proofs.recovery.read_message.Goals as goal

pub returns-then-message-ne-SNAPSHOT-clause-ok : goal.returns-then-message-ne-SNAPSHOT-clause-ok
returns-then-message-ne-SNAPSHOT-clause-ok g c =
    adds_nothing (parts c.args.message.now) c.args.list.now.items c.if-message-ne-SNAPSHOT.true

pub returns-clause-ok : goal.returns-clause-ok
returns-clause-ok g c =
    adds_snapshot (parts c.args.message.now) c.args.list.now.items c.read_snapshot.new.list.items c.if-message-ne-SNAPSHOT.false c.in_ok-read_snapshot.ensures.ok

pub returns-in_err-read_snapshot-clause-refused : goal.returns-in_err-read_snapshot-clause-refused
returns-in_err-read_snapshot-clause-refused g c =
    let p = err_from_is_err_and c.from_residual.result c.from_residual.ensures.1 in
    rw (p.1, p.2) (refused_recovery (parts c.args.message.now) c.in_err-read_snapshot.field-0.0 c.if-message-ne-SNAPSHOT.false c.in_err-read_snapshot.ensures.refused)
