use Rattle.std.proofs.Common.{List, Option, subst, sym}
use Rattle.std.proofs.lemmas.Result.{err_from_is_err_and}
use Rattle.mdp_sbe.specs.Framing.{parts}
use Rattle.mdp_templates.specs.declared.quote.Quote.{Quote}
use Rattle.mdp_templates.specs.Layout.{IsLaidOut}
use Rattle.mdp_templates.specs.Recovery.{full_refresh}
use Rattle.mdp_templates.specs.Side.{AreAllShallow}
use Rattle.mdp_templates.proofs.Messages.{adds_whole, refused_sides, refused_snapshot}
use Rattle.mdp_templates.proofs.Spanning.{adds_to_none}
use Rattle.mdp_templates.proofs.Sides.{are_all_shallow}
use Rattle.mdp_templates.proofs.recovery.read_snapshot.Goals as goal

pub returns-in_err-root-clause-refused : goal.returns-in_err-root-clause-refused
returns-in_err-root-clause-refused g c =
    let p = err_from_is_err_and c.from_residual.result c.from_residual.ensures.1 in
    rw (p.1, p.2) (refused_snapshot (parts c.args.message.now) c.in_err-root.field-0.0 c.in_err-root.ensures.refused)

pub add_snapshot-requires-clause-shallow : goal.add_snapshot-requires-clause-shallow
add_snapshot-requires-clause-shallow g c =
    let laid_out = adds_to_none (IsLaidOut full_refresh (parts c.args.message.now) c.in_ok-root.root.now) c.new-quotes.result.items c.read_layout.new.list.items c.new-quotes.ensures.items c.in_ok-root.ensures.ok in
    subst (λ (qs : List (Option Quote)). AreAllShallow qs) (sym c.deref.ensures.value) (are_all_shallow laid_out.texts c.read_layout.new.list.items laid_out.each)

pub returns-in_err-add_snapshot-clause-refused : goal.returns-in_err-add_snapshot-clause-refused
returns-in_err-add_snapshot-clause-refused g c =
    let p = err_from_is_err_and c.from_residual-in_err-add_snapshot.result c.from_residual-in_err-add_snapshot.ensures.1 in
    let laid_out = adds_to_none (IsLaidOut full_refresh (parts c.args.message.now) c.in_ok-root.root.now) c.new-quotes.result.items c.read_layout.new.list.items c.new-quotes.ensures.items c.in_ok-root.ensures.ok in
    let same = c.deref.ensures.value in
    rw (p.1, p.2) (refused_sides (parts c.args.message.now) c.in_ok-root.root.now c.read_layout.new.list.items c.deref.result.now c.in_err-add_snapshot.field-0.0 same laid_out c.in_err-add_snapshot.ensures.refused)

pub returns-clause-ok : goal.returns-clause-ok
returns-clause-ok g c =
    let laid_out = adds_to_none (IsLaidOut full_refresh (parts c.args.message.now) c.in_ok-root.root.now) c.new-quotes.result.items c.read_layout.new.list.items c.new-quotes.ensures.items c.in_ok-root.ensures.ok in
    adds_whole (parts c.args.message.now) c.in_ok-root.root.now c.read_layout.new.list.items c.deref.result.now c.args.list.now.items c.add_snapshot.new.list.items c.deref.ensures.value laid_out c.in_ok-add_snapshot.ensures.ok
