use Rattle.std.proofs.Common.{ℕ, length, length-append, subst, ap, arith}
use Rattle.std.proofs.lemmas.Result.{err_from_is_err_and}
use Rattle.mdp_sbe.specs.Framing.{parts}
use Rattle.mdp_sbe.specs.Group.{IsGrouped, IsRefusedGrouped}
use Rattle.mdp_templates.specs.Layout.IsRefusedLayout.{in_blocks}
use Rattle.mdp_templates.proofs.Layouts.{refused_layout}
use Rattle.mdp_templates.proofs.Spanning.{as_many}
use Rattle.mdp_templates.proofs.layout.read_layout.Goals as goal

pub returns-in_err-root-clause-refused : goal.returns-in_err-root-clause-refused
returns-in_err-root-clause-refused g c =
    let p = err_from_is_err_and c.from_residual.result c.from_residual.ensures.1 in
    let bad = subst (λ (n : ℕ). IsRefusedGrouped (parts c.args.message.now) c.args.least_root n c.in_err-root.field-0.0) c.LENGTH.ensures c.in_err-root.ensures.refused in
    rw (p.1, p.2) (in_blocks bad)

pub returns-in_err-read_entries-clause-refused : goal.returns-in_err-read_entries-clause-refused
returns-in_err-read_entries-clause-refused g c =
    let p = err_from_is_err_and c.from_residual-in_err-read_entries.result c.from_residual-in_err-read_entries.ensures.1 in
    let grouped = subst (λ (n : ℕ). IsGrouped (parts c.args.message.now) c.args.least_root n c.in_ok-root.root.now c.in_ok-root.group) c.LENGTH.ensures c.in_ok-root.ensures.ok in
    rw (p.1, p.2) (refused_layout g.E.GroupEntry.reads c.args.least_root g.E.GroupEntry.LENGTH (parts c.args.message.now) c.in_ok-root.root.now c.in_ok-root.group c.in_err-read_entries.field-0.0 grouped c.in_err-read_entries.ensures.refused)

pub returns-clause-ok : goal.returns-clause-ok
returns-clause-ok g c =
    let grouped = subst (λ (n : ℕ). IsGrouped (parts c.args.message.now) c.args.least_root n c.in_ok-root.root.now c.in_ok-root.group) c.LENGTH.ensures c.in_ok-root.ensures.ok in
    let adds = c.in_ok-read_entries.ensures.ok in
    record { more = adds.more; grown = adds.grown; is = record { texts = c.in_ok-root.group; grouped = grouped; each = adds.is } }

pub returns-clause-count : goal.returns-clause-count
returns-clause-count g c =
    let adds = c.in_ok-read_entries.ensures.ok in
    let many = as_many _ _ _ adds.is in
    omega (arith, ap length adds.grown, length-append c.args.list.now.items adds.more, many, c.len-count.ensures.count)
