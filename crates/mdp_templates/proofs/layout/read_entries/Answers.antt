use Rattle.std.proofs.Common.{◌≡◌, ◌++◌, ◌∷◌, [], sym, ap, ◌∙◌, add-one, append_assoc, List, ℕ, Ok}
use Rattle.std.proofs.lemmas.List.{append-nil}
use Rattle.std.proofs.lemmas.Result.{err_from_is_err_and}
use Rattle.mdp_templates.proofs.Layouts.{AllZip-more, refused_at}
use Rattle.mdp_templates.proofs.layout.read_entries.Goals as goal

pub loop-n-init : goal.loop-n-init
loop-n-init g c = record { more = []; grown = c.in_ok-reserve.ensures.items ∙ sym (append-nil c.args.list.now.items); is = tt }

pub returns-in_err-entry-clause-refused : goal.returns-in_err-entry-clause-refused
returns-in_err-entry-clause-refused g c =
    let p = err_from_is_err_and c.from_residual-in_err-entry.result c.from_residual-in_err-entry.ensures.1 in
    rw (p.1, p.2) (refused_at g.E.GroupEntry.reads c.args.group.now c.loop-n.n c.entry.result.now c.loop-n.invariant.more c.in_err-entry.field-0.0 c.loop-n.invariant.is c.entry.ensures (sym c.in_err-entry.ensures))

pub loop-n-preserved : goal.loop-n-preserved
loop-n-preserved g c =
    let so_far = c.loop-n.invariant.more in
    let entry = c.in_ok-entry.entry in
    let each = AllZip-more (λ (text : List ℕ) (e : g.row.E.Denot). g.E.GroupEntry.reads text ≡ Ok e) c.args.group.now c.loop-n.n c.entry.result.now so_far entry c.loop-n.invariant.is c.entry.ensures (sym c.in_ok-entry.ensures) in
    record {
      more = so_far ++ entry ∷ [];
      grown = c.in_ok-push.ensures.items ∙ ap (λ (es : List g.row.E.Denot). es ++ entry ∷ []) c.loop-n.invariant.grown ∙ append_assoc c.args.list.now.items so_far (entry ∷ []);
      is = rw add-one each;
    }
