use Rattle.std.proofs.Common.{◌≡◌, ap, ◌∙◌, replicate, rules}
use Rattle.mdp_desks.specs.Beside.{marks_in}
use Rattle.mdp_desks.proofs.Searching.{none_in, none_within}
use Rattle.mdp_desks.proofs.marked.Marked.none.Goals as goal

pub invariant_of-result : goal.invariant_of-result
invariant_of-result g c =
    let is : c.in_ok-vec.field-0.items ≡ replicate c.args.count 0 = search rules in
    none_within c.in_ok-vec.field-0.items c.args.count is

pub returns : goal.returns
returns g c =
    let is : c.in_ok-vec.field-0.items ≡ replicate c.args.count 0 = search rules in
    ap marks_in is ∙ none_in c.args.count
