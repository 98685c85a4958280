use Rattle.std.proofs.Common.{◌≡◌, ◌∙◌, ap, arith}
use Rattle.std.specs.Option.{is_none}
use Rattle.std.proofs.lemmas.Grind.{common_steps}
use Rattle.mdp_arbiter.proofs.Fresh.{none_stale}
use Rattle.mdp_arbiter.proofs.fresh_front.FreshFront.are_all_fresh.Goals as goal

pub returns-clause-tells : goal.returns-clause-tells
returns-clause-tells c =
    let tells : c.is_none.result ≡ is_none c.first_stale.result = grind (arith, common_steps, c.is_none.ensures) in
    tells ∙ ap is_none c.first_stale.ensures.stale ∙ none_stale c.args.room c.args.top c.args.newest.now
