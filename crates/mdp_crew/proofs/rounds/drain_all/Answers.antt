use Rattle.std.proofs.Common.{length, replicate, sym, ap, ◌∙◌, []}
use Rattle.std.specs.List.{list_any}
use Rattle.mdp_crew.specs.TakenRounds.{all_took, is_told, lasts}
use Rattle.mdp_crew.proofs.Taking.{joined, lasts_lasts, lasts_nothing, length-joined, length-lasts, length-nothing, length-took, took_nothing, took_took}
use Rattle.mdp_crew.proofs.rounds.drain_all.Goals as goal

pub drain_round-requires : goal.drain_round-requires
drain_round-requires g c =
    let was = c.loop.invariant in
    ap length was.3 ∙ length-lasts c.args.round.now was.0 ∙ c.requires ∙ sym (ap length was.2 ∙ length-took c.args.posts.now was.0)

pub loop-init : goal.loop-init
loop-init g c = (replicate (length c.args.posts.now) [], length-nothing _ [], took_nothing c.args.posts.now, lasts_nothing c.args.round.now (length c.args.posts.now))

pub loop-preserved : goal.loop-preserved
loop-preserved g c =
    let was = c.loop.invariant in
    let next = c.drain_round.ensures in (
      joined was.0 next.0,
      length-joined was.0 next.0 ∙ was.1,
      next.2 ∙ ap (λ l. all_took l next.0) was.2 ∙ took_took c.args.posts.now was.0 next.0 was.1,
      next.3 ∙ ap (λ l. lasts l next.0) was.3 ∙ lasts_lasts c.args.round.now was.0 next.0 (was.1 ∙ sym c.requires),
    )

pub returns-then-not-one_tells : goal.returns-then-not-one_tells
returns-then-not-one_tells g c =
    let was = c.loop.invariant in
    (was.0, was.1, was.2, ap (list_any is_told) (sym was.3) ∙ sym c.one_tells.ensures ∙ c.if-not-one_tells.true)
