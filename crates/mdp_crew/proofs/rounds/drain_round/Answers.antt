use Rattle.std.proofs.Common.{◌∷◌, ◌++◌, ◌∙◌, [], List, refl, sym, ap, arith}
use Rattle.std.proofs.lemmas.List.{length-append}
use Rattle.mdp_reports.specs.declared.answer.Answer.{Answer}
use Rattle.mdp_crew.specs.TakenRounds.{last_of}
use Rattle.mdp_crew.proofs.Taking.{lasts_none, lasts_step, took_none, took_step}
use Rattle.mdp_crew.proofs.rounds.drain_round.Goals as goal

pub loop-n-init : goal.loop-n-init
loop-n-init g c = ([], refl, took_none _, lasts_none c.args.round.now)

pub loop-n-preserved : goal.loop-n-preserved
loop-n-preserved g c =
    let was = c.loop-n.invariant in
    let row : List (Answer g.row.A.Denot) = c.take_next.ensures.0 in (
      was.0 ++ row ∷ [],
      omega (arith, length-append was.0 (row ∷ []), was.1),
      took_step c.args.posts.now was.0 c.loop-n.posts c.loop-n.n c.index-posts-n.result row c.take_next.new.answers was.1 was.2 c.loop-n-test.true c.index-posts-n.is c.take_next.ensures.1,
      lasts_step c.args.round.now was.0 c.loop-n.round c.loop-n.n c.index-round-n.result row c.take_next.new.answer was.1 was.3 (omega (arith, c.loop-n-test.true, c.requires)) c.index-round-n.is (c.take_next.ensures.2 ∙ ap (λ a. last_of a row) (sym c.index-round-n.is)),
    )
