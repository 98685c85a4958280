use Rattle.std.proofs.Common.{◌≡◌, ◌∷◌, [], List, length, refl, sym, ap, ◌∙◌, arith}
use Rattle.std.proofs.lemmas.List.{length-append}
use Rattle.mdp_crew.specs.TakenRounds.{one_each, all_took}
use Rattle.mdp_reports.specs.declared.answer.Answer.{Answer}
use Rattle.mdp_crew.proofs.Taking.{took_none, took_step, each-push, length-each}
use Rattle.mdp_crew.proofs.rounds.take_round.Goals as goal

pub loop-post-init : goal.loop-post-init
loop-post-init g c =
    let none = c.requires.empty in
    let long : length c.args.round.now.items ≡ 0 = ap length none in
    (long, took_none c.args.posts.now ∙ ap (λ (l : List (Answer g.row.A.Denot)). all_took c.args.posts.now (one_each l)) (sym none), refl, omega (arith, long))

pub loop-post-preserved : goal.loop-post-preserved
loop-post-preserved g c =
    let was = c.loop-post.invariant in
    let answers : List (Answer g.row.A.Denot) = c.loop-post.round.items in (
      omega (arith, ap length c.push_reserved.ensures.items, length-append answers (c.take.result ∷ []), was.0),
      took_step c.args.posts.now (one_each answers) c.loop-post.posts c.loop-post.post-index c.post-item.result (c.take.result ∷ []) c.take.new.self (length-each answers ∙ was.0) was.1 c.loop-post-test.true c.post-item.is c.take.ensures
          ∙ ap (all_took c.args.posts.now) (sym (each-push answers c.take.result))
          ∙ ap (λ (l : List (Answer g.row.A.Denot)). all_took c.args.posts.now (one_each l)) (sym c.push_reserved.ensures.items),
      c.push_reserved.ensures.capacity ∙ was.2,
      omega (arith, c.push_reserved.ensures.len, was.3),
    )
