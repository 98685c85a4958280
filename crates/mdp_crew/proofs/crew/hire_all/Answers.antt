use Rattle.std.proofs.Common.{◌+◌, ℕ, List, sym, ap, ◌∙◌, subst, ◌≡◌, arith}
use Rattle.mdp_lanes.specs.Queues.{LaneSenderView}
use Rattle.mdp_crew.specs.declared.order.Order.{Order}
use Rattle.mdp_crew.specs.declared.crew.Post.{Post}
use Rattle.mdp_crew.specs.Crew.{IsCrew}
use Rattle.mdp_crew.specs.Shares.{share_of}
use Rattle.mdp_crew.proofs.Hiring.{crew_more}
use Rattle.mdp_crew.proofs.crew.hire_all.Goals as goal

pub loop-number-preserved : goal.loop-number-preserved
loop-number-preserved g c =
    let was = c.loop-number.invariant in
    let here : c.loop-number.number ≡ 0 + c.loop-number.number = omega arith in
    record {
      crew =
          subst (λ (q : List (LaneSenderView (Order g.row.A.Denot)) × List (Post g.row.A.Denot)). IsCrew (share_of c.args.listed.now c.args.workers 0) (c.loop-number.number + 1) q.0 q.1) (λ i. (sym c.push_reserved.ensures.items i, sym c.push_reserved-in-Ok.ensures.items i))
          (crew_more (share_of c.args.listed.now c.args.workers 0) c.loop-number.number c.loop-number.number c.loop-number.senders.items c.loop-number.posts.items c.in-Ok.sender c.in-Ok.post was.crew here c.in-Ok.ensures.fresh c.in-Ok.ensures.hired c.in-Ok.ensures.numbered);
      senders = c.push_reserved.ensures.len ∙ ap (λ (n : ℕ). n + 1) was.senders;
      posts = c.push_reserved-in-Ok.ensures.len ∙ ap (λ (n : ℕ). n + 1) was.posts;
      senders_room = c.push_reserved.ensures.capacity ∙ was.senders_room;
      posts_room = c.push_reserved-in-Ok.ensures.capacity ∙ was.posts_room;
    }
