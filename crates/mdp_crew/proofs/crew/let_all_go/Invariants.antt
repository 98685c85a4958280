use Rattle.std.proofs.Common.{◌≡◌, List, ◌++◌, vec_len}
use Rattle.mdp_lanes.specs.Queues.{LaneSenderView}
use Rattle.mdp_crew.specs.declared.order.Order.{Order}
use Rattle.mdp_crew.specs.declared.crew.Post.{Post}
use Rattle.std.specs.List.{AllZip}
use Rattle.mdp_crew.specs.Crew.{IsHired, IsSettled}
use Rattle.mdp_crew.proofs.crew.let_all_go.Given as goal

abbrev pub invariant-loop-post : goal.invariant-loop-post
invariant-loop-post g l =
    AllZip IsHired l.senders.items l.posts.items
    × ((gone : List (LaneSenderView (Order g.row.A.Denot))) × (left : List (Post g.row.A.Denot))
    × (l.fn.senders.items ≡ l.senders.items ++ gone) × (l.fn.posts.items ≡ l.posts.items ++ left) × AllZip IsSettled gone left)

abbrev pub decreases-loop-post : goal.decreases-loop-post
decreases-loop-post g l = vec_len l.posts
