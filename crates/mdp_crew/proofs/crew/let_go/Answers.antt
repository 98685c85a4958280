use Rattle.mdp_crew.specs.Shares.{share_in}
use Rattle.mdp_crew.proofs.Settling.{settled}
use Rattle.mdp_crew.proofs.crew.let_go.Goals as goal

pub returns : goal.returns
returns g c =
    let promise = c.args.post.handle.promise in
    settled (share_in promise.share.value) promise.ends.value c.join-orders.result
    c.args.sender.sent c.args.post.answers.taken c.join-orders.ensures c.settle.ensures.front c.settle-2.ensures.front
