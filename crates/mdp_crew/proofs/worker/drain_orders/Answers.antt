use Rattle.std.proofs.Common.{◌≡◌, true, false, ◌∷◌, ◌++◌, [], sym, subst}
use Rattle.std.specs.Prelude.{Option, IsSome}
use Rattle.mdp_lanes.specs.Queues.{LaneReceiverView}
use Rattle.mdp_crew.specs.declared.order.Order.{Order}
use Rattle.mdp_crew.specs.Answering.{HasDrained}
use Rattle.mdp_crew.proofs.Working.{drained_more, drained_end}
use Rattle.mdp_crew.proofs.worker.drain_orders.Goals.{in-None, in-Some+in-Done}
use Rattle.mdp_crew.proofs.worker.drain_orders.Goals as goal

pub loop-preserved-in-Take : goal.loop-preserved-in-Take
loop-preserved-in-Take g c =
    let was = c.loop.invariant in
    (was.0 ++ c.in-Take.field-0 ∷ [], drained_more c.args.orders.now c.loop.orders c.take.new.self was.0 c.in-Take.field-0 c.take.result was.1 c.take.ensures c.in-Take.is)

pub returns : goal.returns
returns g c = elim c.match-next.branch [
  | in-None w ↦ let apart : false ≡ true = subst (λ (o : Option (Unit {0})). IsSome o) w.in-None.is c.next.ensures.steps in absurd cc
  | in-Some+in-Done w ↦ subst (λ (s : LaneReceiverView (Order g.row.A.Denot)). HasDrained c.args.orders.now s) (sym w.orders-is)
      (drained_end c.args.orders.now c.loop.orders w.take.new.self c.loop.invariant.0 w.take.result c.loop.invariant.1 w.take.ensures w.in-Done.is)
]
