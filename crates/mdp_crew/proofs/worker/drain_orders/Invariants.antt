use Rattle.std.proofs.Common.{◌≡◌, ◌++◌, List, map}
use Rattle.mdp_arbiter.specs.Machine.{Move}
use Rattle.mdp_crew.specs.declared.order.Order.TheVariants.{Take}
use Rattle.mdp_crew.proofs.worker.drain_orders.Given as goal

abbrev pub invariant-loop : goal.invariant-loop
invariant-loop g l = (batches : List (List Move)) × (l.orders ≡ record l.fn.orders { taken = l.fn.orders.taken ++ map Take batches })
