-- What the arbiter sends to each worker.
use Rattle.std.specs.Prelude.{◌++◌, List, [], ◌∷◌, map}
use Rattle.mdp_lanes.specs.Queues.{LaneSenderView}
use Rattle.mdp_arbiter.specs.Machine.{Move}
use Rattle.mdp_crew.specs.declared.order.Order.{Order}
use Rattle.mdp_crew.specs.declared.order.Order.TheVariants.{Take, Done}

-- batches of moves, and then that there are no more
abbrev pub orders_of : {A : Type 0} → List (List Move) → List (Order A)
orders_of batches = map Take batches ++ Done ∷ []

-- the lane with these orders more
abbrev pub and_sent : {A : Type 0} → List (Order A) → LaneSenderView (Order A) → LaneSenderView (Order A)
and_sent orders sender = record sender { sent = sender.sent ++ orders }
